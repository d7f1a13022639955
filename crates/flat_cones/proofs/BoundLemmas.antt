-- The constraints of a side, one after another, and clauses with their names so far.
use Rattle.std.proofs.Common.{◌≡◌, ℕ, ◌+◌, ◌<◌, ◌≤◌, Some, None, List, [], ◌∷◌, ◌++◌, map, take, length, get_or, sym, ap, ◌∙◌, inl, inr, arith, suc, length-take, true}
use Rattle.std.specs.Prelude.{slice_get}
use Rattle.std.specs.Option.{option_map, IsSome}
use Rattle.std.specs.List.{AllByRecursion}
use Rattle.std.proofs.lemmas.List.{length-map, take_all, map-append}
use Rattle.std.proofs.lemmas.Option.{none-some, slice_get_cases, slice_get-get_or, slice_get_within, slice_get-map}
use Rattle.lits.specs.Clause.{has}
use Rattle.lits.specs.Same.{same_node}
use Rattle.lits.specs.declared.node.Side.{Side}
use Rattle.lits.specs.declared.node.Node.{Node}
use Rattle.lits.specs.declared.literal.Lit.{Lit}
use Rattle.lits.specs.declared.step.Ref.{Ref}
use Rattle.lits.specs.declared.step.Ref.TheVariants.{Bound}
use Rattle.lits.specs.declared.step.Named.{Named}
use Rattle.lits.proofs.Facts.{take_next, all-slice_get}
use Rattle.netlist.specs.Circuit.{most}
use Rattle.netlist.specs.Net.{AigPair, IsNet, circuit_of, lit_named, bounds_on, bound_of}
use Rattle.netlist.specs.Miter.{axioms_of, unit, variable_of, variables_of}
use Rattle.netlist.proofs.Facts.{is_circuit, bound-there, has-variable, over-variables}
use Rattle.lemma_book.specs.Cone.{named_from, nodes_in, AreThere}
use Rattle.lemma_book.proofs.Facts.{is_some-variable}

-- the nodes of the literals so far and of the next one
pub lits-next : (ls : List Lit) (k : ℕ) (d : Lit) → k < length ls → take (k + 1) ls ≡ take k ls ++ get_or ls k d ∷ []
lits-next ls k d below = take_next ls k (get_or ls k d) (slice_get-get_or ls k d below)

pub nodes-next : (ls : List Lit) (k : ℕ) (d : Lit) → k < length ls → nodes_in (take k ls) ++ (get_or ls k d).node ∷ [] ≡ nodes_in (take (k + 1) ls)
nodes-next ls k d below =
    sym (map-append (λ (x : Lit). x.node) (take k ls) (get_or ls k d ∷ [])) ∙ ap nodes_in (sym (lits-next ls k d below))

past : {X : Type 0} (xs : List X) (k : ℕ) → slice_get xs k ≡ None → length xs ≤ k
past xs k none = elim (slice_get_cases xs k).1 [
  | inl found ↦ absurd (none-some found.0 (sym none ∙ found.2))
  | inr behind ↦ behind.0
]

named_from-push : (name : ℕ → Ref) (cs : List (List Lit)) (c : List Lit) (j : ℕ)
    → named_from name j (cs ++ c ∷ []) ≡ named_from name j cs ++ record { clause = c; by = name (j + length cs) } ∷ []
named_from-push name [] c j = let e : j ≡ j + 0 = omega arith in ap (λ (k : ℕ). record { clause = c; by = name k } ∷ []) e
named_from-push name (d ∷ ds) c j =
    let e : (j + 1) + length ds ≡ j + suc (length ds) = omega arith in
    ap (λ (l : List Named). record { clause = d; by = name j } ∷ l)
    (named_from-push name ds c (j + 1) ∙ ap (λ (k : ℕ). named_from name (j + 1) ds ++ record { clause = c; by = name k } ∷ []) e)

-- the named clauses so far and the next one
pub named-next : (name : ℕ → Ref) (cs : List (List Lit)) (k : ℕ) (c : List Lit) → slice_get cs k ≡ Some c
    → named_from name 0 (take k cs) ++ record { clause = c; by = name k } ∷ [] ≡ named_from name 0 (take (k + 1) cs)
named-next name cs k c at =
    let below = slice_get_within cs k c at in
    let count : 0 + length (take k cs) ≡ k = omega (arith, length-take k cs) in
    ap (λ (i : ℕ). named_from name 0 (take k cs) ++ record { clause = c; by = name i } ∷ []) (sym count)
    ∙ sym (named_from-push name (take k cs) c 0) ∙ ap (named_from name 0) (sym (take_next cs k c at))

module _ (net : AigPair) (side : Side) (k : ℕ) where
  -- a constraint's place is below their number, which is small
  pub bound-below : (l : Lit) → bound_of net side k ≡ Some l → k < length (bounds_on net side)
  bound-below l at = slice_get_within (bounds_on net side) k l at

  pub bound-few : IsNet net → (l : Lit) → bound_of net side k ≡ Some l → k < most
  bound-few is l at =
      let below = bound-below l at in
      let count = length-map (circuit_of net side).constraints (lit_named side (circuit_of net side)) in
      let few = (is_circuit net is side).constraint_count in
      omega (arith, below, count, few)

  -- its node has a variable
  pub bound-variable : IsNet net → (l : Lit) → bound_of net side k ≡ Some l → IsSome (variable_of net l.node)
  bound-variable is l at = is_some-variable net l.node ∙ has-variable net l.node (bound-there net is side k l at)

  pub bound-next : (l : Lit) → bound_of net side k ≡ Some l
      → nodes_in (take k (bounds_on net side)) ++ l.node ∷ [] ≡ nodes_in (take (k + 1) (bounds_on net side))
  bound-next l at =
      sym (map-append (λ (x : Lit). x.node) (take k (bounds_on net side)) (l ∷ [])) ∙ ap nodes_in (sym (take_next (bounds_on net side) k l at))

  pub bound-end : bound_of net side k ≡ None → take k (bounds_on net side) ≡ bounds_on net side
  bound-end none = take_all k (bounds_on net side) (past (bounds_on net side) k none)

  -- so with the units and their names
  pub unit-next : (l : Lit) → bound_of net side k ≡ Some l
      → named_from (Bound side) 0 (take k (map unit (bounds_on net side))) ++ record { clause = unit l; by = Bound side k } ∷ []
      ≡ named_from (Bound side) 0 (take (k + 1) (map unit (bounds_on net side)))
  unit-next l at =
      named-next (Bound side) (map unit (bounds_on net side)) k (unit l)
      (slice_get-map unit (bounds_on net side) k ∙ ap (option_map unit) at)

  pub unit-end : bound_of net side k ≡ None → take k (map unit (bounds_on net side)) ≡ map unit (bounds_on net side)
  unit-end none =
      let behind = past (bounds_on net side) k none in
      let count = length-map (bounds_on net side) unit in
      take_all k (map unit (bounds_on net side)) (omega (arith, behind, count))

-- the literals of a node's clauses are over nodes that have variables
pub axiom-there : (net : AigPair) → IsNet net → (n : Node) → IsSome (variable_of net n) → (k : ℕ) (c : List Lit)
    → slice_get (axioms_of net n) k ≡ Some c → AreThere net c
axiom-there net is n there k c at =
    each c (all-slice_get (λ (d : List Lit). AllByRecursion (λ l. has same_node (variables_of net) l.node ≡ true) d) (axioms_of net n) k c
    (over-variables net is n (sym (is_some-variable net n) ∙ there)) at)
  where
    each : (ls : List Lit) → AllByRecursion (λ l. has same_node (variables_of net) l.node ≡ true) ls → AreThere net ls
    each [] all = tt
    each (l ∷ ls) all = (is_some-variable net l.node ∙ all.0, each ls all.1)
