-- An axiom is the clause of the miter that has its number, and so is the unit of a constraint.
use Rattle.std.proofs.Common.{◌≡◌, ℕ, ◌+◌, ◌-◌, ◌<◌, ◌≤◌, Bool, true, false, eqb, Option, None, Some, List, [], ◌∷◌, ◌++◌, length, map, refl, sym, ap, ◌∙◌, subst, arith, zero-add, length-append}
use Rattle.std.specs.Prelude.{slice_get, nat_lt}
use Rattle.std.specs.List.{flat_map, AllByRecursion}
use Rattle.std.specs.Option.{option_map, option_map_or}
use Rattle.std.proofs.lemmas.List.{length-map}
use Rattle.std.proofs.lemmas.Option.{none-some, slice_get_within, slice_get-map}
use Rattle.lits.specs.Clause.{has}
use Rattle.lits.specs.declared.node.Side.{Side}
use Rattle.lits.specs.declared.node.Side.TheVariants.{A, B}
use Rattle.lits.specs.declared.node.Node.{Node}
use Rattle.lits.specs.declared.node.Node.TheVariants.{Const, Input, Gate, Xor}
use Rattle.lits.specs.declared.literal.Lit.{Lit}
use Rattle.netlist.specs.declared.gate.And.{And}
use Rattle.netlist.specs.Place.{before}
use Rattle.netlist.specs.Net.{AigPair, IsNet, bound_of, bounds_of, bounds_on, circuit_of, definition_of, gate_at, lit_named, output_of}
use Rattle.lits.specs.Same.{same_node}
use Rattle.lits.proofs.Facts.{exact-node, lt-true, all-slice_get}
use Rattle.netlist.specs.Miter.{gate_clauses, kept, xor_axioms, axioms_of, axiom_of, variables_of, clauses_of, clause_number_of, positive, xors_of}
use Rattle.netlist.specs.Miter.{bound_number_of, defining_clauses, first_unit, unit, units_of}
use Rattle.netlist.proofs.Facts.{slice_get-left, slice_get-right, any_from_find, range-has, has-gate, has-xor, has-variable, over-variables}

-- the node has a CNF variable
abbrev pub there : AigPair → Node → Bool
there net node = has same_node (variables_of net) node

-- no clause is at a place of the empty list
at_nothing : {X Y : Type 0} (k : ℕ) (x : X) → slice_get {X = X} [] k ≡ Some x → Y
at_nothing k x e = absurd (none-some x e)

-- a node that has an axiom is there
pub axiom-there : (net : AigPair) (node : Node) (k : ℕ) (c : List Lit) → axiom_of net node k ≡ Some c → there net node ≡ true
axiom-there net Const k c e = refl
axiom-there net (Input i) k c e = at_nothing k c e
axiom-there net (Gate side v) k c e = go (gate_at net side v) refl
  where
    go : (o : Option And) → gate_at net side v ≡ o → there net (Gate side v) ≡ true
    go None f =
        at_nothing k c
        (subst (λ (o : Option And). slice_get (option_map_or (λ g. kept (gate_clauses (definition_of side (circuit_of net side) g))) o []) k ≡ Some c) f e)
    go (Some g) f =
        has-variable net (Gate side v)
        (has-gate net side v ∙ any_from_find (λ g. eqb g.var v) (circuit_of net side).gates g f)
axiom-there net (Xor j) k c e = go (output_of net A j) refl
  where
    go : (o : Option Lit) → output_of net A j ≡ o → there net (Xor j) ≡ true
    go None f = at_nothing k c (subst (λ (o : Option Lit). slice_get (xor_axioms j o (output_of net B j)) k ≡ Some c) f e)
    go (Some a) f = has-xor net j ∙ range-has 0 (length net.a.outputs) j (omega arith) below
      where
        below : j < 0 + length net.a.outputs
        below = at (slice_get net.a.outputs j) refl
          where
            at : (o : Option ℕ) → slice_get net.a.outputs j ≡ o → j < 0 + length net.a.outputs
            at None g = let h : None ≡ Some a = rw g at f in absurd (none-some a h)
            at (Some l) g = let h = slice_get_within net.a.outputs j l g in omega arith

-- the literals of an axiom have CNF variables
pub axiom-over : (net : AigPair) → IsNet net → (node : Node) (k : ℕ) (c : List Lit) → axiom_of net node k ≡ Some c
    → AllByRecursion (λ l. there net l.node ≡ true) c
axiom-over net is node k c e =
    all-slice_get (λ d. AllByRecursion (λ l. there net l.node ≡ true) d) (axioms_of net node) k c
    (over-variables net is node (axiom-there net node k c e)) e

-- what a list of lists has at a place of one of its parts
flat_map-at : (f : Node → List (List Lit)) (nodes : List Node) (node : Node) (k : ℕ) → has same_node nodes node ≡ true → k < length (f node)
    → slice_get (flat_map f nodes) (length (flat_map f (before (λ n. same_node n node) nodes)) + k) ≡ slice_get (f node) k
flat_map-at f [] node k h lt = cc
flat_map-at f (n ∷ ns) node k h lt = go (same_node n node) refl (flat_map-at f ns node k)
  where
    Rest : Type 0
    Rest = has same_node ns node ≡ true → k < length (f node)
        → slice_get (flat_map f ns) (length (flat_map f (before (λ n. same_node n node) ns)) + k) ≡ slice_get (f node) k

    go : (b : Bool) → same_node n node ≡ b → Rest
        → slice_get (flat_map f (n ∷ ns)) (length (flat_map f (before (λ n. same_node n node) (n ∷ ns))) + k) ≡ slice_get (f node) k
    go true e rest =
        rw (e, zero-add k)
        (subst (λ (m : Node). slice_get (f m ++ flat_map f ns) k ≡ slice_get (f node) k) (sym (exact-node n node e))
        (slice_get-left (f node) (flat_map f ns) k lt))
    go false e rest =
        let shift : length (f n ++ flat_map f (before (λ m. same_node m node) ns)) + k ≡ length (f n) + (length (flat_map f (before (λ m. same_node m node) ns)) + k) =
        omega (arith, length-append (f n) (flat_map f (before (λ m. same_node m node) ns))) in
        rw e
        (ap (slice_get (f n ++ flat_map f ns)) shift
        ∙ slice_get-right (f n) (flat_map f ns) (length (flat_map f (before (λ m. same_node m node) ns)) + k)
        ∙ rest (rw e at h) lt)

-- what a clause has by its number
pub record IsNumbered (net : AigPair) (node : Node) (k : ℕ) (c : List Lit) : Type 0 where
  pub number : ℕ
  pub is : clause_number_of net node k ≡ Some number
  pub least : 1 ≤ number
  pub at : slice_get (clauses_of net) (number - 1) ≡ Some c

pub axiom-numbered : (net : AigPair) (node : Node) (k : ℕ) (c : List Lit) → axiom_of net node k ≡ Some c → IsNumbered net node k c
axiom-numbered net node k c e = record {
  number = place + 1;
  is = rw within refl;
  least = omega arith;
  at =
      ap (slice_get (clauses_of net)) back
      ∙ slice_get-left (defining_clauses net ++ units_of net) (map positive (xors_of net) ∷ []) place inside
      ∙ front;
}
  where
    below : k < length (axioms_of net node)
    below = slice_get_within (axioms_of net node) k c e

    within : nat_lt k (length (axioms_of net node)) ≡ true
    within = lt-true k (length (axioms_of net node)) below

    place : ℕ
    place = length (flat_map (axioms_of net) (before (λ n. same_node n node) (variables_of net))) + k

    back : place + 1 - 1 ≡ place
    back = omega arith

    here : slice_get (defining_clauses net) place ≡ Some c
    here = flat_map-at (axioms_of net) (variables_of net) node k (axiom-there net node k c e) below ∙ e

    front : slice_get (defining_clauses net ++ units_of net) place ≡ Some c
    front =
        slice_get-left (defining_clauses net) (units_of net) place (slice_get_within (defining_clauses net) place c here) ∙ here

    inside : place < length (defining_clauses net ++ units_of net)
    inside = slice_get_within (defining_clauses net ++ units_of net) place c front

-- ---- constraints

-- the place of a constraint's literal among those of all constraints
bound-place : (net : AigPair) (side : Side) (k : ℕ) (l : Lit) → bound_of net side k ≡ Some l
    → slice_get (bounds_of net) (first_unit net side + k) ≡ Some l
bound-place net A k l e =
    ap (slice_get (bounds_of net)) (zero-add k)
    ∙ slice_get-left (bounds_on net A) (bounds_on net B) k (slice_get_within (bounds_on net A) k l e)
    ∙ e
bound-place net B k l e =
    ap (λ (n : ℕ). slice_get (bounds_of net) (n + k)) (sym (length-map net.a.constraints (lit_named A net.a)))
    ∙ slice_get-right (bounds_on net A) (bounds_on net B) k
    ∙ e

-- a constraint's literal stands for a constraint that the side has
bound-within : (net : AigPair) (side : Side) (k : ℕ) (l : Lit) → bound_of net side k ≡ Some l
    → k < length (circuit_of net side).constraints
bound-within net side k l e =
    let within = slice_get_within (bounds_on net side) k l e in
    omega (arith, within, length-map (circuit_of net side).constraints (lit_named side (circuit_of net side)))

-- what a constraint's unit has by its number
pub record IsUnitNumbered (net : AigPair) (side : Side) (k : ℕ) (l : Lit) : Type 0 where
  pub number : ℕ
  pub is : bound_number_of net side k ≡ Some number
  pub least : 1 ≤ number
  pub at : slice_get (clauses_of net) (number - 1) ≡ Some (unit l)

pub unit-numbered : (net : AigPair) (side : Side) (k : ℕ) (l : Lit) → bound_of net side k ≡ Some l → IsUnitNumbered net side k l
unit-numbered net side k l e = record {
  number = length (defining_clauses net) + place + 1;
  is = rw within refl;
  least = omega arith;
  at =
      ap (slice_get (clauses_of net)) back
      ∙ slice_get-left (defining_clauses net ++ units_of net) (map positive (xors_of net) ∷ []) (length (defining_clauses net) + place) inside
      ∙ front;
}
  where
    place : ℕ
    place = first_unit net side + k

    within : nat_lt k (length (circuit_of net side).constraints) ≡ true
    within = lt-true k (length (circuit_of net side).constraints) (bound-within net side k l e)

    back : length (defining_clauses net) + place + 1 - 1 ≡ length (defining_clauses net) + place
    back = omega arith

    front : slice_get (defining_clauses net ++ units_of net) (length (defining_clauses net) + place) ≡ Some (unit l)
    front =
        slice_get-right (defining_clauses net) (units_of net) place
        ∙ slice_get-map unit (bounds_of net) place
        ∙ ap (option_map unit) (bound-place net side k l e)

    inside : length (defining_clauses net) + place < length (defining_clauses net ++ units_of net)
    inside = slice_get_within (defining_clauses net ++ units_of net) (length (defining_clauses net) + place) (unit l) front
