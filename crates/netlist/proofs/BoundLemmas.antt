-- The constraints' literals: their nodes have positions, and an input is admitted exactly where all of them are true.
use Rattle.std.proofs.Common.{◌≡◌, ℕ, ◌<◌, Bool, true, ◌&&◌, Some, List, [], ◌∷◌, length, map, refl, sym, ap, ap₂, ◌∙◌}
use Rattle.std.specs.Prelude.{slice_get, slice_index}
use Rattle.std.specs.Option.{option_map}
use Rattle.std.specs.List.{AllByRecursion, list_all}
use Rattle.std.proofs.Math.Bool.{or-false}
use Rattle.std.proofs.lemmas.Bool.{and_parts}
use Rattle.std.proofs.lemmas.Option.{slice_get-map, slice_get-get_or}
use Rattle.lits.specs.Clause.{has}
use Rattle.lits.specs.Assignment.{Meets}
use Rattle.lits.specs.Same.{same_node}
use Rattle.lits.specs.declared.node.Side.{Side}
use Rattle.lits.specs.declared.node.Side.TheVariants.{A, B}
use Rattle.lits.specs.declared.literal.Lit.{Lit}
use Rattle.lits.proofs.Facts.{all-append, all-map, all-parts, all-slice_get}
use Rattle.netlist.specs.Circuit.{is_over, value_in, var_of, variables_in}
use Rattle.netlist.specs.Miter.{unit, variables_of}
use Rattle.netlist.specs.Net.{AigPair, IsAdmitted, IsNet, bound_of, bounds_of, bounds_on, circuit_of, lit_holds, lit_named, lit_of, meets_constraints, nodes_of, value_of}
use Rattle.netlist.proofs.NodeValues.{is_circuit, value-named}
use Rattle.netlist.proofs.NodesThere.{has-named, has-variable}
use Rattle.netlist.proofs.SameNodes.{all-weaker, list_all-get}

-- what holds of each element that passes a test holds of the elements of a list that all pass
all-passing : {X : Type 0} (P : X → Type 0) (test : X → Bool) → ((x : X) → test x ≡ true → P x) → (xs : List X)
    → list_all test xs ≡ true → AllByRecursion P xs
all-passing P test each [] all = tt
all-passing P test each (x ∷ xs) all =
    let r = and_parts (test x) (list_all test xs) all in (each x r.0, all-passing P test each xs r.1)

-- a test that all elements pass, as a fact of each of them
pub all-true : {X : Type 0} (test : X → Bool) (xs : List X) → list_all test xs ≡ true → AllByRecursion (λ x. test x ≡ true) xs
all-true test = all-passing (λ x. test x ≡ true) test (λ x e. e)

pub true-all : {X : Type 0} (test : X → Bool) (xs : List X) → AllByRecursion (λ x. test x ≡ true) xs → list_all test xs ≡ true
true-all test [] all = refl
true-all test (x ∷ xs) all = ap₂ ◌&&◌ all.0 (true-all test xs all.1)

list_all-map : {X Y : Type 0} (test : Y → Bool) (other : X → Bool) (f : X → Y) → ((x : X) → other x ≡ test (f x)) → (xs : List X)
    → list_all test (map f xs) ≡ list_all other xs
list_all-map test other f same [] = refl
list_all-map test other f same (x ∷ xs) = ap₂ ◌&&◌ (sym (same x)) (list_all-map test other f same xs)

-- there is a literal exactly for each constraint, and it is the one that the constraint means
pub bound-below : (net : AigPair) (side : Side) (k : ℕ) → k < length (circuit_of net side).constraints
    → bound_of net side k ≡ Some (lit_named side (circuit_of net side) (slice_index (circuit_of net side).constraints k))
bound-below net side k below =
    let c = circuit_of net side in
    slice_get-map (lit_named side c) c.constraints k ∙ ap (option_map (lit_named side c)) (slice_get-get_or c.constraints k 0 below)

pub bound_of-lit : (net : AigPair) (side : Side) (k l : ℕ) → IsNet net → slice_get (circuit_of net side).constraints k ≡ Some l
    → lit_of net side l ≡ bound_of net side k
bound_of-lit net side k l is e =
    let c = circuit_of net side in
    let over = list_all-get (is_over (variables_in c)) c.constraints k l (is_circuit net is side).constraints e in
    rw over (sym (slice_get-map (lit_named side c) c.constraints k ∙ ap (option_map (lit_named side c)) e))

module _ (net : AigPair) (is : IsNet net) where
  -- the nodes of one side's constraints have positions
  bounds-named : (s : Side) → AllByRecursion (λ l. has same_node (nodes_of net) l.node ≡ true) (bounds_on net s)
  bounds-named s =
      all-map (λ l. has same_node (nodes_of net) l.node ≡ true) (lit_named s (circuit_of net s)) (circuit_of net s).constraints
      (all-passing (λ x. has same_node (nodes_of net) (lit_named s (circuit_of net s) x).node ≡ true) (is_over (variables_in (circuit_of net s)))
      (λ x over. has-named net is s (var_of x) over) (circuit_of net s).constraints (is_circuit net is s).constraints)

  -- so do those of all constraints
  pub bounds-there : AllByRecursion (λ l. has same_node (nodes_of net) l.node ≡ true) (bounds_of net)
  bounds-there =
      all-append (λ l. has same_node (nodes_of net) l.node ≡ true) (bounds_on net A) (bounds_on net B) (bounds-named A) (bounds-named B)

  -- and they have CNF variables
  pub bounds-variables : AllByRecursion (λ l. has same_node (variables_of net) l.node ≡ true) (bounds_of net)
  bounds-variables =
      all-weaker (λ l. has same_node (nodes_of net) l.node ≡ true) (λ l. has same_node (variables_of net) l.node ≡ true)
      (λ l h. has-variable net l.node h) (bounds_of net) bounds-there

  -- the node of one constraint
  pub bound-there : (s : Side) (k : ℕ) (l : Lit) → bound_of net s k ≡ Some l → has same_node (nodes_of net) l.node ≡ true
  bound-there s k l e = all-slice_get (λ l. has same_node (nodes_of net) l.node ≡ true) (bounds_on net s) k l (bounds-named s) e

  -- the circuit of a side meets its constraints where their literals are true
  meets-bounds : (bits : List Bool) (s : Side) → list_all (lit_holds (value_of net bits)) (bounds_on net s) ≡ meets_constraints (circuit_of net s) bits
  meets-bounds bits s =
      list_all-map (lit_holds (value_of net bits)) (value_in (circuit_of net s) bits) (lit_named s (circuit_of net s))
      (value-named net is bits s) (circuit_of net s).constraints

  -- on an admitted input all of them are true
  pub admitted-bounds : (bits : List Bool) → IsAdmitted net bits → AllByRecursion (λ l. lit_holds (value_of net bits) l ≡ true) (bounds_of net)
  admitted-bounds bits admitted =
      let true_on = λ (s : Side) (met : meets_constraints (circuit_of net s) bits ≡ true).
      all-true (lit_holds (value_of net bits)) (bounds_on net s) (meets-bounds bits s ∙ met) in
      all-append (λ l. lit_holds (value_of net bits) l ≡ true) (bounds_on net A) (bounds_on net B) (true_on A admitted.of_a) (true_on B admitted.of_b)

  -- and an input of the right length on which all are true is admitted
  pub bounds-admitted : (bits : List Bool) → length bits ≡ length net.a.inputs
      → AllByRecursion (λ l. lit_holds (value_of net bits) l ≡ true) (bounds_of net) → IsAdmitted net bits
  bounds-admitted bits whole all =
      let r = all-parts (λ l. lit_holds (value_of net bits) l ≡ true) (bounds_on net A) (bounds_on net B) all in
      let met = λ (s : Side) (holds : AllByRecursion (λ l. lit_holds (value_of net bits) l ≡ true) (bounds_on net s)).
      sym (meets-bounds bits s) ∙ true-all (lit_holds (value_of net bits)) (bounds_on net s) holds in
      record { whole = whole; of_a = met A r.0; of_b = met B r.1 }

-- the units of literals ask that each of them is true
pub units-hold : (v : Lit → Bool) (ls : List Lit) → Meets v (map unit ls) → AllByRecursion (λ l. v l ≡ true) ls
units-hold v [] m = tt
units-hold v (l ∷ ls) m = (sym (or-false (v l)) ∙ m.0, units-hold v ls m.1)

pub hold-units : (v : Lit → Bool) (ls : List Lit) → AllByRecursion (λ l. v l ≡ true) ls → Meets v (map unit ls)
hold-units v [] all = tt
hold-units v (l ∷ ls) all = (or-false (v l) ∙ all.0, hold-units v ls all.1)

-- units are over the nodes of their literals
pub over-units : (P : Lit → Type 0) (ls : List Lit) → AllByRecursion P ls → AllByRecursion (λ c. AllByRecursion P c) (map unit ls)
over-units P [] all = tt
over-units P (l ∷ ls) all = ((all.0, tt), over-units P ls all.1)
