-- The variables of a circuit are few, and its literals are small, where no variable is above m.
use Rattle.std.proofs.Common.{◌≡◌, ℕ, ◌+◌, ◌*◌, ◌<◌, ◌≤◌, Bool, true, false, List, [], ◌∷◌, ◌++◌, length, refl, sym, ◌∙◌, arith, length-append}
use Rattle.std.specs.Prelude.{◌==◌, ◌&&◌, ◌||◌, not, nat_le}
use Rattle.std.specs.List.{list_any, list_all, AllByRecursion}
use Rattle.std.proofs.lemmas.Bool.{and_parts, or_parts, not-true}
use Rattle.std.proofs.lemmas.Bool.Decides.{nat_tests}
use Rattle.std.proofs.lemmas.List.{length-map}
use Rattle.std.proofs.lemmas.List.Folds.{list_any-append, list_all-append}
use Rattle.std.proofs.lemmas.Map.Steps.{length-le_from_distinct_below}
use Rattle.lits.specs.Clause.{has, no_repeat}
use Rattle.netlist.specs.declared.gate.And.{And}
use Rattle.netlist.specs.Circuit.{Aig, IsCircuit, gate_vars, variables_in, is_over, var_of}
use Rattle.netlist.proofs.Facts.{variables, eq_swap, IsDistinct_from}
use Rattle.aiger_text.proofs.Lines.{IsWithin}
use Rattle.aiger_text.proofs.Sections.{IsInput}
use Rattle.aiger_text.proofs.Finished.{fanins_in, fanins_known}

-- no variable is above m
abbrev pub AreUpTo : ℕ → List ℕ → Type 0
AreUpTo m vars = list_all (λ v. nat_le v m) vars ≡ true

has-small : (m : ℕ) (vars : List ℕ) (v : ℕ) → AreUpTo m vars → has ◌==◌ vars v ≡ true → v ≤ m
has-small m [] v all e = absurd (cc)
has-small m (x ∷ xs) v all e = go (x == v) refl e (has-small m xs v parts.1)
  where
    parts : (nat_le x m ≡ true) × AreUpTo m xs
    parts = and_parts (nat_le x m) (list_all (λ w. nat_le w m) xs) all

    go : (b : Bool) → (x == v) ≡ b → (b || has ◌==◌ xs v) ≡ true → (has ◌==◌ xs v ≡ true → v ≤ m)
        → v ≤ m
    go true t f rest = grind (arith, nat_tests, parts.0, t)
    go false t f rest = rest f

over-small : (m : ℕ) (vars : List ℕ) (lit : ℕ) → AreUpTo m vars → is_over vars lit ≡ true
    → lit ≤ 2 * m + 1
over-small m vars lit all e =
    let small : var_of lit ≤ m = has-small m vars (var_of lit) all e in omega (arith, small)

-- ---- there are few variables

has-swap : (xs : List ℕ) (q : ℕ) → list_any (λ y. q == y) xs ≡ has ◌==◌ xs q
has-swap [] q = refl
has-swap (x ∷ xs) q = rw (eq_swap q x, has-swap xs q) refl

few : (m : ℕ) (xs : List ℕ) → no_repeat ◌==◌ xs ≡ true → AreUpTo m xs → length xs ≤ m + 1
few m xs once all =
    length-le_from_distinct_below xs (m + 1) (IsDistinct_from xs once)
    (λ q e. let small = has-small m xs q all (sym (has-swap xs q) ∙ e) in omega (arith, small))

pub few_variables : (m : ℕ) (c : Aig) → IsCircuit c → AreUpTo m (variables_in c)
    → length c.inputs + length c.gates ≤ m
few_variables m c circuit all =
    omega (
      arith,
      few m (variables_in c) (variables c circuit).distinct all,
      length-append c.inputs (gate_vars c.gates),
      length-map c.gates (λ g. g.var),
    )

-- ---- each part is within

pub literals_within : (m : ℕ) (vars lits : List ℕ) → AreUpTo m vars → list_all (is_over vars) lits
    ≡ true
    → AllByRecursion (λ n. n ≤ 2 * m + 1) lits
literals_within m vars [] all over = tt
literals_within m vars (n ∷ ns) all over =
    let parts = and_parts (is_over vars n) (list_all (is_over vars) ns) over in
    (over-small m vars n all parts.0, literals_within m vars ns all parts.1)

inputs_small : (m : ℕ) (vs : List ℕ) → has ◌==◌ vs 0 ≡ false → AreUpTo m vs
    → AllByRecursion (IsInput m) vs
inputs_small m [] none all = tt
inputs_small m (v ∷ vs) none all =
    let here = or_parts (v == 0) (has ◌==◌ vs 0) none in
    let parts = and_parts (nat_le v m) (list_all (λ w. nat_le w m) vs) all in
    let some : 0 < v = grind (arith, nat_tests, here.0) in
    let small : v ≤ m = grind (arith, nat_tests, parts.0) in
    ((some, small), inputs_small m vs here.1 parts.1)

gates_small : (m : ℕ) (vars : List ℕ) (gates : List And) → AreUpTo m vars
    → has ◌==◌ (gate_vars gates) 0 ≡ false
    → AreUpTo m (gate_vars gates) → list_all (is_over vars) (fanins_in gates) ≡ true
    → AllByRecursion (IsWithin m) gates
gates_small m vars [] up none all over = tt
gates_small m vars (g ∷ gs) up none all over =
    let here = or_parts (g.var == 0) (has ◌==◌ (gate_vars gs) 0) none in
    let parts = and_parts (nat_le g.var m) (list_all (λ w. nat_le w m) (gate_vars gs)) all in
    let left = and_parts (is_over vars g.left) (is_over vars g.right
    && list_all (is_over vars) (fanins_in gs)) over in
    let right = and_parts (is_over vars g.right) (list_all (is_over vars) (fanins_in gs)) left.1 in (
      record {
        some = grind (arith, nat_tests, here.0);
        var = grind (arith, nat_tests, parts.0);
        left = over-small m vars g.left up left.0;
        right = over-small m vars g.right up right.0;
      },
      gates_small m vars gs up here.1 parts.1 right.1,
    )

-- the parts of a circuit
pub record ArePartsWithin (m : ℕ) (c : Aig) : Type 0 where
  pub inputs : AllByRecursion (IsInput m) c.inputs
  pub gates : AllByRecursion (IsWithin m) c.gates
  pub outputs : AllByRecursion (λ n. n ≤ 2 * m + 1) c.outputs
  pub constraints : AllByRecursion (λ n. n ≤ 2 * m + 1) c.constraints

pub parts_within : (m : ℕ) (c : Aig) → IsCircuit c → AreUpTo m (variables_in c) → ArePartsWithin m c
parts_within m c circuit all = record {
  inputs = inputs_small m c.inputs none.0 up.0;
  gates = gates_small m (variables_in c) c.gates all none.1 up.1 (fanins_known c circuit);
  outputs = literals_within m (variables_in c) c.outputs all circuit.outputs;
  constraints = literals_within m (variables_in c) c.constraints all circuit.constraints;
}
  where
    once : not (has ◌==◌ (c.inputs ++ gate_vars c.gates) 0) ≡ true
    once = (and_parts _ (no_repeat ◌==◌ (c.inputs
        ++ gate_vars c.gates)) (variables c circuit).distinct).0

    none : (has ◌==◌ c.inputs 0 ≡ false) × (has ◌==◌ (gate_vars c.gates) 0 ≡ false)
    none =
        or_parts (has ◌==◌ c.inputs 0) (has ◌==◌ (gate_vars c.gates) 0)
        (sym (list_any-append (λ y. y == 0) c.inputs (gate_vars c.gates)) ∙ not-true _ once)

    up : AreUpTo m c.inputs × AreUpTo m (gate_vars c.gates)
    up =
        and_parts (list_all (λ v. nat_le v m) c.inputs) (list_all (λ v.
        nat_le v m) (gate_vars c.gates))
        (sym (list_all-append (λ v. nat_le v m) c.inputs (gate_vars c.gates))
        ∙ (and_parts (nat_le 0 m) (list_all (λ v. nat_le v m) (c.inputs
        ++ gate_vars c.gates)) all).1)
