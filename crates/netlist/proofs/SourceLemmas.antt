-- The source of a variable, found by its place.
use Rattle.std.proofs.Common.{◌≡◌, ℕ, ◌+◌, ◌-◌, ◌<◌, Bool, true, false, not, cond, Option, None, Some, List, ◌∷◌, ◌++◌, length, refl, sym, ap, ◌∙◌, subst, arith}
use Rattle.std.specs.Prelude.{◌==◌, ◌||◌, nat_le, IfSome}
use Rattle.std.specs.Option.{option_map, option_map_or, is_some}
use Rattle.std.proofs.lemmas.Option.{slice_get_within}
use Rattle.std.proofs.lemmas.Bool.Decides.{nat_tests}
use Rattle.std.proofs.lemmas.Bool.{or_right}
use Rattle.netlist.specs.declared.gate.Source.{Source}
use Rattle.netlist.specs.declared.gate.Source.TheVariants.{Constant, Input, Gate}
use Rattle.netlist.specs.Place.{place_of}
use Rattle.lits.specs.Clause.{has}
use Rattle.lits.specs.declared.node.Side.{Side}
use Rattle.lits.specs.declared.node.Node.TheVariants as node
use Rattle.netlist.specs.Circuit.{Aig, IsCircuit, variables_in, gate_vars, var_of, is_negated, is_over}
use Rattle.netlist.specs.Net.{AigPair, circuit_of, lit_named, lit_of}
use Rattle.netlist.specs.Pair.{lit_from}
use Rattle.netlist.specs.Pair.{gate_from}
use Rattle.netlist.specs.VariableTable.{Places, place_in, IsTable}
use Rattle.netlist.specs.Source.{input_or, source_of, source_at, IsWithin}
use Rattle.netlist.proofs.PlaceLemmas.{or_place, place_of-append, place_of-map, place_none, is_some-place, at_place}
use Rattle.netlist.proofs.VariableLemmas.{variables, no_repeat-apart, list_any-vars}

-- a place is below the length
pub place_within : {X : Type 0} (test : X → Bool) (xs : List X) (k : ℕ) → place_of test xs ≡ Some k → k < length xs
place_within test xs k e = let found = at_place test xs k e in slice_get_within xs k found.0 found.1

source_at-input : (n k : ℕ) → k < n → source_at n (k + 1) ≡ Input k
source_at-input n k l =
    let z : (k + 1 == 0) ≡ false = grind (arith, nat_tests) in
    let t : nat_le (k + 1) n ≡ true = grind (arith, nat_tests) in
    let e : k + 1 - 1 ≡ k = omega arith in
    rw (z, t, e) refl

source_at-gate : (n g : ℕ) → source_at n ((n + g) + 1) ≡ Gate g
source_at-gate n g =
    let z : ((n + g) + 1 == 0) ≡ false = grind (arith, nat_tests) in
    let t : nat_le ((n + g) + 1) n ≡ false = grind (arith, nat_tests) in
    let e : (n + g) + 1 - 1 - n ≡ g = omega arith in
    rw (z, t, e) refl

pub source_of-place : (c : Aig) (v : ℕ)
    → option_map (source_at (length c.inputs)) (place_of (λ x. x == v) (variables_in c)) ≡ source_of c v
source_of-place c v = go (v == 0) refl
  where
    n : ℕ
    n = length c.inputs

    parts : place_of (λ x. x == v) (c.inputs ++ gate_vars c.gates)
        ≡ or_place (place_of (λ x. x == v) c.inputs) (option_map (λ k. n + k) (place_of (λ g. g.var == v) c.gates))
    parts = place_of-append (λ x. x == v) c.inputs (gate_vars c.gates)
        ∙ ap (λ (o : Option ℕ). or_place (place_of (λ x. x == v) c.inputs) (option_map (λ k. n + k) o)) (place_of-map (λ x. x == v) (λ g. g.var) c.gates)

    found : (inputs gates : Option ℕ) → ((k : ℕ) → inputs ≡ Some k → k < n)
        → option_map (source_at n) (option_map (λ k. k + 1) (or_place inputs (option_map (λ k. n + k) gates))) ≡ input_or inputs gates
    found (Some k) gates below = ap Some (source_at-input n k (below k refl))
    found None (Some g) below = ap Some (source_at-gate n g)
    found None None below = refl

    go : (b : Bool) → (v == 0) ≡ b
        → option_map (source_at n) (place_of (λ x. x == v) (variables_in c))
        ≡ cond b (Some Constant) (input_or (place_of (λ x. x == v) c.inputs) (place_of (λ g. g.var == v) c.gates))
    go true e = let t : (0 == v) ≡ true = grind (arith, nat_tests, e) in rw t refl
    go false e =
        let f : (0 == v) ≡ false = grind (arith, nat_tests, e) in
        rw (f, parts) (found (place_of (λ x. x == v) c.inputs) (place_of (λ g. g.var == v) c.gates) (λ k. place_within (λ x. x == v) c.inputs k))

pub source_within : (c : Aig) (v : ℕ) → IfSome (source_of c v) (IsWithin c)
source_within c v =
    go (v == 0) (place_of (λ x. x == v) c.inputs) (place_of (λ g. g.var == v) c.gates)
    (λ k. place_within (λ x. x == v) c.inputs k) (λ k. place_within (λ g. g.var == v) c.gates k)
  where
    go : (b : Bool) (inputs gates : Option ℕ) → ((k : ℕ) → inputs ≡ Some k → k < length c.inputs) → ((k : ℕ) → gates ≡ Some k → k < length c.gates)
        → IfSome (cond b (Some Constant) (input_or inputs gates)) (IsWithin c)
    go true inputs gates p q = tt
    go false (Some k) gates p q = p k refl
    go false None (Some g) p q = q g refl
    go false None None p q = tt

-- what the table finds
pub source_found : (c : Aig) (t : Places) (v p : ℕ) → IsTable t (variables_in c) → place_in t v ≡ Some p
    → Some (source_at (length c.inputs) p) ≡ source_of c v
source_found c t v p table e =
    ap (option_map (source_at (length c.inputs))) (sym e ∙ table.finds v) ∙ source_of-place c v

pub source_missing : (c : Aig) (t : Places) (v : ℕ) → IsTable t (variables_in c) → place_in t v ≡ None → None ≡ source_of c v
source_missing c t v table e = ap (option_map (source_at (length c.inputs))) (sym e ∙ table.finds v) ∙ source_of-place c v

pub within_found : (c : Aig) (v : ℕ) (s : Source) → Some s ≡ source_of c v → IsWithin c s
within_found c v s e = subst (λ (o : Option Source). IfSome o (IsWithin c)) (sym e) (source_within c v)

pub is_over-source : (c : Aig) (lit : ℕ) → is_over (variables_in c) lit ≡ is_some (source_of c (var_of lit))
is_over-source c lit =
    sym (is_some-place (λ x. x == var_of lit) (variables_in c))
    ∙ sym (is_some-map (place_of (λ x. x == var_of lit) (variables_in c)))
    ∙ ap is_some (source_of-place c (var_of lit))
  where
    is_some-map : (o : Option ℕ) → is_some (option_map (source_at (length c.inputs)) o) ≡ is_some o
    is_some-map None = refl
    is_some-map (Some k) = refl

-- the literal by the variable's source
pub lit_of-source : (net : AigPair) (side : Side) (lit : ℕ)
    → lit_from side (var_of lit) (is_negated lit) (source_of (circuit_of net side) (var_of lit)) ≡ lit_of net side lit
lit_of-source net side lit =
    go (var_of lit == 0) (place_of (λ x. x == var_of lit) c.inputs) (place_of (λ g. g.var == var_of lit) c.gates)
    ∙ ap (λ (b : Bool). cond b (Some (lit_named side c lit)) None) (sym (is_over-source c lit))
  where
    c : Aig
    c = circuit_of net side

    go : (b : Bool) (inputs gates : Option ℕ)
        → lit_from side (var_of lit) (is_negated lit) (cond b (Some Constant) (input_or inputs gates))
        ≡ cond (is_some (cond b (Some Constant) (input_or inputs gates)))
        (Some (record {
          node = cond b node.Const (option_map_or node.Input inputs (node.Gate side (var_of lit)));
          neg = cond b (not (is_negated lit)) (is_negated lit);
        })) None
    go true inputs gates = refl
    go false (Some k) gates = refl
    go false None (Some g) = refl
    go false None None = refl

-- a gate's place by its variable's source
pub gate_from-source : (c : Aig) (v : ℕ) → IsCircuit c → gate_from (source_of c v) ≡ place_of (λ g. g.var == v) c.gates
gate_from-source c v circuit = go (v == 0) refl (place_of (λ x. x == v) c.inputs) refl
  where
    none : has ◌==◌ (0 ∷ c.inputs) v ≡ true → place_of (λ g. g.var == v) c.gates ≡ None
    none e = place_none (λ g. g.var == v) c.gates (sym (list_any-vars c.gates v)
        ∙ no_repeat-apart (0 ∷ c.inputs) (gate_vars c.gates) v (variables c circuit).distinct e)

    go : (b : Bool) → (v == 0) ≡ b → (o : Option ℕ) → place_of (λ x. x == v) c.inputs ≡ o
        → gate_from (cond b (Some Constant) (input_or o (place_of (λ g. g.var == v) c.gates))) ≡ place_of (λ g. g.var == v) c.gates
    go true t o e = let z : (0 == v) ≡ true = grind (arith, nat_tests, t) in sym (none (ap (λ (b : Bool). b || has ◌==◌ c.inputs v) z))
    go false f (Some k) e =
        let some : has ◌==◌ c.inputs v ≡ true = sym (is_some-place (λ x. x == v) c.inputs) ∙ ap is_some e in
        sym (none (or_right (0 == v) (has ◌==◌ c.inputs v) some))
    go false f None e = same (place_of (λ g. g.var == v) c.gates)
      where
        same : (o : Option ℕ) → gate_from (option_map Gate o) ≡ o
        same None = refl
        same (Some g) = refl
