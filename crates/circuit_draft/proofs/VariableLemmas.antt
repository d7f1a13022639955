-- The variables of a draft: they differ, each stands at its own place, and one more may be added.
use Rattle.std.proofs.Common.{◌≡◌, ℕ, zero, suc, ◌+◌, ◌<◌, ◌≤◌, Bool, true, false, not, Option, Some, List, [], ◌∷◌, ◌++◌, length, refl, sym, ap, ◌∙◌, subst, arith, append_assoc, append-nil}
use Rattle.std.specs.Prelude.{◌==◌, nat_le, slice_get, slice_index_or}
use Rattle.std.specs.List.{list_all, find}
use Rattle.std.proofs.lemmas.Bool.Decides.{nat_tests}
use Rattle.std.proofs.lemmas.Option.{none-some, same_Some}
use Rattle.std.proofs.lemmas.List.{length-append, length-map, map-append}
use Rattle.std.proofs.lemmas.List.Folds.{list_all-append}
use Rattle.std.proofs.lemmas.Bool.{and_parts, not-true}
use Rattle.std.proofs.Math.Bool.{or-true}
use Rattle.lits.specs.Clause.{has, no_repeat}
use Rattle.netlist.specs.declared.gate.And.{And}
use Rattle.netlist.specs.Circuit.{Aig, gate_vars, variables_in, most}
use Rattle.netlist.specs.Place.{place_of}
use Rattle.netlist.specs.VariableTable.{Places, place_in, IsTable, AreVariables}
use Rattle.netlist.proofs.Facts.{at_place, slice_get-left, slice_get-right, few, no_repeat-apart, no_repeat_push}
use Rattle.circuit_draft.specs.Draft.{IsDraft}
use Rattle.circuit_draft.specs.Steps.{gate_at}
use Rattle.circuit_draft.specs.Levels.{gate_for}

-- ---- one more variable

range-push : (xs : List ℕ) (y : ℕ) → list_all (λ v. nat_le v most) xs ≡ true → y ≤ most → list_all (λ v. nat_le v most) (xs ++ y ∷ []) ≡ true
range-push xs y range le =
    let small : nat_le y most ≡ true = grind (arith, nat_tests) in
    rw (list_all-append (λ v. nat_le v most) xs (y ∷ []), range, small) refl

-- the variables with one more gate
pub vars-gate : (inputs : List ℕ) (gates : List And) (g : And)
    → 0 ∷ (inputs ++ gate_vars (gates ++ g ∷ [])) ≡ (0 ∷ (inputs ++ gate_vars gates)) ++ g.var ∷ []
vars-gate inputs gates g =
    ap (λ (vs : List ℕ). 0 ∷ (inputs ++ vs)) (map-append (λ h. h.var) gates (g ∷ []))
    ∙ ap (λ (vs : List ℕ). 0 ∷ vs) (sym (append_assoc inputs (gate_vars gates) (g.var ∷ [])))

-- and with one more input, before there is any gate
pub vars-input : (inputs : List ℕ) (v : ℕ) → 0 ∷ ((inputs ++ v ∷ []) ++ []) ≡ (0 ∷ (inputs ++ [])) ++ v ∷ []
vars-input inputs v = rw (append-nil (inputs ++ v ∷ []), append-nil inputs) refl

AreVariables-grown : (old new : List ℕ) (v : ℕ) → new ≡ old ++ v ∷ [] → no_repeat ◌==◌ old ≡ true → list_all (λ w. nat_le w most) old ≡ true
    → has ◌==◌ old v ≡ false → v ≤ most → (no_repeat ◌==◌ new ≡ true) × (list_all (λ w. nat_le w most) new ≡ true)
AreVariables-grown old new v e once range fresh le = rw e (no_repeat_push old v once fresh, range-push old v range le)

pub AreVariables-gate : (inputs : List ℕ) (gates : List And) (g : And) → AreVariables inputs gates
    → has ◌==◌ (0 ∷ (inputs ++ gate_vars gates)) g.var ≡ false → g.var ≤ most → AreVariables inputs (gates ++ g ∷ [])
AreVariables-gate inputs gates g vars fresh le =
    let p = AreVariables-grown (0 ∷ (inputs ++ gate_vars gates)) (0 ∷ (inputs ++ gate_vars (gates ++ g ∷ []))) g.var (vars-gate inputs gates g) vars.distinct vars.range fresh le in
    record { distinct = p.0; range = p.1 }

pub AreVariables-input : (inputs : List ℕ) (v : ℕ) → AreVariables inputs []
    → has ◌==◌ (0 ∷ (inputs ++ [])) v ≡ false → v ≤ most → AreVariables (inputs ++ v ∷ []) []
AreVariables-input inputs v vars fresh le =
    let p = AreVariables-grown (0 ∷ (inputs ++ [])) (0 ∷ ((inputs ++ v ∷ []) ++ [])) v (vars-input inputs v) vars.distinct vars.range fresh le in
    record { distinct = p.0; range = p.1 }

pub IsDraft-gate : (d : Aig) (g : And) → IsDraft d → has ◌==◌ (variables_in d) g.var ≡ false → g.var ≤ most
    → IsDraft (record d { gates = d.gates ++ g ∷ [] })
IsDraft-gate d g is fresh le = record {
  variables = AreVariables-gate d.inputs d.gates g is.variables fresh le;
  count = is.count;
  constraint_count = is.constraint_count;
}

pub IsDraft-input : (d : Aig) (v : ℕ) → IsDraft d → d.gates ≡ [] → has ◌==◌ (variables_in d) v ≡ false → v ≤ most
    → IsDraft (record d { inputs = d.inputs ++ v ∷ [] })
IsDraft-input d v is first fresh le = record {
  variables = rw first (AreVariables-input d.inputs v (rw first at is.variables) (rw first at fresh) le);
  count = is.count;
  constraint_count = is.constraint_count;
}

pub IsTable-input : (d : Aig) (v : ℕ) (t : Places) → d.gates ≡ [] → IsTable t (variables_in d ++ v ∷ []) → IsTable t (variables_in (record d { inputs = d.inputs ++ v ∷ [] }))
IsTable-input d v t first table = rw (first, vars-input d.inputs v) (rw first at table)

-- there are few gates
pub few_gates : (inputs : List ℕ) (gates : List And) → AreVariables inputs gates → length inputs + length gates ≤ most
few_gates inputs gates vars = omega (arith, few vars, length-append inputs (gate_vars gates), length-map gates (λ g. g.var))

range_gate : (gates : List And) (q : ℕ) → list_all (λ v. nat_le v most) (gate_vars gates) ≡ true → q < length gates
    → (slice_index_or gates q (record { var = 0; left = 0; right = 0 })).var ≤ most
range_gate [] q e lt = absurd (omega arith)
range_gate (g ∷ gs) zero e lt =
    let parts = and_parts (nat_le g.var most) (list_all (λ v. nat_le v most) (gate_vars gs)) e in grind (arith, nat_tests, parts.0)
range_gate (g ∷ gs) (suc q) e lt =
    let parts = and_parts (nat_le g.var most) (list_all (λ v. nat_le v most) (gate_vars gs)) e in range_gate gs q parts.1 (omega arith)

-- each gate's variable is in range
pub gate_within : (c : Aig) (q : ℕ) → AreVariables c.inputs c.gates → q < length c.gates → (gate_at c q).var ≤ most
gate_within c q vars lt =
    let parts = and_parts (list_all (λ v. nat_le v most) c.inputs) (list_all (λ v. nat_le v most) (gate_vars c.gates)) (sym (list_all-append (λ v. nat_le v most) c.inputs (gate_vars c.gates)) ∙ vars.range) in
    range_gate c.gates q parts.1 lt

-- ---- places

pub has-place : (t : Places) (vars : List ℕ) (v : ℕ) → IsTable t vars → (o : Option ℕ) → o ≡ place_in t v → o ≡ place_of (λ x. x == v) vars
has-place t vars v table o e = e ∙ table.finds v

pub has_at : (xs : List ℕ) (k x v : ℕ) → slice_get xs k ≡ Some x → (x == v) ≡ true → has ◌==◌ xs v ≡ true
has_at [] k x v e t = absurd (none-some x e)
has_at (y ∷ ys) zero x v e t = let same = same_Some y x e in rw (same, t) refl
has_at (y ∷ ys) (suc k) x v e t = rw (has_at ys k x v e t) (or-true (y == v))

-- a place among the constant and the inputs
pub source_place : (c : Aig) (v k : ℕ) → place_of (λ x. x == v) (variables_in c) ≡ Some k → k ≤ length c.inputs → has ◌==◌ (0 ∷ c.inputs) v ≡ true
source_place c v k e le =
    let found = at_place (λ x. x == v) (variables_in c) k e in
    has_at (0 ∷ c.inputs) k found.0 v (sym (slice_get-left (0 ∷ c.inputs) (gate_vars c.gates) k (omega arith)) ∙ found.1) found.2

var_at : (gates : List And) (q x : ℕ) → slice_get (gate_vars gates) q ≡ Some x
    → (q < length gates) × ((slice_index_or gates q (record { var = 0; left = 0; right = 0 })).var ≡ x)
var_at [] q x e = absurd (none-some x e)
var_at (g ∷ gs) zero x e = (omega arith, same_Some g.var x e)
var_at (g ∷ gs) (suc q) x e = let rest = var_at gs q x e in (omega (arith, rest.0), rest.1)

-- a place among the gates
pub gate_place : (c : Aig) (v k q : ℕ) → place_of (λ x. x == v) (variables_in c) ≡ Some k → k ≡ suc (length c.inputs + q)
    → (q < length c.gates) × (v ≡ (gate_at c q).var)
gate_place c v k q e is =
    let found = at_place (λ x. x == v) (variables_in c) k e in
    let there : slice_get (variables_in c) (suc (length c.inputs + q)) ≡ Some found.0 = subst (λ (n : ℕ). slice_get (variables_in c) n ≡ Some found.0) is found.1 in
    let rest = var_at c.gates q found.0 (sym (slice_get-right c.inputs (gate_vars c.gates) q) ∙ there) in
    let same : found.0 ≡ v = grind (arith, nat_tests, found.2) in
    (rest.0, sym (rest.1 ∙ same))

pub no_repeat-behind : (xs ys : List ℕ) → no_repeat ◌==◌ (xs ++ ys) ≡ true → no_repeat ◌==◌ ys ≡ true
no_repeat-behind [] ys e = e
no_repeat-behind (x ∷ xs) ys e = no_repeat-behind xs ys (and_parts (not (has ◌==◌ (xs ++ ys) x)) (no_repeat ◌==◌ (xs ++ ys)) e).1

pub has_gate : (gates : List And) (q : ℕ) → q < length gates
    → has ◌==◌ (gate_vars gates) (slice_index_or gates q (record { var = 0; left = 0; right = 0 })).var ≡ true
has_gate [] q l = absurd (omega arith)
has_gate (g ∷ gs) zero l = let t : (g.var == g.var) ≡ true = grind (arith, nat_tests) in rw t refl
has_gate (g ∷ gs) (suc q) l = rw (has_gate gs q (omega arith)) (or-true (g.var == (slice_index_or gs q (record { var = 0; left = 0; right = 0 })).var))

find_gate : (gates : List And) (q : ℕ) → no_repeat ◌==◌ (gate_vars gates) ≡ true → q < length gates
    → find (λ g. g.var == (slice_index_or gates q (record { var = 0; left = 0; right = 0 })).var) gates
    ≡ Some (slice_index_or gates q (record { var = 0; left = 0; right = 0 }))
find_gate [] q once l = absurd (omega arith)
find_gate (g ∷ gs) zero once l = let t : (g.var == g.var) ≡ true = grind (arith, nat_tests) in rw t refl
find_gate (g ∷ gs) (suc q) once l =
    let parts = and_parts (not (has ◌==◌ (gate_vars gs) g.var)) (no_repeat ◌==◌ (gate_vars gs)) once in
    rw (apart gs q (not-true (has ◌==◌ (gate_vars gs) g.var) parts.0) (has_gate gs q (omega arith))) (find_gate gs q parts.1 (omega arith))
  where
    apart : (hs : List And) (k : ℕ) → has ◌==◌ (gate_vars hs) g.var ≡ false
        → has ◌==◌ (gate_vars hs) (slice_index_or hs k (record { var = 0; left = 0; right = 0 })).var ≡ true
        → (g.var == (slice_index_or hs k (record { var = 0; left = 0; right = 0 })).var) ≡ false
    apart hs k none some = go (g.var == w) refl
      where
        w : ℕ
        w = (slice_index_or hs k (record { var = 0; left = 0; right = 0 })).var

        go : (b : Bool) → (g.var == w) ≡ b → b ≡ false
        go true t = let same : g.var ≡ w = grind (arith, nat_tests, t) in let no : has ◌==◌ (gate_vars hs) w ≡ false = subst (λ (v : ℕ). has ◌==◌ (gate_vars hs) v ≡ false) same none in absurd (cc)
        go false t = refl

-- the gate at a place is the one that defines its variable
pub gate_for-at : (c : Aig) (q : ℕ) → AreVariables c.inputs c.gates → q < length c.gates → gate_for c (gate_at c q).var ≡ Some (gate_at c q)
gate_for-at c q vars l = find_gate c.gates q (no_repeat-behind (0 ∷ c.inputs) (gate_vars c.gates) vars.distinct) l

-- and its variable is no input
pub no_source : (c : Aig) (q : ℕ) → AreVariables c.inputs c.gates → q < length c.gates → has ◌==◌ (0 ∷ c.inputs) (gate_at c q).var ≡ false
no_source c q vars l = go (has ◌==◌ (0 ∷ c.inputs) (gate_at c q).var) refl
  where
    go : (b : Bool) → has ◌==◌ (0 ∷ c.inputs) (gate_at c q).var ≡ b → b ≡ false
    go true e =
        let none = no_repeat-apart (0 ∷ c.inputs) (gate_vars c.gates) (gate_at c q).var vars.distinct e in
        let some = has_gate c.gates q l in absurd (cc)
    go false e = refl
