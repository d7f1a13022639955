-- A circuit's variables differ, so each is found at its own place, and there are few of them.
use Rattle.std.proofs.Common.{◌≡◌, ℕ, suc, ◌+◌, ◌<◌, ◌≤◌, Bool, true, false, not, List, [], ◌∷◌, ◌++◌, length, take, drop, get_or, refl, sym, ap, ◌∙◌, subst, arith, length-append, length-take}
use Rattle.std.specs.Prelude.{◌==◌, ◌||◌, nat_le}
use Rattle.std.specs.List.{list_any, list_all, AllByRecursion, IsDistinct}
use Rattle.std.proofs.lemmas.List.{append_assoc, append-nil, map-append, length-map, take_more}
use Rattle.std.proofs.lemmas.List.Folds.{list_any-append}
use Rattle.std.proofs.lemmas.Map.Steps.{length-le_from_distinct_below}
use Rattle.std.proofs.lemmas.Bool.Decides.{nat_tests}
use Rattle.lits.specs.Clause.{has, no_repeat}
use Rattle.std.proofs.Math.Seq.{split_at}
use Rattle.std.proofs.lemmas.Bool.{not-true, or_parts, and_parts}
use Rattle.netlist.specs.declared.gate.And.{And}
use Rattle.netlist.specs.Circuit.{Aig, IsCircuit, AreOrdered, most, gate_vars}
use Rattle.netlist.specs.VariableTable.{AreVariables}

-- which of two numbers comes first doesn't matter
pub eq_swap : (a b : ℕ) → (a == b) ≡ (b == a)
eq_swap a b = grind (arith, nat_tests)

-- what is in a list is in a longer one
has_not-middle : (xs ys : List ℕ) (y q : ℕ) → has ◌==◌ (xs ++ y ∷ ys) q ≡ false → (y == q) ≡ false
has_not-middle [] ys y q e = (or_parts (y == q) (has ◌==◌ ys q) e).0
has_not-middle (x ∷ xs) ys y q e = has_not-middle xs ys y q (or_parts (x == q) (has ◌==◌ (xs ++ y ∷ ys) q) e).1

-- in a list without repeats an element stands in no part before it
pub no_repeat-split : (xs ys : List ℕ) (y : ℕ) → no_repeat ◌==◌ (xs ++ y ∷ ys) ≡ true → has ◌==◌ xs y ≡ false
no_repeat-split [] ys y e = refl
no_repeat-split (x ∷ xs) ys y e =
    let first = not-true (has ◌==◌ (xs ++ y ∷ ys) x) (and_parts _ (no_repeat ◌==◌ (xs ++ y ∷ ys)) e).0 in
    let rest = no_repeat-split xs ys y (and_parts (not (has ◌==◌ (xs ++ y ∷ ys) x)) _ e).1 in
    rw (eq_swap x y, has_not-middle xs ys y x first, rest) refl

-- a list without repeats has distinct elements
pub IsDistinct_from : (xs : List ℕ) → no_repeat ◌==◌ xs ≡ true → IsDistinct ◌==◌ xs
unfolding IsDistinct
IsDistinct_from [] e = tt
IsDistinct_from (x ∷ xs) e =
    (apart xs (not-true (has ◌==◌ xs x) (and_parts _ (no_repeat ◌==◌ xs) e).0), IsDistinct_from xs (and_parts (not (has ◌==◌ xs x)) _ e).1)
  where
    apart : (ys : List ℕ) → has ◌==◌ ys x ≡ false → AllByRecursion (λ y. (x == y) ≡ false) ys
    apart [] e = tt
    apart (y ∷ ys) e = let both = or_parts (y == x) (has ◌==◌ ys x) e in (eq_swap x y ∙ both.0, apart ys both.1)

below_from : (xs : List ℕ) (q : ℕ) → list_all (λ v. nat_le v most) xs ≡ true → list_any (λ y. q == y) xs ≡ true → q < most + 1
below_from [] q all e = cc
below_from (x ∷ xs) q all e =
    go (q == x) refl e (below_from xs q (and_parts (nat_le x most) (list_all (λ v. nat_le v most) xs) all).1)
  where
    here : nat_le x most ≡ true
    here = (and_parts (nat_le x most) (list_all (λ v. nat_le v most) xs) all).0

    go : (b : Bool) → (q == x) ≡ b → (b || list_any (λ y. q == y) xs) ≡ true
        → (list_any (λ y. q == y) xs ≡ true → q < most + 1) → q < most + 1
    go true t e rest = grind (arith, nat_tests, here, t)
    go false t e rest = rest e

-- distinct variables in range are few
pub length-distinct : (xs : List ℕ) → no_repeat ◌==◌ xs ≡ true → list_all (λ v. nat_le v most) xs ≡ true → length xs ≤ most + 1
length-distinct xs distinct range =
    length-le_from_distinct_below xs (most + 1) (IsDistinct_from xs distinct) (λ q e. below_from xs q range e)

pub few : {inputs : List ℕ} {gates : List And} → AreVariables inputs gates → length (0 ∷ (inputs ++ gate_vars gates)) ≤ most + 1
few {inputs} {gates} vars = length-distinct (0 ∷ (inputs ++ gate_vars gates)) vars.distinct vars.range

-- an input is none of the constant and the inputs before it
pub new_input : (inputs : List ℕ) (gates : List And) (i : ℕ) → AreVariables inputs gates → i < length inputs
    → has ◌==◌ (0 ∷ take i inputs) (get_or inputs i 0) ≡ false
new_input inputs gates i vars l =
    no_repeat-split (0 ∷ take i inputs) (drop (suc i) inputs ++ gate_vars gates) (get_or inputs i 0)
    (subst (λ (xs : List ℕ). no_repeat ◌==◌ (0 ∷ xs) ≡ true) whole vars.distinct)
  where
    whole : inputs ++ gate_vars gates ≡ take i inputs ++ get_or inputs i 0 ∷ (drop (suc i) inputs ++ gate_vars gates)
    whole = ap (λ (xs : List ℕ). xs ++ gate_vars gates) (split_at inputs i 0 l)
        ∙ append_assoc (take i inputs) (get_or inputs i 0 ∷ drop (suc i) inputs) (gate_vars gates)

-- a gate's variable is none of the constant, the inputs and the gates before it
pub new_gate : (inputs : List ℕ) (gates : List And) (i : ℕ) (d : And) → AreVariables inputs gates → i < length gates
    → has ◌==◌ (0 ∷ (inputs ++ gate_vars (take i gates))) (get_or gates i d).var ≡ false
new_gate inputs gates i d vars l =
    no_repeat-split (0 ∷ (inputs ++ gate_vars (take i gates))) (gate_vars (drop (suc i) gates)) (get_or gates i d).var
    (subst (λ (xs : List ℕ). no_repeat ◌==◌ (0 ∷ xs) ≡ true) whole vars.distinct)
  where
    gates_whole : gate_vars gates ≡ gate_vars (take i gates) ++ (get_or gates i d).var ∷ gate_vars (drop (suc i) gates)
    gates_whole = ap gate_vars (split_at gates i d l) ∙ map-append (λ g. g.var) (take i gates) (get_or gates i d ∷ drop (suc i) gates)

    whole : inputs ++ gate_vars gates
        ≡ (inputs ++ gate_vars (take i gates)) ++ (get_or gates i d).var ∷ gate_vars (drop (suc i) gates)
    whole = ap (λ (xs : List ℕ). inputs ++ xs) gates_whole
        ∙ sym (append_assoc inputs (gate_vars (take i gates)) ((get_or gates i d).var ∷ gate_vars (drop (suc i) gates)))

pub few_inputs : (inputs : List ℕ) (gates : List And) (i : ℕ) → AreVariables inputs gates → length (0 ∷ take i inputs) ≤ most + 1
few_inputs inputs gates i vars =
    omega (arith, few vars, length-take i inputs, length-append inputs (gate_vars gates))

pub few_gates : (inputs : List ℕ) (gates : List And) (i : ℕ) → AreVariables inputs gates
    → length (0 ∷ (inputs ++ gate_vars (take i gates))) ≤ most + 1
few_gates inputs gates i vars =
    omega (
      arith,
      few vars,
      length-append inputs (gate_vars (take i gates)),
      length-map (take i gates) (λ g. g.var),
      length-take i gates,
      length-append inputs (gate_vars gates),
      length-map gates (λ g. g.var),
    )

-- the variables up to the next gate
pub vars_more : (inputs : List ℕ) (gates : List And) (i : ℕ) (d : And) → i < length gates
    → (inputs ++ gate_vars (take i gates)) ++ (get_or gates i d).var ∷ [] ≡ inputs ++ gate_vars (take (i + 1) gates)
vars_more inputs gates i d l =
    append_assoc inputs (gate_vars (take i gates)) ((get_or gates i d).var ∷ [])
    ∙ ap (λ (xs : List ℕ). inputs ++ xs)
    (sym (map-append (λ g. g.var) (take i gates) (get_or gates i d ∷ [])) ∙ ap gate_vars (sym (take_more gates i d l)))

-- a list without repeats stays so with a new number put last
pub no_repeat_push : (xs : List ℕ) (y : ℕ) → no_repeat ◌==◌ xs ≡ true → has ◌==◌ xs y ≡ false → no_repeat ◌==◌ (xs ++ y ∷ []) ≡ true
no_repeat_push [] y e f = refl
no_repeat_push (x ∷ xs) y e f =
    let apart = or_parts (x == y) (has ◌==◌ xs y) f in
    let first = not-true (has ◌==◌ xs x) (and_parts _ (no_repeat ◌==◌ xs) e).0 in
    let rest = no_repeat_push xs y (and_parts (not (has ◌==◌ xs x)) _ e).1 apart.1 in
    rw (list_any-append (λ z. z == x) xs (y ∷ []), first, eq_swap y x, apart.0, rest) refl

-- one more variable is known, at either end
has_more : (known xs : List ℕ) (y v : ℕ) → has ◌==◌ known v ≡ has ◌==◌ xs v → has ◌==◌ (y ∷ known) v ≡ has ◌==◌ (xs ++ y ∷ []) v
has_more known xs y v e = rw (list_any-append (λ z. z == v) xs (y ∷ []), e) (go (has ◌==◌ xs v) (y == v))
  where
    go : (a b : Bool) → (b || a) ≡ (a || (b || false))
    go true true = refl
    go true false = refl
    go false true = refl
    go false false = refl

distinct_gates : (known xs : List ℕ) (gates : List And) → ((v : ℕ) → has ◌==◌ known v ≡ has ◌==◌ xs v)
    → no_repeat ◌==◌ xs ≡ true → AreOrdered known gates → no_repeat ◌==◌ (xs ++ gate_vars gates) ≡ true
distinct_gates known xs [] same e ordered = subst (λ (ys : List ℕ). no_repeat ◌==◌ ys ≡ true) (sym (append-nil xs)) e
distinct_gates known xs (g ∷ gs) same e ordered =
    let new : has ◌==◌ xs g.var ≡ false = sym (same g.var) ∙ ordered.0.new in
    let rest = distinct_gates (g.var ∷ known) (xs ++ g.var ∷ []) gs (λ v. has_more known xs g.var v (same v))
    (no_repeat_push xs g.var e new) ordered.1 in
    subst (λ (ys : List ℕ). no_repeat ◌==◌ ys ≡ true) (append_assoc xs (g.var ∷ []) (gate_vars gs)) rest

-- the variables of a circuit
pub variables : (c : Aig) → IsCircuit c → AreVariables c.inputs c.gates
variables c circuit = record {
  distinct = distinct_gates (0 ∷ c.inputs) (0 ∷ c.inputs) c.gates (λ v. refl) circuit.inputs circuit.gates;
  range = circuit.range;
}

pub few_inputs_of : (c : Aig) → IsCircuit c → length c.inputs ≤ most
few_inputs_of c circuit = omega (arith, few (variables c circuit), length-append c.inputs (gate_vars c.gates))

pub few_gates_of : (c : Aig) → IsCircuit c → length c.inputs + length c.gates ≤ most
few_gates_of c circuit =
    omega (arith, few (variables c circuit), length-append c.inputs (gate_vars c.gates), length-map c.gates (λ g. g.var))

-- what stands in one part of a list without repeats isn't in the other
pub no_repeat-apart : (xs ys : List ℕ) (v : ℕ) → no_repeat ◌==◌ (xs ++ ys) ≡ true → has ◌==◌ xs v ≡ true → has ◌==◌ ys v ≡ false
no_repeat-apart [] ys v e in_xs = cc
no_repeat-apart (x ∷ xs) ys v e in_xs =
    go (x == v) refl in_xs (no_repeat-apart xs ys v (and_parts (not (has ◌==◌ (xs ++ ys) x)) _ e).1)
  where
    first : has ◌==◌ (xs ++ ys) x ≡ false
    first = not-true (has ◌==◌ (xs ++ ys) x) (and_parts _ (no_repeat ◌==◌ (xs ++ ys)) e).0

    out : has ◌==◌ ys x ≡ false
    out = (or_parts (has ◌==◌ xs x) (has ◌==◌ ys x) (sym (list_any-append (λ z. z == x) xs ys) ∙ first)).1

    go : (b : Bool) → (x == v) ≡ b → (b || has ◌==◌ xs v) ≡ true → (has ◌==◌ xs v ≡ true → has ◌==◌ ys v ≡ false) → has ◌==◌ ys v ≡ false
    go true t h rest = let same : x ≡ v = grind (arith, nat_tests, t) in subst (λ (n : ℕ). has ◌==◌ ys n ≡ false) same out
    go false t h rest = rest h

pub list_any-vars : (gates : List And) (v : ℕ) → has ◌==◌ (gate_vars gates) v ≡ list_any (λ g. g.var == v) gates
list_any-vars [] v = refl
list_any-vars (g ∷ gs) v = ap (λ (b : Bool). (g.var == v) || b) (list_any-vars gs v)
