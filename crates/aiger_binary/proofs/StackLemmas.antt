-- Gates that define the variables behind the inputs, in order and each over those before it, make a circuit.
use Rattle.std.proofs.Common.{◌≡◌, ℕ, zero, suc, ◌+◌, ◌<◌, ◌≤◌, Bool, true, false, List, [], ◌∷◌, ◌++◌, length, refl, sym, ◌∙◌, arith, append_assoc, append-nil}
use Rattle.std.specs.Prelude.{◌==◌, ◌||◌, nat_le, nat_lt}
use Rattle.std.specs.List.{list_all, range_with_len}
use Rattle.std.proofs.lemmas.Bool.Decides.{nat_tests}
use Rattle.std.proofs.lemmas.List.Folds.{list_any-append}
use Rattle.std.proofs.Math.Bool.{or-false, or_comm}
use Rattle.std.proofs.lemmas.Bool.{or_right}
use Rattle.std.proofs.lemmas.List.FromFn.{length-range_with_len}
use Rattle.symbol_names.specs.declared.names.Names.{Names}
use Rattle.symbol_names.specs.Names.{AreNames}
use Rattle.lits.specs.Clause.{has}
use Rattle.lits.proofs.Facts.{lt-true, no_repeat-range, range-above}
use Rattle.netlist.specs.declared.gate.And.{And}
use Rattle.netlist.specs.Circuit.{IsCircuit, AreOrdered, gate_vars, is_over, var_of, most}
use Rattle.aiger_binary.specs.Binary.{AreStacked, AreBelow}

pub AreStacked-push : (n : ℕ) (gs : List And) (g : And) → AreStacked n gs → g.var ≡ n + length gs → var_of g.left < g.var → var_of g.right < g.var → AreStacked n (gs ++ g ∷ [])
AreStacked-push n [] g stacked is left right = (omega arith, omega (arith, is), omega (arith, is), tt)
AreStacked-push n (h ∷ hs) g stacked is left right =
    (stacked.0, stacked.1, stacked.2, AreStacked-push (n + 1) hs g stacked.3 (omega (arith, is)) left right)

pub AreBelow-push : (n : ℕ) (lits : List ℕ) (lit : ℕ) → AreBelow n lits → var_of lit < n → AreBelow n (lits ++ lit ∷ [])
AreBelow-push n [] lit below lt = (lt, tt)
AreBelow-push n (l ∷ ls) lit below lt = (below.0, AreBelow-push n ls lit below.1 lt)

-- exactly the variables below n are known
abbrev Knows : ℕ → List ℕ → Type 0
Knows n known = (v : ℕ) → has ◌==◌ known v ≡ nat_lt v n

lt_more : (v n : ℕ) → (n == v || nat_lt v n) ≡ nat_lt v (n + 1)
lt_more v n = grind (arith, nat_tests)

Knows-push : (n : ℕ) (xs : List ℕ) → Knows n xs → Knows (n + 1) (xs ++ n ∷ [])
Knows-push n xs knows v =
    rw (list_any-append (λ y. y == v) xs (n ∷ []), knows v, or-false (n == v)) (or_comm (nat_lt v n) (n == v) ∙ lt_more v n)

Knows-range : (n k : ℕ) (xs : List ℕ) → Knows n xs → Knows (n + k) (xs ++ range_with_len n k)
Knows-range n zero xs knows v = let e : n + zero ≡ n = omega arith in rw (append-nil xs, e) (knows v)
Knows-range n (suc k) xs knows v =
    let e : n + suc k ≡ (n + 1) + k = omega arith in
    rw (e, sym (append_assoc xs (n ∷ []) (range_with_len (n + 1) k))) (Knows-range (n + 1) k (xs ++ n ∷ []) (Knows-push n xs knows) v)

zero_known : Knows 1 (0 ∷ [])
zero_known v = rw (or-false (0 == v)) (grind (arith, nat_tests))

Knows-inputs : (i : ℕ) → Knows (1 + i) (0 ∷ range_with_len 1 i)
Knows-inputs i = Knows-range 1 i (0 ∷ []) zero_known

Knows-gates : (n : ℕ) (xs : List ℕ) (gs : List And) → Knows n xs → AreStacked n gs → Knows (n + length gs) (xs ++ gate_vars gs)
Knows-gates n xs [] knows stacked v = let e : n + 0 ≡ n = omega arith in rw (append-nil xs, e) (knows v)
Knows-gates n xs (g ∷ gs) knows stacked v =
    let e : n + length (g ∷ gs) ≡ (n + 1) + length gs = omega arith in
    rw (e, stacked.0, sym (append_assoc xs (n ∷ []) (gate_vars gs))) (Knows-gates (n + 1) (xs ++ n ∷ []) gs (Knows-push n xs knows) stacked.3 v)

AreOrdered-stacked : (n : ℕ) (known : List ℕ) (gs : List And) → Knows n known → AreStacked n gs → AreOrdered known gs
AreOrdered-stacked n known [] knows stacked = tt
AreOrdered-stacked n known (g ∷ gs) knows stacked =
    let same : nat_lt g.var n ≡ false = grind (arith, nat_tests, stacked.0) in (
      record {
        new = knows g.var ∙ same;
        left = knows (var_of g.left) ∙ lt-true (var_of g.left) n stacked.1;
        right = knows (var_of g.right) ∙ lt-true (var_of g.right) n stacked.2;
      },
      AreOrdered-stacked (n + 1) (g.var ∷ known) gs (λ v. rw (stacked.0, knows v) (lt_more v n)) stacked.3,
    )

all_from_has : (p : ℕ → Bool) (xs : List ℕ) → ((v : ℕ) → has ◌==◌ xs v ≡ true → p v ≡ true) → list_all p xs ≡ true
all_from_has p [] each = refl
all_from_has p (x ∷ xs) each = rw (each x here, all_from_has p xs (λ v h. each v (or_right (x == v) (has ◌==◌ xs v) h))) refl
  where
    here : (x == x || has ◌==◌ xs x) ≡ true
    here = let t : (x == x) ≡ true = grind (arith, nat_tests) in rw t refl

all_below : (n : ℕ) (known lits : List ℕ) → Knows n known → AreBelow n lits → list_all (is_over known) lits ≡ true
all_below n known [] knows below = refl
all_below n known (l ∷ ls) knows below = rw (knows (var_of l) ∙ lt-true (var_of l) n below.0, all_below n known ls knows below.1) refl

pub IsCircuit-stacked : (i m : ℕ) (gates : List And) (outputs constraints : List ℕ) (names : Names) → m ≡ i + length gates → m ≤ most → AreStacked (i + 1) gates
    → AreBelow (m + 1) outputs → length outputs ≤ most → AreBelow (m + 1) constraints → length constraints ≤ most → AreNames i (length outputs) names
    → IsCircuit (record { inputs = range_with_len 1 i; gates = gates; outputs = outputs; constraints = constraints; names = names })
IsCircuit-stacked i m gates outputs constraints names is le stacked below few within enough fit =
    let swap : i + 1 ≡ 1 + i = omega arith in
    let stack : AreStacked (1 + i) gates = rw swap at stacked in
    let known : Knows ((1 + i) + length gates) (0 ∷ (range_with_len 1 i ++ gate_vars gates)) = Knows-gates (1 + i) (0 ∷ range_with_len 1 i) gates (Knows-inputs i) stack in
    let all : (1 + i) + length gates ≡ m + 1 = omega (arith, is) in
    let knows : Knows (m + 1) (0 ∷ (range_with_len 1 i ++ gate_vars gates)) = rw all at known in
    record {
      inputs = rw (range-above i 1 0 (omega arith), no_repeat-range i 1) refl;
      gates = AreOrdered-stacked (1 + i) (0 ∷ range_with_len 1 i) gates (Knows-inputs i) stack;
      outputs = all_below (m + 1) (0 ∷ (range_with_len 1 i ++ gate_vars gates)) outputs knows below;
      range = all_from_has (λ v. nat_le v most) (0 ∷ (range_with_len 1 i ++ gate_vars gates)) (λ v h. small v (sym (knows v) ∙ h));
      count = few;
      constraints = all_below (m + 1) (0 ∷ (range_with_len 1 i ++ gate_vars gates)) constraints knows within;
      constraint_count = enough;
      names = rw (length-range_with_len 1 i) fit;
    }
  where
    small : (v : ℕ) → nat_lt v (m + 1) ≡ true → nat_le v most ≡ true
    small v h = grind (arith, nat_tests, h, le)
