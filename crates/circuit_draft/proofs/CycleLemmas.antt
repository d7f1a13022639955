-- The first gate without a level, and what follows where each gate has one.
use Rattle.std.proofs.Common.{◌≡◌, ◌≢◌, ℕ, zero, suc, ◌+◌, ◌*◌, ◌<◌, Bool, true, false, None, Some, List, [], ◌∷◌, length, refl, ap, ◌∙◌, subst, arith}
use Rattle.std.specs.Prelude.{◌==◌, slice_index, slice_index_or, is_none}
use Rattle.std.specs.List.{find}
use Rattle.std.specs.Option.{option_map}
use Rattle.std.proofs.lemmas.Bool.Decides.{nat_tests}
use Rattle.byte_scan.specs.declared.errors.AigerErr.TheVariants.{Cycle}
use Rattle.netlist.specs.declared.gate.And.{And}
use Rattle.netlist.specs.Circuit.{Aig}
use Rattle.netlist.specs.VariableTable.{AreVariables}
use Rattle.circuit_draft.specs.Levels.{level_of, on_cycle}
use Rattle.circuit_draft.specs.Steps.{gate_at, AreLevels, AreAllLevels}
use Rattle.circuit_draft.specs.Buckets.{AreWithin}
use Rattle.circuit_draft.proofs.LevelLemmas.{level-some, level-bound}
use Rattle.circuit_draft.proofs.VariableLemmas.{few_gates}

find_first : (test : And → Bool) (gates : List And) (i : ℕ) → i < length gates
    → ((p : ℕ) → p < i → test (slice_index_or gates p (record { var = 0; left = 0; right = 0 })) ≡ false)
    → test (slice_index_or gates i (record { var = 0; left = 0; right = 0 })) ≡ true
    → find test gates ≡ Some (slice_index_or gates i (record { var = 0; left = 0; right = 0 }))
find_first test [] i lt earlier here = absurd (omega arith)
find_first test (g ∷ gs) zero lt earlier here = rw here refl
find_first test (g ∷ gs) (suc i) lt earlier here =
    let first : test g ≡ false = earlier 0 (omega arith) in
    rw first (find_first test gs i (omega arith) (λ p l. earlier (suc p) (omega arith)) here)

pub find_none : (test : And → Bool) (gates : List And)
    → ((p : ℕ) → p < length gates → test (slice_index_or gates p (record { var = 0; left = 0; right = 0 })) ≡ false)
    → find test gates ≡ None
find_none test [] each = refl
find_none test (g ∷ gs) each =
    let first : test g ≡ false = each 0 (omega arith) in
    rw first (find_none test gs (λ p l. each (suc p) (omega arith)))

-- the first gate without a level
pub cycle_at : (c : Aig) (levels : List ℕ) (i v : ℕ) → AreLevels c levels → i < length c.gates → ((p : ℕ) → p < i → slice_index levels p ≢ 0)
    → level_of c (gate_at c i).var ≡ None → v ≡ (gate_at c i).var → option_map (λ g. Cycle (2 * g.var)) (on_cycle c) ≡ Some (Cycle (2 * v))
cycle_at c levels i v are lt found none is =
    ap (option_map (λ g. Cycle (2 * g.var))) (find_first (λ g. is_none (level_of c g.var)) c.gates i lt earlier (rw none refl)) ∙ rw is refl
  where
    earlier : (p : ℕ) → p < i → is_none (level_of c (gate_at c p).var) ≡ false
    earlier p l = rw (are.known p (omega arith) (found p l)) refl

pub found_more : (levels new : List ℕ) (n : ℕ) → ((p : ℕ) → slice_index levels p ≢ 0 → slice_index new p ≢ 0)
    → ((p : ℕ) → p < n → slice_index levels p ≢ 0) → slice_index new n ≢ 0 → (p : ℕ) → p < n + 1 → slice_index new p ≢ 0
found_more levels new n keeps found here p lt = go (p == n) refl
  where
    go : (b : Bool) → (p == n) ≡ b → slice_index new p ≢ 0
    go true t = let same : n ≡ p = grind (arith, nat_tests, t) in subst (λ (x : ℕ). slice_index new x ≢ 0) same here
    go false f = let apart : p ≢ n = grind (arith, nat_tests, f) in keeps p (found p (omega arith))

-- where each gate has a level, none is on a cycle
pub no_cycle : (c : Aig) (levels : List ℕ) → AreAllLevels c levels → on_cycle c ≡ None
no_cycle c levels are = find_none (λ g. is_none (level_of c g.var)) c.gates (λ p lt. rw (are.each p lt) refl)

pub AreWithin-levels : (c : Aig) (levels : List ℕ) → AreVariables c.inputs c.gates → AreAllLevels c levels → AreWithin levels
AreWithin-levels c levels vars are = record {
  few = omega (arith, few_gates c.inputs c.gates vars, are.count);
  some = λ p lt. level-some c p (slice_index levels p) vars (omega (arith, are.count)) (are.each p (omega (arith, are.count)));
  most = λ p lt. let b = level-bound c (length c.gates) (gate_at c p).var (slice_index levels p) (are.each p (omega (arith, are.count))) in omega (arith, b, are.count);
}
