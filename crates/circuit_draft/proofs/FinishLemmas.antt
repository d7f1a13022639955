-- A draft whose uses are defined is a circuit once its gates are in order.
use Rattle.std.proofs.Common.{◌≡◌, ℕ, Ok, zero, suc, ◌<◌, Bool, true, false, not, None, Some, List, [], ◌∷◌, ◌++◌, length, refl, sym, ◌∙◌, arith, ap}
use Rattle.std.specs.Prelude.{◌==◌, ◌&&◌, ◌||◌, cond, slice_index_or}
use Rattle.std.specs.List.{find, flat_map, list_all}
use Rattle.std.proofs.lemmas.List.{append_assoc}
use Rattle.std.proofs.lemmas.List.Folds.{list_any-append, list_all-append}
use Rattle.lits.specs.Clause.{has, no_repeat}
use Rattle.netlist.specs.declared.gate.And.{And}
use Rattle.netlist.specs.Circuit.{Aig, IsCircuit, AreOrdered, gate_vars, variables_in, is_over, var_of, without_names}
use Rattle.symbol_names.proofs.Facts.{AreNames-unnamed}
use Rattle.netlist.proofs.Facts.{no_repeat-split}
use Rattle.circuit_draft.specs.Levels.{is_in_order, on_cycle}
use Rattle.std.proofs.lemmas.Bool.{and_parts, or_parts, not-true}
use Rattle.std.proofs.Math.Bool.{or_comm, or-false}
use Rattle.circuit_draft.specs.Draft.{IsDraft, undefined_in, uses_in, finished}
use Rattle.circuit_draft.specs.Steps.{AreDefined, IsFinished}
use Rattle.circuit_draft.proofs.InOrderLemmas.{no_cycle-order}

-- ---- nothing is undefined

none_found : (test : ℕ → Bool) (xs : List ℕ) → find (λ n. not (test n)) xs ≡ None → list_all test xs ≡ true
none_found test [] e = refl
none_found test (x ∷ xs) e = go (test x) refl e (none_found test xs)
  where
    go : (b : Bool) → test x ≡ b → cond (not b) (Some x) (find (λ n. not (test n)) xs) ≡ None
        → (find (λ n. not (test n)) xs ≡ None → list_all test xs ≡ true) → (test x && list_all test xs) ≡ true
    go true t e rest = rw (t, rest e) refl
    go false t e rest = absurd (cc)

pub all_uses : (c : Aig) → undefined_in c ≡ None
    → (list_all (is_over (variables_in c)) c.outputs ≡ true)
    × ((list_all (is_over (variables_in c)) c.constraints ≡ true) × (list_all (is_over (variables_in c)) (flat_map (λ g. g.left ∷ g.right ∷ []) c.gates) ≡ true))
all_uses c e =
    let over = is_over (variables_in c) in
    let fanins = flat_map (λ (g : And). g.left ∷ g.right ∷ []) c.gates in
    let first = and_parts _ _ (sym (list_all-append over c.outputs (c.constraints ++ fanins)) ∙ none_found over (uses_in c) e) in
    (first.0, and_parts _ _ (sym (list_all-append over c.constraints fanins) ∙ first.1))

fanins_at : (test : ℕ → Bool) (gates : List And) (p : ℕ) → p < length gates → list_all test (flat_map (λ g. g.left ∷ g.right ∷ []) gates) ≡ true
    → (test (slice_index_or gates p (record { var = 0; left = 0; right = 0 })).left ≡ true) × (test (slice_index_or gates p (record { var = 0; left = 0; right = 0 })).right ≡ true)
fanins_at test [] p lt e = absurd (omega arith)
fanins_at test (g ∷ gs) zero lt e =
    let first = and_parts (test g.left) _ e in
    let second = and_parts (test g.right) _ first.1 in (first.0, second.0)
fanins_at test (g ∷ gs) (suc p) lt e =
    let first = and_parts (test g.left) _ e in
    let second = and_parts (test g.right) _ first.1 in fanins_at test gs p (omega arith) second.1

pub AreDefined-uses : (c : Aig) → undefined_in c ≡ None → AreDefined c
AreDefined-uses c e = record {
  left = λ p lt. (fanins_at (is_over (variables_in c)) c.gates p lt (all_uses c e).1.1).0;
  right = λ p lt. (fanins_at (is_over (variables_in c)) c.gates p lt (all_uses c e).1.1).1;
}

-- ---- the file's order serves

-- known lists that hold the same variables
abbrev pub Same : List ℕ → List ℕ → Type 0
Same known others = (v : ℕ) → has ◌==◌ known v ≡ has ◌==◌ others v

-- two lists of the same variables stay so with one put first in the one and last in the other
pub Same-push : (known others : List ℕ) (v : ℕ) → Same known others → Same (v ∷ known) (others ++ v ∷ [])
Same-push known others v same w =
    rw (list_any-append (λ y. y == w) others (v ∷ []), same w) (turned (v == w) (has ◌==◌ others w))
  where
    turned : (a b : Bool) → (a || b) ≡ (b || (a || false))
    turned a b = or_comm a b ∙ ap (λ (c : Bool). b || c) (sym (or-false a))

AreOrdered-order : (known others : List ℕ) (gates : List And) → Same known others → no_repeat ◌==◌ (others ++ gate_vars gates) ≡ true
    → is_in_order others gates ≡ true → AreOrdered known gates
AreOrdered-order known others [] same once order = tt
AreOrdered-order known others (g ∷ gs) same once order =
    let first = and_parts (is_over others g.left && is_over others g.right) (is_in_order (others ++ g.var ∷ []) gs) order in
    let fanins = and_parts (is_over others g.left) (is_over others g.right) first.0 in (
      record {
        new = same g.var ∙ no_repeat-split others (gate_vars gs) g.var once;
        left = same (var_of g.left) ∙ fanins.0;
        right = same (var_of g.right) ∙ fanins.1;
      },
      AreOrdered-order (g.var ∷ known) (others ++ g.var ∷ []) gs (Same-push known others g.var same)
          (rw (append_assoc others (g.var ∷ []) (gate_vars gs)) once) first.1,
    )

pub front_once : (xs ys : List ℕ) → no_repeat ◌==◌ (xs ++ ys) ≡ true → no_repeat ◌==◌ xs ≡ true
front_once [] ys e = refl
front_once (x ∷ xs) ys e =
    let parts = and_parts (not (has ◌==◌ (xs ++ ys) x)) (no_repeat ◌==◌ (xs ++ ys)) e in
    let first : has ◌==◌ (xs ++ ys) x ≡ false = not-true (has ◌==◌ (xs ++ ys) x) parts.0 in
    let split : (has ◌==◌ xs x || has ◌==◌ ys x) ≡ false = sym (list_any-append (λ z. z == x) xs ys) ∙ first in
    let apart = or_parts (has ◌==◌ xs x) (has ◌==◌ ys x) split in
    rw (apart.0, front_once xs ys parts.1) refl

pub IsCircuit-order : (c : Aig) → IsDraft c → undefined_in c ≡ None → is_in_order (0 ∷ c.inputs) c.gates ≡ true → IsCircuit (without_names c)
IsCircuit-order c draft none order = record {
  inputs = front_once (0 ∷ c.inputs) (gate_vars c.gates) draft.variables.distinct;
  gates = AreOrdered-order (0 ∷ c.inputs) (0 ∷ c.inputs) c.gates (λ v. refl) draft.variables.distinct order;
  outputs = (all_uses c none).0;
  range = draft.variables.range;
  count = draft.count;
  constraints = (all_uses c none).1.0;
  constraint_count = draft.constraint_count;
  names = AreNames-unnamed (length c.inputs) (length c.outputs);
}

-- ---- what a draft becomes

pub finished-order : (c : Aig) → undefined_in c ≡ None → on_cycle c ≡ None → is_in_order (0 ∷ c.inputs) c.gates ≡ true → finished c ≡ Ok (without_names c)
finished-order c none cycle order = rw (none, cycle, order) refl

pub IsFinished-order : (c : Aig) → IsDraft c → undefined_in c ≡ None → is_in_order (0 ∷ c.inputs) c.gates ≡ true → IsFinished c (without_names c)
IsFinished-order c draft none order = record {
  is_circuit = IsCircuit-order c draft none order;
  finished = finished-order c none (no_cycle-order c draft.variables order) order;
}
