-- Where the file's order serves, each gate has a level.
use Rattle.std.proofs.Common.{◌≡◌, ℕ, zero, suc, ◌+◌, ◌<◌, max, Bool, true, false, None, Some, List, [], ◌∷◌, ◌++◌, length, refl, sym, ◌∙◌, subst, arith}
use Rattle.std.specs.Prelude.{◌==◌, ◌&&◌, ◌||◌, is_none, slice_index_or}
use Rattle.std.proofs.lemmas.Bool.Decides.{nat_tests}
use Rattle.std.proofs.lemmas.List.Folds.{list_any-append}
use Rattle.std.proofs.lemmas.Bool.{and_parts}
use Rattle.lits.specs.Clause.{has}
use Rattle.netlist.specs.declared.gate.And.{And}
use Rattle.netlist.specs.Circuit.{Aig, is_over, var_of}
use Rattle.netlist.specs.VariableTable.{AreVariables}
use Rattle.circuit_draft.specs.Levels.{gate_for, level_within, level_of, on_cycle, is_in_order}
use Rattle.circuit_draft.specs.Steps.{gate_at}
use Rattle.circuit_draft.proofs.VariableLemmas.{gate_for-at, no_source}
use Rattle.circuit_draft.proofs.LevelLemmas.{level-source, level-gate, level-low, level-bound, above-made}
use Rattle.circuit_draft.proofs.CycleLemmas.{find_none}

-- the variables of a list have levels up to n
abbrev HaveLevels : Aig → List ℕ → ℕ → Type 0
HaveLevels c known n = (v : ℕ) → has ◌==◌ known v ≡ true → (m : ℕ) × (level_within c n v ≡ Some m)

-- a gate that defines its variable over such a list has a level up to n + 1
level_next : (c : Aig) (known : List ℕ) (n : ℕ) (g : And) → gate_for c g.var ≡ Some g → has ◌==◌ (0 ∷ c.inputs) g.var ≡ false → HaveLevels c known n
    → is_over known g.left ≡ true → is_over known g.right ≡ true → (m : ℕ) × (level_within c (suc n) g.var ≡ Some m)
level_next c known n g is none have left right =
    let l = have (var_of g.left) left in
    let r = have (var_of g.right) right in
    (max l.0 r.0 + 1, level-gate c n g.var g none is ∙ above-made _ _ l.0 r.0 (max l.0 r.0 + 1) l.1 r.1 refl)

HaveLevels-push : (c : Aig) (known : List ℕ) (n w m : ℕ) → HaveLevels c known n → level_within c (suc n) w ≡ Some m → HaveLevels c (known ++ w ∷ []) (suc n)
HaveLevels-push c known n w m have e v h = go (has ◌==◌ known v) refl (w == v) refl (sym (list_any-append (λ y. y == v) known (w ∷ [])) ∙ h)
  where
    go : (a : Bool) → has ◌==◌ known v ≡ a → (b : Bool) → (w == v) ≡ b → (a || (b || false)) ≡ true → (k : ℕ) × (level_within c (suc n) v ≡ Some k)
    go true s b t either = let l = have v s in (l.0, level-low c n (suc n) v l.0 l.1 (let le = level-bound c n v l.0 l.1 in omega arith))
    go false s true t either = let same : w ≡ v = grind (arith, nat_tests, t) in (m, subst (λ (x : ℕ). level_within c (suc n) x ≡ Some m) same e)
    go false s false t either = absurd (cc)

ranked : (c : Aig) (gs : List And) (known : List ℕ) (n : ℕ)
    → ((k : ℕ) → k < length gs → gate_for c (slice_index_or gs k (record { var = 0; left = 0; right = 0 })).var ≡ Some (slice_index_or gs k (record { var = 0; left = 0; right = 0 })))
    → ((k : ℕ) → k < length gs → has ◌==◌ (0 ∷ c.inputs) (slice_index_or gs k (record { var = 0; left = 0; right = 0 })).var ≡ false)
    → HaveLevels c known n → is_in_order known gs ≡ true → (k : ℕ) → k < length gs
    → (m : ℕ) × (level_within c (n + k + 1) (slice_index_or gs k (record { var = 0; left = 0; right = 0 })).var ≡ Some m)
ranked c [] known n gates none have order k lt = absurd (omega arith)
ranked c (g ∷ gs) known n gates none have order k lt =
    go k lt (λ j l. ranked c gs (known ++ g.var ∷ []) (suc n) (λ i lt. gates (suc i) (omega arith)) (λ i lt. none (suc i) (omega arith))
    (HaveLevels-push c known n g.var here.0 have here.1) parts.1 j l)
  where
    parts : ((is_over known g.left && is_over known g.right) ≡ true) × (is_in_order (known ++ g.var ∷ []) gs ≡ true)
    parts = and_parts (is_over known g.left && is_over known g.right) (is_in_order (known ++ g.var ∷ []) gs) order

    fanins : (is_over known g.left ≡ true) × (is_over known g.right ≡ true)
    fanins = and_parts (is_over known g.left) (is_over known g.right) parts.0

    here : (m : ℕ) × (level_within c (suc n) g.var ≡ Some m)
    here = level_next c known n g (gates 0 (omega arith)) (none 0 (omega arith)) have fanins.0 fanins.1

    go : (j : ℕ) → j < length (g ∷ gs)
        → ((i : ℕ) → i < length gs → (m : ℕ) × (level_within c (suc n + i + 1) (slice_index_or gs i (record { var = 0; left = 0; right = 0 })).var ≡ Some m))
        → (m : ℕ) × (level_within c (n + j + 1) (slice_index_or (g ∷ gs) j (record { var = 0; left = 0; right = 0 })).var ≡ Some m)
    go zero l rest = let e : n + zero + 1 ≡ suc n = omega arith in (here.0, rw e here.1)
    go (suc j) l rest =
        let r = rest j (omega arith) in
        let e : n + suc j + 1 ≡ suc n + j + 1 = omega arith in (r.0, rw e r.1)

pub no_cycle-order : (c : Aig) → AreVariables c.inputs c.gates → is_in_order (0 ∷ c.inputs) c.gates ≡ true → on_cycle c ≡ None
no_cycle-order c vars order = find_none (λ g. is_none (level_of c g.var)) c.gates (λ p lt. known p lt)
  where
    known : (p : ℕ) → p < length c.gates → is_none (level_of c (gate_at c p).var) ≡ false
    known p lt =
        let l = ranked c c.gates (0 ∷ c.inputs) 0 (λ k h. gate_for-at c k vars h) (λ k h. no_source c k vars h) (λ v h. (0, level-source c 0 v h)) order p lt in
        let le = level-bound c (0 + p + 1) (gate_at c p).var l.0 l.1 in
        let at : level_of c (gate_at c p).var ≡ Some l.0 = level-low c (0 + p + 1) (length c.gates) (gate_at c p).var l.0 l.1 (omega arith) in
        rw at refl
