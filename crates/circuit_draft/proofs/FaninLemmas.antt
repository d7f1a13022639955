-- What the table and the levels so far say of a fanin, and what its fanins say of a gate.
use Rattle.std.proofs.Common.{◌≡◌, ◌≢◌, ℕ, ◌+◌, ◌-◌, ◌<◌, ◌≤◌, max, true, Option, None, Some, List, length, refl, sym, ap, ◌∙◌, subst, arith}
use Rattle.std.specs.Prelude.{◌==◌, slice_index}
use Rattle.std.specs.Option.{is_some}
use Rattle.netlist.specs.Circuit.{Aig, var_of, is_over, variables_in}
use Rattle.netlist.specs.Place.{place_of}
use Rattle.netlist.specs.VariableTable.{Places, place_in, AreVariables}
use Rattle.netlist.proofs.Facts.{is_some-place}
use Rattle.circuit_draft.specs.Draft.{IsIndexedDraft}
use Rattle.circuit_draft.specs.Levels.{level_of}
use Rattle.circuit_draft.specs.Steps.{gate_at, AreLevels, IsFanin, IsStep, IsOpen}
use Rattle.circuit_draft.specs.declared.climb.Fanin.TheVariants as fanin
use Rattle.circuit_draft.specs.declared.climb.Step.TheVariants as step
use Rattle.circuit_draft.proofs.VariableLemmas.{gate_place, source_place}
use Rattle.circuit_draft.proofs.LevelLemmas.{level-source, level-made, open-le, open-some}

pub gate_fanin : (c : Aig) (t : Places) (lit k n : ℕ) → IsIndexedDraft c t → place_in t (var_of lit) ≡ Some k → n ≡ length c.inputs → n < k
    → (k - n - 1 < length c.gates) × (var_of lit ≡ (gate_at c (k - n - 1)).var)
gate_fanin c t lit k n draft e is lt =
    gate_place c (var_of lit) k (k - n - 1) (sym (draft.table.finds (var_of lit)) ∙ e) (omega arith)

pub known_fanin : (c : Aig) (levels : List ℕ) (lit q : ℕ) → AreLevels c levels → q < length c.gates → var_of lit ≡ (gate_at c q).var
    → slice_index levels q ≢ 0 → IsFanin c levels lit (fanin.At (slice_index levels q))
known_fanin c levels lit q are lt same ne = (ap (level_of c) same ∙ are.known q lt ne, are.low q lt ne)

pub open_fanin : (c : Aig) (levels : List ℕ) (lit q : ℕ) → q < length c.gates → var_of lit ≡ (gate_at c q).var
    → slice_index levels q ≡ 0 → IsFanin c levels lit (fanin.Gate q)
open_fanin c levels lit q lt same e = (record { within = lt; unknown = e }, same)

pub source_fanin : (c : Aig) (t : Places) (levels : List ℕ) (lit k : ℕ) → IsIndexedDraft c t → AreLevels c levels
    → place_in t (var_of lit) ≡ Some k → k ≤ length c.inputs → IsFanin c levels lit (fanin.At 0)
source_fanin c t levels lit k draft are e le =
    (level-source c (length c.gates) (var_of lit) (source_place c (var_of lit) k (sym (draft.table.finds (var_of lit)) ∙ e) le), omega (arith, open-le levels, are.count))

pub defined_fanin : {A : Type 0} (c : Aig) (t : Places) (lit : ℕ) → IsIndexedDraft c t → place_in t (var_of lit) ≡ None → is_over (variables_in c) lit ≡ true → A
defined_fanin c t lit draft e over =
    let some : is_some (place_of (λ x. x == var_of lit) (variables_in c)) ≡ true = is_some-place (λ x. x == var_of lit) (variables_in c) ∙ over in
    let none : place_of (λ x. x == var_of lit) (variables_in c) ≡ None = sym (draft.table.finds (var_of lit)) ∙ e in
    let no : is_some {T = ℕ} None ≡ true = subst (λ (o : Option ℕ). is_some o ≡ true) none some in absurd (cc)

-- both levels are known
pub made_step : (c : Aig) (levels : List ℕ) (q l r : ℕ) → AreVariables c.inputs c.gates → IsOpen c levels q → AreLevels c levels
    → IsFanin c levels (gate_at c q).left (fanin.At l) → IsFanin c levels (gate_at c q).right (fanin.At r)
    → IsStep c levels q (step.At (max l r + 1))
made_step c levels q l r vars here are left right =
    let some = open-some levels q (omega (arith, here.within, are.count)) here.unknown in
    (level-made c q l r (max l r + 1) vars here.within left.0 right.0 refl (omega (arith, left.1, right.1)), (λ e. absurd (omega arith)), omega (arith, left.1, right.1))
