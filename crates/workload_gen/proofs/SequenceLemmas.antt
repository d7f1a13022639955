-- Gates in AIGER's order, one more, and the circuit that they make.
use Rattle.std.proofs.Common.{◌≡◌, ℕ, ◌+◌, ◌*◌, ◌<◌, ◌≤◌, List, [], ◌∷◌, ◌++◌, length, refl, sym, ap, ◌∙◌, arith, length-append}
use Rattle.std.specs.List.{range_with_len}
use Rattle.std.proofs.lemmas.List.FromFn.{length-range_with_len}
use Rattle.netlist.specs.declared.gate.And.{And}
use Rattle.netlist.specs.Circuit.{Aig, IsCircuit, most}
use Rattle.aiger_binary.specs.Binary.{AreStacked, AreBelow}
use Rattle.aiger_binary.proofs.Facts.{IsCircuit-stacked}
use Rattle.circuit_text.specs.BinaryText.{AreInSequence, IsInSequence}
use Rattle.workload_gen.specs.Adder.{with_last}
use Rattle.symbol_names.specs.Names.{AreNames, unnamed}
use Rattle.symbol_names.proofs.Facts.{AreNames-unnamed}
use Rattle.workload_gen.specs.Gates.{Draft, IsDraft, next, circuit_of}

AreInSequence-push : (v : ℕ) (gs : List And) (g : And) → AreInSequence v gs → g.var ≡ v + length gs
    → g.left < 2 * g.var → g.right ≤ g.left → AreInSequence v (gs ++ g ∷ [])
AreInSequence-push v [] g all is left right =
    (omega (arith, is), omega (arith, is, left), right, tt)
AreInSequence-push v (h ∷ hs) g all is left right =
    (all.0, all.1, all.2, AreInSequence-push (v + 1) hs g all.3 (omega (arith, is)) left right)

-- a gate of earlier literals joins
pub IsDraft-push : (inputs : ℕ) (gates more : List And) (g : And) → IsDraft (record { inputs = inputs; gates = gates })
    → more ≡ gates ++ g ∷ [] → g.var ≡ inputs + length gates + 1 → g.left < 2 * g.var → g.right ≤ g.left → g.var ≤ most
    → IsDraft (record { inputs = inputs; gates = more })
IsDraft-push inputs gates more g is same var left right room =
    rw same (record {
      sequence = AreInSequence-push (inputs + 1) gates g is.sequence (omega arith) left right;
      range = omega (arith, room, length-append gates (g ∷ []));
    })

AreStacked-sequence : (v : ℕ) (gs : List And) → AreInSequence v gs → AreStacked v gs
AreStacked-sequence v [] all = tt
AreStacked-sequence v (g ∷ gs) all =
    (all.0, omega (arith, all.1), omega (arith, all.1, all.2), AreStacked-sequence (v + 1) gs all.3)

pub IsCircuit-draft : (d : Draft) (outputs : List ℕ) → IsDraft d → AreBelow (next d) outputs → length outputs ≤ most
    → IsCircuit (circuit_of (outputs, d))
IsCircuit-draft d outputs is below few =
    let same = length-range_with_len 1 d.inputs in
    let names : AreNames d.inputs (length outputs) (unnamed (length (range_with_len 1 d.inputs)) (length outputs)) =
    rw same (AreNames-unnamed d.inputs (length outputs)) in
    IsCircuit-stacked d.inputs (d.inputs + length d.gates) d.gates outputs [] (unnamed (length (range_with_len 1 d.inputs)) (length outputs)) refl is.range
    (AreStacked-sequence (d.inputs + 1) d.gates is.sequence) below few tt (omega arith) names

pub IsInSequence-draft : (d : Draft) (outputs : List ℕ) → IsDraft d → IsInSequence (circuit_of (outputs, d))
IsInSequence-draft d outputs is =
    let same = length-range_with_len 1 d.inputs in
    record {
      inputs = ap (λ (k : ℕ). range_with_len 1 k) (sym same);
      gates = rw same is.sequence;
    }

-- ---- what is made of the outputs

pub row_output : (result : Aig) (items : List ℕ) (c d : Draft) (p : List ℕ × Draft) → result ≡ circuit_of (items, c) → c ≡ d
    → (items, d) ≡ p → result ≡ circuit_of p
row_output result items c d p made at same =
    made ∙ ap (λ (e : Draft). circuit_of (items, e)) at ∙ ap circuit_of same

pub one_output : (result : Aig) (items : List ℕ) (l : ℕ) (c d : Draft) (p : ℕ × Draft) → result ≡ circuit_of (items, c) → c ≡ d
    → items ≡ l ∷ [] → (l, d) ≡ p → result ≡ circuit_of (p.0 ∷ [], p.1)
one_output result items l c d p made at is same =
    made ∙ ap (λ (e : Draft). circuit_of (items, e)) at ∙ ap (λ (outputs : List ℕ). circuit_of (outputs, d)) is
    ∙ ap (λ (q : ℕ × Draft). circuit_of (q.0 ∷ [], q.1)) same

pub last_output : (result : Aig) (items sums : List ℕ) (l : ℕ) (c d : Draft) (p : (List ℕ × ℕ) × Draft) → result ≡ circuit_of (items, c)
    → c ≡ d → items ≡ sums ++ l ∷ [] → ((sums, l), d) ≡ p → result ≡ circuit_of (with_last p.0, p.1)
last_output result items sums l c d p made at is same =
    made ∙ ap (λ (e : Draft). circuit_of (items, e)) at ∙ ap (λ (outputs : List ℕ). circuit_of (outputs, d)) is
    ∙ ap (λ (q : (List ℕ × ℕ) × Draft). circuit_of (with_last q.0, q.1)) same
