-- The binary text of a circuit in AIGER's order spells it.
use Rattle.std.proofs.Common.{◌≡◌, ℕ, zero, suc, ◌+◌, ◌≤◌, Bool, true, false, List, [], ◌∷◌, ◌++◌, length, Result, Ok, Err, refl, sym, ap, ◌∙◌, append_assoc, arith}
use Rattle.std.specs.Prelude.{◌==◌, not, nat_le, if◌then◌else◌}
use Rattle.std.specs.List.{flat_map, list_all, range_with_len}
use Rattle.std.proofs.lemmas.Bool.Decides.{nat_tests}
use Rattle.std.proofs.lemmas.List.Folds.{list_all-append}
use Rattle.byte_scan.specs.declared.errors.AigerErr.{AigerErr}
use Rattle.byte_scan.specs.declared.errors.AigerErr.TheVariants.{BadHeader}
use Rattle.byte_scan.specs.Reading.{start}
use Rattle.netlist.specs.declared.gate.And.{And}
use Rattle.netlist.specs.Circuit.{Aig, IsCircuit, gate_vars, variables_in}
use Rattle.netlist.proofs.Facts.{few_gates_of}
use Rattle.aiger_ascii.specs.Ascii.{ascii_in}
use Rattle.aiger_binary.specs.Binary.{binary_in}
use Rattle.aiger_file.specs.File.{aiger_in, is_form, SpellsAiger}
use Rattle.circuit_text.specs.Lines.{header_line, literal_line}
use Rattle.circuit_text.specs.Symbols.{symbols_text}
use Rattle.circuit_text.specs.AsciiText.{IsBound}
use Rattle.circuit_text.specs.BinaryText.{AreInSequence, IsInSequence, gate_deltas, binary_text}
use Rattle.aiger_text.proofs.HeaderLine.{AreCounts, header-found}
use Rattle.aiger_text.proofs.Within.{AreUpTo, literals_within}
use Rattle.aiger_text.proofs.Deltas.{literals-found, gates-found}
use Rattle.aiger_text.proofs.Names.{tail-found}

-- ---- no variable is above I + A

range-up : (m a k : ℕ) → a + k ≤ m + 1 → AreUpTo m (range_with_len a k)
range-up m a zero le = refl
range-up m a (suc k) le =
    let small : nat_le a m ≡ true = grind (arith, nat_tests) in
    rw (small, range-up m (a + 1) k (omega arith)) refl

sequence-up : (m v : ℕ) (gates : List And) → AreInSequence v gates → v + length gates ≤ m + 1
    → AreUpTo m (gate_vars gates)
sequence-up m v [] all le = refl
sequence-up m v (g ∷ gs) all le =
    let small : nat_le g.var m ≡ true = grind (arith, nat_tests, all.0) in
    rw (small, sequence-up m (v + 1) gs all.3 (omega arith)) refl

all-up : (c : Aig) → IsInSequence c → AreUpTo (length c.inputs + length c.gates) (variables_in c)
all-up c is =
    let m = length c.inputs + length c.gates in
    let inputs : AreUpTo m c.inputs =
    ap (λ (vs : List ℕ). list_all (λ v. nat_le v m) vs) is.inputs
    ∙ range-up m 1 (length c.inputs) (omega arith) in
    let gates = sequence-up m (length c.inputs + 1) c.gates is.gates (omega arith) in
    let none : nat_le 0 m ≡ true = grind (arith, nat_tests) in
    rw (none, list_all-append (λ v. nat_le v m) c.inputs (gate_vars c.gates), inputs, gates) refl

pub IsBound-sequence : (c : Aig) → IsCircuit c → IsInSequence c
    → IsBound (length c.inputs + length c.gates) c
IsBound-sequence c circuit is = record { covers = all-up c is; range = few_gates_of c circuit }

-- ---- the file

-- what stands behind the lines of the constraints, of the outputs, and behind the header
behind_constraints : Aig → List ℕ
behind_constraints c = flat_map gate_deltas c.gates ++ symbols_text c.names

behind_outputs : Aig → List ℕ
behind_outputs c = flat_map literal_line c.constraints ++ behind_constraints c

behind_header : Aig → List ℕ
behind_header c = flat_map literal_line c.outputs ++ behind_outputs c

text-parts : (c : Aig) → binary_text c ≡ header_line 105 (length c.inputs + length c.gates) c ++ behind_header c
unfolding binary_text behind_header behind_outputs behind_constraints
text-parts c =
    parts (header_line 105 (length c.inputs + length c.gates) c) (flat_map literal_line c.outputs)
    (flat_map literal_line c.constraints) (flat_map gate_deltas c.gates) (symbols_text c.names)
  where
    parts : (h o k g s : List ℕ) → h ++ o ++ k ++ g ++ s ≡ h ++ (o ++ (k ++ (g ++ s)))
    parts h o k g s =
        append_assoc (h ++ o ++ k) g s ∙ append_assoc (h ++ o) k (g ++ s) ∙ append_assoc h o (k ++ (g ++ s))

counts : (c : Aig) → IsCircuit c → AreCounts 105 (length c.inputs + length c.gates) c
counts c circuit =
    let few = few_gates_of c circuit in
    let equal : not (length c.inputs + length c.gates == length c.inputs + 0 + length c.gates)
    ≡ false =
    grind (arith, nat_tests) in
    record {
      variables = few;
      inputs = omega (arith, few);
      outputs = circuit.count;
      gates = omega (arith, few);
      constraints = circuit.constraint_count;
      counted = equal;
    }

pub binary-spells : (c : Aig) → IsCircuit c → IsInSequence c → binary_in (binary_text c) ≡ Ok c
unfolding binary_in behind_header behind_outputs behind_constraints
binary-spells c circuit is =
    let few = few_gates_of c circuit in
    let m = length c.inputs + length c.gates in
    let head = header-found (start (binary_text c)) 105 m c (behind_header c) (counts c circuit) refl (text-parts c) in
    let outputs = literals-found head.place m [] c.outputs (behind_outputs c) few
    (literals_within m (variables_in c) c.outputs (all-up c is) circuit.outputs) head.behind in
    let constraints = literals-found outputs.place m [] c.constraints (behind_constraints c) few
    (literals_within m (variables_in c) c.constraints (all-up c is) circuit.constraints) outputs.behind in
    let first : length c.inputs + 1 ≡ length c.inputs + 0 + 1 = omega arith in
    let gates = gates-found constraints.place (length c.inputs) [] c.gates (symbols_text c.names) (omega (arith, few))
    (rw first at is.gates) constraints.behind in
    rw (
      head.is,
      outputs.is,
      constraints.is,
      gates.is,
      tail-found gates.place (length c.inputs) (length c.outputs) c.names (omega (arith, few)) circuit.count circuit.names gates.behind,
    ) (ap (λ (vs : List ℕ). Ok (record c { inputs = vs })) (sym is.inputs))

pub aiger-spells : (c : Aig) → IsCircuit c → IsInSequence c → SpellsAiger (binary_text c) c
unfolding aiger_in
aiger-spells c circuit is =
    ap (λ (t : Bool). chosen t (is_form 105 (binary_text c))) other
    ∙ ap (chosen false) form
    ∙ binary-spells c circuit is
  where
    chosen : Bool → Bool → Result Aig AigerErr
    chosen s t =
        if s then ascii_in (binary_text c)
        else if t then binary_in (binary_text c) else Err BadHeader

    other : is_form 97 (binary_text c) ≡ false
    other = ap (is_form 97) (text-parts c)

    form : is_form 105 (binary_text c) ≡ true
    form = ap (is_form 105) (text-parts c)
