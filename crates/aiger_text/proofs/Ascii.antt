-- The ASCII text of a circuit spells it.
use Rattle.std.proofs.Common.{◌≡◌, ℕ, ◌+◌, true, false, List, [], ◌++◌, length, Ok, Result, refl, ap, ◌∙◌, append_assoc, arith}
use Rattle.std.specs.Prelude.{nat_lt, Bool, Err, if◌then◌else◌}
use Rattle.std.specs.List.{flat_map}
use Rattle.std.proofs.lemmas.Bool.Decides.{nat_tests}
use Rattle.byte_scan.specs.declared.errors.AigerErr.{AigerErr}
use Rattle.byte_scan.specs.declared.errors.AigerErr.TheVariants.{BadHeader}
use Rattle.byte_scan.specs.Scanning.{Place, ahead}
use Rattle.byte_scan.specs.Reading.{start}
use Rattle.symbol_names.specs.Names.{unnamed}
use Rattle.netlist.specs.Circuit.{Aig, IsCircuit}
use Rattle.netlist.proofs.Facts.{variables}
use Rattle.aiger_ascii.specs.Ascii.{ascii_in, body_at}
use Rattle.aiger_binary.specs.Binary.{binary_in}
use Rattle.aiger_file.specs.File.{aiger_in, is_form, SpellsAiger}
use Rattle.circuit_text.specs.Lines.{header_line, literal_line}
use Rattle.circuit_text.specs.Symbols.{symbols_text}
use Rattle.circuit_text.specs.AsciiText.{ascii_text, input_line, gate_line, IsBound}
use Rattle.aiger_text.proofs.Reading.{Finds}
use Rattle.aiger_text.proofs.HeaderLine.{header, AreCounts, header-found}
use Rattle.aiger_text.proofs.Sections.{aig, inputs-found, outputs-found, constraints-found, gates-found}
use Rattle.aiger_text.proofs.Within.{few_variables, parts_within}
use Rattle.aiger_text.proofs.Finished.{finished-circuit}
use Rattle.aiger_text.proofs.Names.{tail-found}

-- what stands behind the lines of the constraints, of the outputs, of the inputs, and behind the header
behind_constraints : Aig → List ℕ
behind_constraints c = flat_map gate_line c.gates ++ symbols_text c.names

behind_outputs : Aig → List ℕ
behind_outputs c = flat_map literal_line c.constraints ++ behind_constraints c

behind_inputs : Aig → List ℕ
behind_inputs c = flat_map literal_line c.outputs ++ behind_outputs c

behind_header : Aig → List ℕ
behind_header c = flat_map input_line c.inputs ++ behind_inputs c

text-parts : (m : ℕ) (c : Aig) → ascii_text m c ≡ header_line 97 m c ++ behind_header c
unfolding ascii_text behind_header behind_inputs behind_outputs behind_constraints
text-parts m c =
    parts (header_line 97 m c) (flat_map input_line c.inputs) (flat_map literal_line c.outputs)
    (flat_map literal_line c.constraints) (flat_map gate_line c.gates) (symbols_text c.names)
  where
    parts : (h i o k g s : List ℕ) → h ++ i ++ o ++ k ++ g ++ s ≡ h ++ (i ++ (o ++ (k ++ (g ++ s))))
    parts h i o k g s =
        append_assoc (h ++ i ++ o ++ k) g s ∙ append_assoc (h ++ i ++ o) k (g ++ s)
        ∙ append_assoc (h ++ i) o (k ++ (g ++ s)) ∙ append_assoc h i (o ++ (k ++ (g ++ s)))

counts : (m : ℕ) (c : Aig) → IsCircuit c → IsBound m c → AreCounts 97 m c
counts m c circuit bound =
    let few = few_variables m c circuit bound.covers in
    let enough : nat_lt m (length c.inputs + 0 + length c.gates) ≡ false =
    grind (arith, nat_tests, few) in
    record {
      variables = bound.range;
      inputs = omega (arith, few, bound.range);
      outputs = circuit.count;
      gates = omega (arith, few, bound.range);
      constraints = circuit.constraint_count;
      counted = enough;
    }

body-found : (p : Place) (m : ℕ) (c : Aig) → IsCircuit c → IsBound m c → ahead p ≡ behind_header c
    → Finds (body_at (header m c) p) (aig c.inputs c.gates c.outputs c.constraints) (symbols_text c.names)
unfolding body_at behind_header behind_inputs behind_outputs behind_constraints
body-found p m c circuit bound e =
    let within = parts_within m c circuit bound.covers in
    let distinct = (variables c circuit).distinct in
    let inputs = inputs-found p m [] c.inputs (behind_inputs c) bound.range within.inputs
    circuit.inputs e in
    let outputs = outputs-found inputs.place m c.inputs [] c.outputs (behind_outputs c) bound.range
    within.outputs inputs.behind in
    let constraints = constraints-found outputs.place m c.inputs c.outputs [] c.constraints (behind_constraints c) bound.range
    within.constraints outputs.behind in
    let gates = gates-found constraints.place m c.inputs c.outputs c.constraints [] c.gates (symbols_text c.names) bound.range
    within.gates distinct constraints.behind in
    record { place = gates.place; is = rw (inputs.is, outputs.is, constraints.is) gates.is; behind = gates.behind }

pub ascii-spells : (m : ℕ) (c : Aig) → IsCircuit c → IsBound m c → ascii_in (ascii_text m c) ≡ Ok c
unfolding ascii_in
ascii-spells m c circuit bound =
    let head = header-found (start (ascii_text m c)) 97 m c (behind_header c) (counts m c circuit bound) refl (text-parts m c) in
    let body = body-found head.place m c circuit bound head.behind in
    let few = few_variables m c circuit bound.covers in
    let done = finished-circuit c (unnamed 0 0) circuit in
    rw (
      head.is,
      body.is,
      done,
      tail-found body.place (length c.inputs) (length c.outputs) c.names (omega (arith, few, bound.range)) circuit.count circuit.names body.behind,
    ) refl

pub aiger-spells : (m : ℕ) (c : Aig) → IsCircuit c → IsBound m c → SpellsAiger (ascii_text m c) c
unfolding aiger_in
aiger-spells m c circuit bound =
    ap (λ (t : Bool). if t then ascii_in (ascii_text m c) else other) form
    ∙ ascii-spells m c circuit bound
  where
    other : Result Aig AigerErr
    other = if is_form 105 (ascii_text m c) then binary_in (ascii_text m c) else Err BadHeader

    form : is_form 97 (ascii_text m c) ≡ true
    form = ap (is_form 97) (text-parts m c)
