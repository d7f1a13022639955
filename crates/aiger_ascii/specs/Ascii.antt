-- Which bytes spell which circuit in the ASCII form of AIGER, and which fault they have first (A. Biere, The AIGER
-- And-Inverter Graph Format, 2007; AIGER 1.9). A file is a header line; a line of one literal for each input, which
-- defines its variable; one for each output and then for each constraint; a line of three for each gate, which defines the
-- first; and a tail, which gives names.
use Rattle.std.specs.Prelude.{◌≡◌, ◌≤◌, false, ℕ, zero, suc, ◌*◌, ◌%◌, ◌||◌, List, [], ◌∷◌, ◌++◌, length, Result, Ok, Err, nat_lt, ◌==◌, if◌then◌else◌}
use Rattle.byte_scan.specs.declared.errors.AigerErr.{AigerErr}
use Rattle.byte_scan.specs.declared.errors.AigerErr.TheVariants.{BadLiteral, DefinedTwice}
use Rattle.byte_scan.specs.declared.counts.Header.{Header}
use Rattle.byte_scan.specs.Scanning.{Place}
use Rattle.byte_scan.specs.Reading.{◌>>=◌, start, header_at, number_at, space_at, number_line_at, literal_line_at, used, lines_ahead, tail_of, IsFault}
use Rattle.lits.specs.Clause.{has}
use Rattle.netlist.specs.Circuit.{Aig, no_parts, var_of, variables_in}
use Rattle.circuit_draft.specs.Draft.{finished}

-- A literal that is defined is even, not 0 and at most 2M, and its variable wasn't defined before.
abbrev pub defined : ℕ → Aig → ℕ → Result ℕ AigerErr
defined m c n =
    if n % 2 == 1 || n == 0 || nat_lt (2 * m) n then Err (BadLiteral n)
    else if has ◌==◌ (variables_in c) (var_of n) then Err (DefinedTwice n)
    else Ok (var_of n)

-- ---- one line, behind which more is known of the circuit

abbrev pub input_at : ℕ → Aig → Place → Result (Aig × Place) AigerErr
input_at m c p = do
  n ← number_line_at p
  v ← defined m c n.0
  Ok (record c { inputs = c.inputs ++ v ∷ [] }, n.1)

abbrev pub output_at : ℕ → Aig → Place → Result (Aig × Place) AigerErr
output_at m c p = do
  n ← literal_line_at m p
  Ok (record c { outputs = c.outputs ++ n.0 ∷ [] }, n.1)

abbrev pub constraint_at : ℕ → Aig → Place → Result (Aig × Place) AigerErr
constraint_at m c p = do
  n ← literal_line_at m p
  Ok (record c { constraints = c.constraints ++ n.0 ∷ [] }, n.1)

-- A gate's line is read whole before its literals are judged, from the left.
abbrev pub gate_at : ℕ → Aig → Place → Result (Aig × Place) AigerErr
gate_at m c p = do
  lhs ← number_at p
  q ← space_at lhs.1
  rhs0 ← number_at q
  r ← space_at rhs0.1
  rhs1 ← number_line_at r
  v ← defined m c lhs.0
  left ← used m rhs0.0
  right ← used m rhs1.0
  Ok (record c { gates = c.gates ++ record { var = v; left = left; right = right } ∷ [] }, rhs1.1)

-- ---- lines

-- so many lines of one kind, one after the other
abbrev pub lines_at : (ℕ → Aig → Place → Result (Aig × Place) AigerErr) → ℕ → ℕ → Aig → Place → Result (Aig × Place) AigerErr
lines_at line zero m c p = Ok (c, p)
lines_at line (suc n) m c p = do
  next ← line m c p
  lines_at line n m next.0 next.1

-- ---- the file

-- what the lines behind the header say, gates in the order of their lines
unfoldable pub body_at : Header → Place → Result (Aig × Place) AigerErr
body_at h p = do
  inputs ← lines_at input_at h.i h.m no_parts p
  outputs ← lines_at output_at h.o h.m inputs.0 inputs.1
  constraints ← lines_at constraint_at h.c h.m outputs.0 outputs.1
  lines_at gate_at h.a h.m constraints.0 constraints.1

-- the circuit with the names that the tail gives to its inputs and outputs
abbrev pub named_at : Aig → Place → Result Aig AigerErr
named_at c p = do
  names ← tail_of (length c.inputs) (length c.outputs) (lines_ahead p)
  Ok (record c { names = names })

-- The circuit that the bytes spell, or their first fault. What is undefined or on a cycle is judged behind the last gate,
-- and then the tail.
unfoldable pub ascii_in : List ℕ → Result Aig AigerErr
ascii_in bytes = do
  h ← header_at 97 (start bytes)
  body ← body_at h.0 h.1
  circuit ← finished body.0
  named_at circuit body.1

-- ---- what the reader's own functions answer

-- the circuit so far and the place behind what was read, or the first fault unless memory ran out
abbrev pub Grows : {A : Type 0} → Result A AigerErr → Aig → Place → Result (Aig × Place) AigerErr → Type 0
Grows (Ok x) c new found = found ≡ Ok (c, new)
Grows (Err e) c new found = IsFault e found

-- a variable that may be defined
pub record IsNew (m : ℕ) (c : Aig) (v : ℕ) : Type 0 where
  pub fresh : has ◌==◌ (variables_in c) v ≡ false
  pub within : v ≤ m
