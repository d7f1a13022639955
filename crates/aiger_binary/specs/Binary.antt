-- Which bytes spell which circuit in the binary form of AIGER, and which fault they have first (A. Biere, The AIGER
-- And-Inverter Graph Format, 2007; AIGER 1.9). Inputs have no lines: input k, from 0, is the literal 2(k + 1). Behind the
-- header stand the outputs' lines, then the constraints', then two deltas for each gate, then a tail, which gives names. The gates define the variables behind the
-- inputs, in order, so that each fanin is defined before.
use Rattle.std.specs.Prelude.{◌≡◌, ◌<◌, ℕ, zero, suc, ◌+◌, ◌-◌, ◌*◌, ◌||◌, ⊤, List, [], ◌∷◌, ◌++◌, length, Result, Ok, Err, nat_lt, ◌==◌, if◌then◌else◌}
use Rattle.std.specs.List.{range_with_len}
use Rattle.byte_scan.specs.declared.errors.AigerErr.{AigerErr}
use Rattle.byte_scan.specs.declared.errors.AigerErr.TheVariants.{BadDelta, Truncated}
use Rattle.byte_scan.specs.Scanning.{Place, ahead, moved}
use Rattle.byte_scan.specs.Reading.{◌>>=◌, start, header_at, literal_line_at, lines_ahead, tail_of, IsFault}
use Rattle.netlist.specs.declared.gate.And.{And}
use Rattle.netlist.specs.Circuit.{Aig, var_of}

-- ---- deltas

-- the number whose next group stands in front, where `rest` is what follows where its top bit is set
abbrev pub group_in : List ℕ → Place → (Place → Result (ℕ × Place) AigerErr) → Result (ℕ × Place) AigerErr
group_in [] p rest = Err (Truncated (length p.bytes))
group_in (b ∷ bs) p rest =
    if nat_lt b 128 then Ok (b, moved p 1)
    else rest (moved p 1) >>= λ more. Ok (b - 128 + 128 * more.0, more.1)

-- A number in groups of 7 bits, the least first, one a byte, whose top bit says that more follow; at most n bytes.
abbrev pub groups_at : ℕ → ℕ → Place → Result (ℕ × Place) AigerErr
groups_at zero gate p = Err (BadDelta gate)
groups_at (suc n) gate p = group_in (ahead p) p (groups_at n gate)

-- a delta of the gate of this number
abbrev pub delta_at : ℕ → Place → Result (ℕ × Place) AigerErr
delta_at gate p = groups_at 5 gate p

-- ---- gates

-- A gate's literal is above its first fanin, and that is no lower than the second.
abbrev pub first_fanin : ℕ → ℕ → ℕ → Result ℕ AigerErr
first_fanin gate lhs delta = if delta == 0 || nat_lt lhs delta then Err (BadDelta gate) else Ok (lhs - delta)

abbrev pub second_fanin : ℕ → ℕ → ℕ → Result ℕ AigerErr
second_fanin gate rhs0 delta = if nat_lt rhs0 delta then Err (BadDelta gate) else Ok (rhs0 - delta)

-- The gate of this number that defines this variable: lhs - rhs0, judged before rhs0 - rhs1 is read.
abbrev pub gate_at : ℕ → ℕ → Place → Result (And × Place) AigerErr
gate_at gate var p = do
  first ← delta_at gate p
  rhs0 ← first_fanin gate (2 * var) first.0
  second ← delta_at gate first.1
  rhs1 ← second_fanin gate rhs0 second.0
  Ok (record { var = var; left = rhs0; right = rhs1 }, second.1)

-- n gates behind those read so far, of a file with so many inputs
abbrev pub gates_at : ℕ → ℕ → List And → Place → Result (List And × Place) AigerErr
gates_at zero inputs gates p = Ok (gates, p)
gates_at (suc n) inputs gates p = do
  gate ← gate_at (length gates) (inputs + length gates + 1) p
  gates_at n inputs (gates ++ gate.0 ∷ []) gate.1

-- ---- outputs and constraints

-- n lines of one literal behind those read so far
abbrev pub literals_at : ℕ → ℕ → List ℕ → Place → Result (List ℕ × Place) AigerErr
literals_at zero m literals p = Ok (literals, p)
literals_at (suc n) m literals p = do
  lit ← literal_line_at m p
  literals_at n m (literals ++ lit.0 ∷ []) lit.1

-- ---- the file

-- The circuit that the bytes spell, or their first fault.
unfoldable pub binary_in : List ℕ → Result Aig AigerErr
binary_in bytes = do
  h ← header_at 105 (start bytes)
  outputs ← literals_at h.0.o h.0.m [] h.1
  constraints ← literals_at h.0.c h.0.m [] outputs.1
  gates ← gates_at h.0.a h.0.i [] constraints.1
  names ← tail_of h.0.i h.0.o (lines_ahead gates.1)
  Ok (record {
    inputs = range_with_len 1 h.0.i;
    gates = gates.0;
    outputs = outputs.0;
    constraints = constraints.0;
    names = names;
  })

-- ---- what the reader's own functions answer

-- the list so far and the place behind what was read, or the first fault unless memory ran out
abbrev pub Lists : {A X : Type 0} → Result A AigerErr → List X → Place → Result (List X × Place) AigerErr → Type 0
Lists (Ok x) list new found = found ≡ Ok (list, new)
Lists (Err e) list new found = IsFault e found

-- gates that define the variables from n on, each over those before it
abbrev pub AreStacked : ℕ → List And → Type 0
AreStacked n [] = ⊤
AreStacked n (g ∷ gs) = (g.var ≡ n) × (var_of g.left < n) × (var_of g.right < n) × AreStacked (n + 1) gs

-- literals of variables below n
abbrev pub AreBelow : ℕ → List ℕ → Type 0
AreBelow n [] = ⊤
AreBelow n (lit ∷ lits) = (var_of lit < n) × AreBelow n lits
