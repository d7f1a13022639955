-- The file of `--witness`: an input on which circuits differ, as AIGER 1.9 writes a witness (A. Biere, K. Heljanko, S. Wieringa, AIGER
-- 1.9 And Beyond, 2011). `1` says that there is one, `b0` of which property; then come the state in which a run begins, here of no
-- latches, and the input of each step, here of one; and `.` ends it. What stands behind that are comment lines, which begin with `c`.
use Rattle.std.specs.Prelude.{ℕ, Bool, List, [], ◌∷◌, ◌++◌, map, codes, Option, None, Some}
use Rattle.netlist.specs.Circuit.{Aig}
use Rattle.check_session.specs.Finding.{Finding, Equivalent, Different, Undecided}
use Rattle.cec_top.specs.Texts.{digit_of}

-- the comment line of an input: its name and its truth value; none where it has no name
unfoldable pub named_line : Option (List ℕ) → Bool → List ℕ
named_line None bit = []
named_line (Some name) bit = codes "c " ++ name ++ codes " " ++ digit_of bit ∷ codes "\n"

-- the lines of inputs, in order
abbrev pub named_lines : List (Option (List ℕ)) → List Bool → List ℕ
named_lines [] bits = []
named_lines (name ∷ names) [] = []
named_lines (name ∷ names) (bit ∷ bits) = named_line name bit ++ named_lines names bits

-- the input of a circuit, its truth values in the circuit's order
unfoldable pub witness_text : Aig → List Bool → List ℕ
witness_text circuit input = codes "1\nb0\n\n" ++ map digit_of input ++ codes "\n.\n" ++ named_lines circuit.names.inputs input

-- what the file holds behind a check that found this of circuits, the first of which is this one, where it held that before
abbrev pub witness_behind : Aig → Finding → Option (List ℕ) → Option (List ℕ)
witness_behind circuit Equivalent before = before
witness_behind circuit (Different j input) before = Some (witness_text circuit input)
witness_behind circuit Undecided before = before
