-- What the program says of a check.
use Rattle.std.specs.Prelude.{ℕ, Bool, List, [], ◌∷◌, ◌++◌, length, map, codes, decimal, if◌then◌else◌}
use Rattle.std.specs.List.{flat_map}
use Rattle.netlist.specs.Net.{AigPair}
use Rattle.proof_stitch.specs.declared.logs.Span.{Span}
use Rattle.command_line.specs.Words.{SelfCommand}
use Rattle.command_line.specs.Plain.{kind_name}

-- an input's truth value as a digit
abbrev pub digit_of : Bool → ℕ
digit_of bit = if bit then 49 else 48

-- the truth values of the inputs, input 0 first
unfoldable pub input_text : List Bool → List ℕ
input_text [] = codes "none"
input_text (bit ∷ bits) = map digit_of (bit ∷ bits)

-- an output, by its index
unfoldable pub output_line : ℕ → List ℕ
output_line j = codes "output " ++ decimal j ++ codes "\n"

-- an open output, and the ids under which its log stands in the proof's file
unfoldable pub span_line : Span → List ℕ
span_line s =
    codes "output " ++ decimal s.output ++ codes " lines " ++ decimal s.first ++ codes "-" ++ decimal s.last ++ codes "\n"

-- an output that differs on an input
unfoldable pub different_text : ℕ → List Bool → List ℕ
different_text j input = codes "DIFFERENT\n" ++ output_line j ++ codes "input " ++ input_text input ++ codes "\n"

-- the open outputs, without files and with them
unfoldable pub open_text : List ℕ → List ℕ
open_text outputs = codes "UNDECIDED\n" ++ flat_map output_line outputs

unfoldable pub open_text_with : List Span → List ℕ
open_text_with spans = codes "UNDECIDED\n" ++ flat_map span_line spans

-- what is said of two circuits that the program makes: what they compute of how many bits, and how many gates either has and
-- how many outputs both have
unfoldable pub workload_text : SelfCommand → AigPair → List ℕ
workload_text c net =
    codes "kind " ++ kind_name c.kind ++ codes " n " ++ decimal c.n ++ codes "\ngates " ++ decimal (length net.a.gates)
    ++ codes " " ++ decimal (length net.b.gates) ++ codes "\noutputs " ++ decimal (length net.a.outputs) ++ codes "\n"

-- how many lemmas of a file were taken, of how many
unfoldable pub lemmas_line : ℕ → ℕ → List ℕ
lemmas_line taken given = codes "lemmas " ++ decimal taken ++ codes " of " ++ decimal given ++ codes "\n"
