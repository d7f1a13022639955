-- The texts by which the program names a fault of a circuit's file, of two circuits, of a lemma file or of a script's line, on
-- standard error.
use Rattle.std.specs.Prelude.{ℕ, List, ◌++◌, codes, decimal, encode_utf8}
use Rattle.byte_scan.specs.declared.errors.AigerErr.{AigerErr}
use Rattle.byte_scan.specs.declared.errors.AigerErr.TheVariants as aiger
use Rattle.lits.specs.declared.node.Side.TheVariants.{A, B}
use Rattle.netlist.specs.declared.port.Port.{Port}
use Rattle.netlist.specs.declared.port.Port.TheVariants as port
use Rattle.netlist.specs.declared.unlike.Unlike.{Unlike}
use Rattle.netlist.specs.declared.unlike.Unlike.TheVariants as unlike
use Rattle.netlist_edits.specs.declared.error.EditErr.{EditErr}
use Rattle.netlist_edits.specs.declared.error.EditErr.TheVariants as edit
use Rattle.book_file.specs.declared.error.BookErr.{BookErr}
use Rattle.book_file.specs.declared.error.BookErr.TheVariants as lemmas
use Rattle.cec_top.specs.Script.{Refused}

-- a fault of a file that isn't an AIGER file of the kind that the program takes
unfoldable pub aiger_text : AigerErr → List ℕ
aiger_text aiger.BadHeader = codes "bad header"
aiger_text (aiger.TooLarge n) = decimal n ++ codes " is above 16777216"
aiger_text (aiger.HasLatches n) = decimal n ++ codes " latches"
aiger_text (aiger.HasProperty letter) = codes "section " ++ encode_utf8 letter ++ codes " is not supported"
aiger_text (aiger.BadNumber at) = codes "bad number at byte " ++ decimal at
aiger_text (aiger.BadLiteral n) = codes "bad literal " ++ decimal n
aiger_text (aiger.DefinedTwice n) = codes "literal " ++ decimal n ++ codes " is defined twice"
aiger_text (aiger.Undefined n) = codes "literal " ++ decimal n ++ codes " is undefined"
aiger_text (aiger.Cycle n) = codes "literal " ++ decimal n ++ codes " is on or above a cycle"
aiger_text (aiger.BadDelta g) = codes "bad delta at gate " ++ decimal g
aiger_text (aiger.Truncated at) = codes "ends too early at byte " ++ decimal at
aiger_text (aiger.BadSymbol at) = codes "bad symbol line at byte " ++ decimal at
aiger_text aiger.NoMemory = codes "out of memory"

-- an input or an output, before its index
abbrev pub port_text : Port → List ℕ
port_text port.Input = codes "input "
port_text port.Output = codes "output "

-- two circuits that can't be compared
unfoldable pub unlike_text : Unlike → List ℕ
unlike_text (unlike.Inputs a b) = codes "inputs " ++ decimal a ++ codes " and " ++ decimal b ++ codes " differ"
unlike_text (unlike.Outputs a b) = codes "outputs " ++ decimal a ++ codes " and " ++ decimal b ++ codes " differ"
unlike_text (unlike.NoName A port k) = port_text port ++ decimal k ++ codes " of a has no name"
unlike_text (unlike.NoName B port k) = port_text port ++ decimal k ++ codes " of b has no name"
unlike_text (unlike.Doubled A port k) = port_text port ++ decimal k ++ codes " of a has the name of an earlier one"
unlike_text (unlike.Doubled B port k) = port_text port ++ decimal k ++ codes " of b has the name of an earlier one"
unlike_text (unlike.Missing port k) = port_text port ++ decimal k ++ codes " of a is missing in b"
unlike_text unlike.NoMemory = codes "out of memory"

-- a fault of bytes that are no lemma file
unfoldable pub lemma_text : BookErr → List ℕ
lemma_text (lemmas.BadLine line) = codes "line " ++ decimal line ++ codes ": bad line"
lemma_text (lemmas.Truncated line) = codes "line " ++ decimal line ++ codes ": ends too early"
lemma_text lemmas.NoMemory = codes "out of memory"

-- an edit that isn't made, or a line that spells none
unfoldable pub edit_text : EditErr → List ℕ
edit_text edit.BadLine = codes "bad line"
edit_text (edit.NoGate n) = codes "no gate " ++ decimal n
edit_text (edit.NoLiteral n) = codes "no literal " ++ decimal n
edit_text (edit.NotEarlier n) = codes "literal " ++ decimal n ++ codes " is not earlier"
edit_text (edit.Taken n) = codes "literal " ++ decimal n ++ codes " is taken"
edit_text (edit.InUse n) = codes "gate " ++ decimal n ++ codes " is in use"
edit_text (edit.NoOutput j) = codes "no output " ++ decimal j
edit_text edit.GateLimit = codes "too many gates"
edit_text edit.NoMemory = codes "out of memory"

-- the line of a script that is refused
unfoldable pub refused_text : Refused → List ℕ
refused_text r = codes "line " ++ decimal r.line ++ codes ": " ++ edit_text r.fault
