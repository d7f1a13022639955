-- The lines of verdicts on standard output, and the texts of faults in files.
use Rattle.std.specs.Prelude.{ℕ, List, ◌++◌, codes, decimal}
use Rattle.dimacs_text.specs.declared.error.CnfErr.{CnfErr}
use Rattle.dimacs_text.specs.declared.error.CnfErr.TheVariants as cnf
use Rattle.lrat_text.specs.declared.error.LratErr.{LratErr}
use Rattle.lrat_text.specs.declared.error.LratErr.TheVariants as lrat
use Rattle.lrat_checker.specs.declared.verdict.Verdict.{Verdict}
use Rattle.lrat_checker.specs.declared.verdict.Verdict.TheVariants.{Refuted, NoEmpty, Bad}

-- the line of a verdict
unfoldable pub verdict_line : Verdict → List ℕ
verdict_line Refuted = codes "VERIFIED\n"
verdict_line NoEmpty = codes "REFUSED no empty clause\n"
verdict_line (Bad number fault) = codes "REFUSED line " ++ decimal number ++ codes "\n"

-- a fault of a text that is no CNF
unfoldable pub cnf_fault_text : CnfErr → List ℕ
cnf_fault_text cnf.BadHeader = codes "bad header"
cnf_fault_text (cnf.BadNumber at) = codes "bad number at byte " ++ decimal at
cnf_fault_text (cnf.Var n) = codes "variable of " ++ decimal n ++ codes " is too large"
cnf_fault_text (cnf.Count said found) = decimal said ++ codes " clauses announced, " ++ decimal found ++ codes " found"
cnf_fault_text (cnf.Truncated at) = codes "ends too early at byte " ++ decimal at
cnf_fault_text cnf.NoMemory = codes "out of memory"

-- a fault of a text that is no proof text, with the number of its line
unfoldable pub proof_fault_text : LratErr → List ℕ
proof_fault_text (lrat.BadNumber line) = codes "line " ++ decimal line ++ codes ": bad number"
proof_fault_text (lrat.Truncated line) = codes "line " ++ decimal line ++ codes ": ends too early"
proof_fault_text (lrat.Order line) = codes "line " ++ decimal line ++ codes ": id out of order"
proof_fault_text (lrat.Rat line) = codes "line " ++ decimal line ++ codes ": negative hint"
proof_fault_text lrat.NoMemory = codes "out of memory"
