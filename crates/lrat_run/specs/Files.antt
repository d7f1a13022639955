-- The two files that the command reads, that of the CNF before that of the proof, and what they say.
use Rattle.std.specs.Prelude.{ℕ, List, [], ◌∷◌, length, Option, Some, None, Result, Ok, Err}
use Rattle.dimacs_text.specs.declared.cnf.Cnf.{Cnf}
use Rattle.dimacs_text.specs.declared.error.CnfErr.{CnfErr}
use Rattle.dimacs_text.specs.Reading.{formula_in, SpellsCnf}
use Rattle.lrat_text.specs.declared.error.LratErr.{LratErr}
use Rattle.lrat_text.specs.declared.step.Line.{Line}
use Rattle.lrat_text.specs.Reading.{steps_in, SpellsLrat}
use Rattle.lrat_checker.specs.declared.verdict.Verdict.{Verdict}
use Rattle.lrat_checker.specs.Verdict.{IsVerdict}
use Rattle.desk_port.specs.Desk.{DeskState}
use Rattle.endings.specs.Reading.{Input, FileIs}
use Rattle.lrat_run.specs.Texts.{cnf_fault_text, proof_fault_text}

-- the text of the fault of bytes that are no CNF
abbrev pub cnf_fault : Result Cnf CnfErr → Option (List ℕ)
cnf_fault (Ok formula) = None
cnf_fault (Err e) = Some (cnf_fault_text e)

-- the text of the fault of bytes that are no proof text
abbrev pub proof_fault : Result (List Line) LratErr → Option (List ℕ)
proof_fault (Ok lines) = None
proof_fault (Err e) = Some (proof_fault_text e)

-- how many clauses a CNF has
abbrev pub clauses_of : Result Cnf CnfErr → ℕ
clauses_of (Ok formula) = length formula.clauses
clauses_of (Err e) = 0

-- how many clauses the CNF in the first of these files has
abbrev pub clauses_in : List (List ℕ) → ℕ
clauses_in [] = 0
clauses_in (bytes ∷ more) = clauses_of (formula_in bytes)

abbrev pub cnf_input : List ℕ → Input
cnf_input name = record { name = name; fault = λ earlier bytes. cnf_fault (formula_in bytes) }

-- the ids of a proof begin behind the clauses of the CNF before it
abbrev pub proof_input : List ℕ → Input
proof_input name = record { name = name; fault = λ earlier bytes. proof_fault (steps_in (clauses_in earlier) bytes) }

abbrev pub inputs_of : List ℕ → List ℕ → List Input
inputs_of cnf proof = cnf_input cnf ∷ proof_input proof ∷ []

-- the files of these names spell a formula and the lines of a proof, of which the verdict is right
pub record IsJudged (cnf proof : List ℕ) (desk : DeskState) (verdict : Verdict) : Type 0 where
  pub cnf_bytes : List ℕ
  pub proof_bytes : List ℕ
  pub formula : Cnf
  pub lines : List Line
  pub cnf_is : FileIs desk cnf cnf_bytes
  pub proof_is : FileIs desk proof proof_bytes
  pub spells_formula : SpellsCnf cnf_bytes formula
  pub spells_lines : SpellsLrat (length formula.clauses) proof_bytes lines
  pub right : IsVerdict formula.clauses lines verdict
