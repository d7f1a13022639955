-- When the program has to come to a verdict: nothing that it was given stands in its way.
use Rattle.std.specs.Prelude.{◌≡◌, ◌⊎◌, ℕ, ◌<◌, ◌≤◌, ◌^◌, List, length, Option, None, Some, IfSome, IsSomeAnd}
use Rattle.std.specs.List.{AllByRecursion}
use Rattle.desk_port.specs.Desk.{DeskState, Files, Rose}
use Rattle.endings.specs.Reading.{limit}
use Rattle.endings.specs.Status.{code_of}
use Rattle.endings.specs.declared.status.Status.{Status}
use Rattle.netlist.specs.Net.{AigPair}
use Rattle.netlist.specs.Miter.{variables_of}
use Rattle.dimacs_text.specs.declared.cnf.Cnf.{Cnf}
use Rattle.dimacs_text.specs.Reading.{SpellsCnf}
use Rattle.lrat_text.specs.declared.step.Line.{Line}
use Rattle.lrat_text.specs.Reading.{SpellsLrat}
use Rattle.command_line.specs.Words.{CheckCommand, LratCommand}
use Rattle.lemma_book.specs.declared.entry.Entry.{Entry}
use Rattle.cec_top.specs.Headline.{AreLemmas, SpellPair, IsScript}
use Rattle.cec_top.specs.Script.{plan_of}

-- the desk counted no fault of a read, and none of a write
pub record NoFault (old new : DeskState) : Type 0 where
  pub reads : ¬ Rose old.read_faults new.read_faults
  pub writes : ¬ Rose old.write_faults new.write_faults

-- the named file isn't longer than the limit
abbrev pub IsWithinLimit : Files → List ℕ → Type 0
IsWithinLimit files name = IfSome (files name) (λ bytes. length bytes ≤ limit)

-- the named files spell two circuits that can be compared, no line of the script is refused, if there is one, the lemma file
-- spells entries, if there is one, and no file is too long
pub record CanCheck (c : CheckCommand) (old : DeskState) : Type 0 where
  pub files : Files
  pub told : old.files ≡ Some files
  pub net : AigPair
  pub pair : SpellPair c files net
  pub a : IsWithinLimit files c.a
  pub b : IsWithinLimit files c.b
  pub lines : List (List ℕ)
  pub script : IsScript c.edits files lines
  pub accepted : (plan_of net lines).refused ≡ None
  pub edits : IfSome c.edits (IsWithinLimit files)
  pub lemmas : Option (List Entry)
  pub spelled : AreLemmas c.load files lemmas
  pub load : IfSome c.load (IsWithinLimit files)

-- the named files spell a formula and the lines of a proof about it, and neither is too long
pub record CanVerify (c : LratCommand) (old : DeskState) : Type 0 where
  pub files : Files
  pub told : old.files ≡ Some files
  pub formula : Cnf
  pub lines : List Line
  pub spells_formula : IsSomeAnd (files c.cnf) (λ bytes. SpellsCnf bytes formula)
  pub spells_lines : IsSomeAnd (files c.proof) (λ bytes. SpellsLrat (length formula.clauses) bytes lines)
  pub cnf : IsWithinLimit files c.cnf
  pub proof : IsWithinLimit files c.proof

-- the named files spell two circuits, and an output's query has more units than clauses can be learned over the variables
-- of a check's CNF, for each check that the script asks for: 3^V, since each variable is in a clause, its negation is, or
-- neither
pub record IsAmple (c : CheckCommand) (old : DeskState) : Type 0 where
  pub files : Files
  pub told : old.files ≡ Some files
  pub net : AigPair
  pub pair : SpellPair c files net
  pub lines : List (List ℕ)
  pub script : IsScript c.edits files lines
  pub ample : AllByRecursion (λ due. 3 ^ length (variables_of due.net) < c.budget) (plan_of net lines).checks

-- the run has a verdict, or memory ran out
abbrev pub HasVerdict : Status → Type 0
HasVerdict status = (code_of status ≤ 2) ⊎ (code_of status ≡ 7)

-- the run has judged a proof, or memory ran out
abbrev pub HasJudged : Status → Type 0
HasJudged status = (code_of status ≤ 1) ⊎ (code_of status ≡ 7)
