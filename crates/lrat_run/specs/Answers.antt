-- What the command answers.
use Rattle.std.specs.Prelude.{◌≡◌, ◌≢◌, ◌⊎◌, ℕ, List, [], ◌∷◌, Result, Ok, Err, codes}
use Rattle.lits.specs.Assignment.{IsSatisfiable}
use Rattle.lits.specs.Same.{opposite_dim}
use Rattle.desk_port.specs.Desk.{DeskState, after_say}
use Rattle.lrat_checker.specs.declared.verdict.Verdict.{Verdict}
use Rattle.lrat_checker.specs.declared.verdict.Verdict.TheVariants.{Refuted}
use Rattle.endings.specs.declared.status.Status.{Status}
use Rattle.endings.specs.declared.status.Status.TheVariants.{Done, No, Undecided, BadUsage, BadInput, CannotRead, CannotWrite, OutOfMemory}
use Rattle.endings.specs.declared.stop.Stop.{Stop}
use Rattle.endings.specs.Reading.{ReadsUpTo, after_reads}
use Rattle.endings.specs.Writing.{Leaves}
use Rattle.endings.specs.Stops.{EndsBy}
use Rattle.lrat_run.specs.Texts.{verdict_line}
use Rattle.lrat_run.specs.Files.{IsJudged, inputs_of}

-- the lines that the proof's file spells refute the formula that the CNF's file spells, which no assignment meets
pub record Verifies (cnf proof : List ℕ) (old new : DeskState) : Type 0 where
  pub judged : IsJudged cnf proof old Refuted
  pub unsatisfiable : ¬ IsSatisfiable opposite_dim judged.formula.clauses
  pub says : new ≡ after_say (after_reads old (inputs_of cnf proof)) (codes "VERIFIED\n")

-- a line is no step, the first of which is named, or each is one and none adds the empty clause
pub record Rejects (cnf proof : List ℕ) (old new : DeskState) : Type 0 where
  pub verdict : Verdict
  pub judged : IsJudged cnf proof old verdict
  pub other : verdict ≢ Refuted
  pub says : new ≡ after_say (after_reads old (inputs_of cnf proof)) (verdict_line verdict)

-- The files were judged, and the verdict is being said; no file is left.
pub record Tells (cnf proof : List ℕ) (old new : DeskState) (result : Result (Unit {0}) Stop) : Type 0 where
  pub verdict : Verdict
  pub judged : IsJudged cnf proof old verdict
  pub leaves : Leaves [] (verdict_line verdict) (after_reads old (inputs_of cnf proof)) new result

-- Why no verdict was said whole. The CNF is read, and has no fault, before the proof is read.
abbrev pub Stops : List ℕ → List ℕ → DeskState → DeskState → Stop → Type 0
Stops cnf proof old new stop = ReadsUpTo 0 [] (inputs_of cnf proof) old new stop ⊎ Tells cnf proof old new (Err stop)

-- the files are judged, and the verdict is said
pub record Says (cnf proof : List ℕ) (old new : DeskState) (verdict : Verdict) : Type 0 where
  pub judged : IsJudged cnf proof old verdict
  pub sound : verdict ≡ Refuted → ¬ IsSatisfiable opposite_dim judged.formula.clauses
  pub says : new ≡ after_say (after_reads old (inputs_of cnf proof)) (verdict_line verdict)

-- the same, or why no verdict was said whole
abbrev pub Judges : List ℕ → List ℕ → DeskState → DeskState → Result Verdict Stop → Type 0
Judges cnf proof old new (Ok verdict) = Says cnf proof old new verdict
Judges cnf proof old new (Err stop) = Stops cnf proof old new stop

-- What the command answers for the files of these names, by its status. What the desk shows otherwise stays.
abbrev pub AnswersLrat : List ℕ → List ℕ → DeskState → DeskState → Status → Type 0
AnswersLrat cnf proof old new Done = Verifies cnf proof old new
AnswersLrat cnf proof old new No = Rejects cnf proof old new
AnswersLrat cnf proof old new Undecided = ⊥
AnswersLrat cnf proof old new BadUsage = ⊥
AnswersLrat cnf proof old new BadInput = EndsBy (cnf ∷ proof ∷ []) (Stops cnf proof old) new BadInput
AnswersLrat cnf proof old new CannotRead = EndsBy (cnf ∷ proof ∷ []) (Stops cnf proof old) new CannotRead
AnswersLrat cnf proof old new CannotWrite = EndsBy (cnf ∷ proof ∷ []) (Stops cnf proof old) new CannotWrite
AnswersLrat cnf proof old new OutOfMemory = EndsBy (cnf ∷ proof ∷ []) (Stops cnf proof old) new OutOfMemory
