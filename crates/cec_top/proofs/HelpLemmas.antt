-- What is answered to arguments that ask for nothing, and how saying the help ends the program.
use Rattle.std.proofs.Common.{◌≡◌, ℕ, inl, inr, List, [], Err, subst}
use Rattle.std.specs.Prelude.{string_bytes}
use Rattle.desk_port.specs.Desk.{DeskState, WriteFault, OfSomePrefix, after_say}
use Rattle.desk_port.specs.Desk.{Says as Puts}
use Rattle.desk_port.specs.declared.errors.PutErr.{PutErr}
use Rattle.desk_port.specs.declared.errors.PutErr.TheVariants as not_put
use Rattle.endings.specs.declared.stop.Stop.TheVariants.{CannotWrite}
use Rattle.endings.specs.Writing.{Says}
use Rattle.endings.specs.declared.status.Status.{Status}
use Rattle.command_line.specs.Answers.{MayRefuse}
use Rattle.command_line.specs.declared.reading.Refusal.{Refusal}
use Rattle.command_line.specs.declared.reading.Refusal.TheVariants.{Help, Usage, NoMemory}
use Rattle.cec_top.specs.declared.kept.Kept.{Kept}
use Rattle.cec_top.specs.Answers.{Answers}
use Rattle.cec_top.specs.Steps.{AnswersRefusal}

pub unsaid : (text bytes : List ℕ) (old mid : DeskState) (e : PutErr) → bytes ≡ text → e ≡ not_put.Failed → Puts old mid bytes (Err e)
    → Says text old mid (Err CannotWrite)
unsaid text bytes old mid not_put.Failed same is p =
    subst (λ (t : List ℕ). OfSomePrefix t (λ part. WriteFault (after_say old part) mid)) same p
unsaid text bytes old mid not_put.NoMemory same is p = cc

pub ran-out : (bytes : List ℕ) (old mid : DeskState) (e : PutErr) → e ≡ not_put.NoMemory → Puts old mid bytes (Err e) → mid ≡ old
ran-out bytes old mid not_put.NoMemory is p = p
ran-out bytes old mid not_put.Failed is p = cc

-- what is answered to arguments that ask for nothing, by why they are refused
pub refusal-answers : (words : List (List ℕ)) (old new : DeskState) (status : Status) (kept : List Kept) (r : Refusal)
    → MayRefuse words r → kept ≡ [] → AnswersRefusal r old new status → Answers words old new status kept
refusal-answers words old new status kept (Help text) may none says =
    inr (inr (inr (inr (inl (record { wanted = may.wanted; none = none; text = string_bytes text; version = may.version; says = says })))))
refusal-answers words old new status kept (Usage text) may none warns =
    inr (inr (inr (inr (inr (inl (record { refused = may.0; none = none; text = string_bytes text; named = may.1; warns = warns }))))))
refusal-answers words old new status kept NoMemory may none ends =
    inr (inr (inr (inr (inr (inr (record { none = none; ends = ends }))))))
