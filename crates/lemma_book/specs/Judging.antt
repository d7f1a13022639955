-- What the parts of a judgement answer.
use Rattle.std.specs.Prelude.{◌≡◌, ℕ, ◌<◌, Bool, true, false, Option, None, Some, IfSome, List, [], ◌∷◌, take, slice_get, Result, Ok, Err}
use Rattle.lits.specs.declared.literal.Lit.{Lit}
use Rattle.lits.specs.declared.step.Ref.{Ref}
use Rattle.lits.specs.declared.step.Step.{Step}
use Rattle.unit_prop.specs.declared.why.BadStep.{BadStep}
use Rattle.unit_prop.specs.declared.why.StepErr.{StepErr}
use Rattle.unit_prop.specs.declared.why.StepErr.TheVariants.{Bad, NoMemory}
use Rattle.lits.specs.declared.step.Named.{Named}
use Rattle.lemma_book.specs.declared.refused.Judgement.{Judgement}
use Rattle.lemma_book.specs.declared.refused.Judgement.TheVariants as judged
use Rattle.lemma_book.specs.declared.refused.Refused.{Refused}
use Rattle.lemma_book.specs.declared.refused.Refused.TheVariants as refused
use Rattle.std.specs.declared.alloc.AllocError.{AllocError}
use Rattle.lits.specs.Same.{same_lit, opposite}
use Rattle.unit_prop.specs.Closure.{IsOpen}
use Rattle.unit_prop.specs.Log.{clauses_of}
use Rattle.lemma_book.specs.Good.{IsStepAt, IsNewAt}
use Rattle.lemma_book.specs.Fault.{FailsAt}

-- the answer is whether P holds
abbrev pub Tells : Type 0 → Bool → Type 0
Tells P true = P
Tells P false = ¬ P

-- all steps are ones, or this is the first that isn't
abbrev pub IsFirstBad : (Ref → Option (List Lit)) → List Step → Option (ℕ × BadStep) → Type 0
IsFirstBad find steps None = (k : ℕ) → IsStepAt find steps k
IsFirstBad find steps (Some f) = ((k : ℕ) → k < f.0 → IsStepAt find steps k) × FailsAt find steps f.0 f.1

-- P holds at all places, or this is the first where it doesn't
abbrev pub IsFirstPlace : (ℕ → Type 0) → Option ℕ → Type 0
IsFirstPlace P None = (k : ℕ) → P k
IsFirstPlace P (Some n) = ((k : ℕ) → k < n → P k) × (¬ P n)

-- the fault is the error's, of the hint at that place; want of memory has no fault
abbrev pub IsFaultOf : ℕ → StepErr → Option BadStep → Type 0
IsFaultOf place (Bad why) fault = fault ≡ Some (record { hint = place; why = why })
IsFaultOf place NoMemory fault = ⊥

-- the log's clause at place k, if it is there, is new, and before it unit propagation doesn't refute the literal, if one is given
pub record IsFresh (cone : List Named) (lit : Option Lit) (log : List Step) (k : ℕ) : Type 0 where
  pub new : IsNewAt cone log k
  pub undecided : (s : Step) → slice_get log k ≡ Some s → IfSome lit (λ l. IsOpen same_lit opposite (clauses_of cone (take k log)) (l ∷ []))

-- how an entry stands that is judged so: it is refused, or settled at a place, or neither where it is good
abbrev pub standing_of : Result Judgement AllocError → Result (Option ℕ) Refused
standing_of (Ok judged.Good) = Ok None
standing_of (Ok (judged.Settled place)) = Ok (Some place)
standing_of (Ok judged.NotApart) = Err refused.NotApart
standing_of (Ok (judged.Bad fault)) = Err (refused.Bad fault)
standing_of (Err e) = Err refused.NoMemory
