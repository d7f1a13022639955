-- The first cause for which an entry is refused, in the order in which entries are judged, and the answers that tell it.
use Rattle.std.specs.Prelude.{◌≡◌, ℕ, ◌<◌, ◌⊎◌, ⊤, Option, Some, List, length, take, slice_get}
use Rattle.lits.specs.declared.literal.Lit.{Lit}
use Rattle.lits.specs.declared.step.Ref.{Ref}
use Rattle.lits.specs.declared.step.Step.{Step}
use Rattle.lits.specs.Same.{same_lit, opposite}
use Rattle.netlist.specs.Net.{AigPair}
use Rattle.unit_prop.specs.declared.why.BadStep.{BadStep}
use Rattle.unit_prop.specs.Step.{first_fault}
use Rattle.unit_prop.specs.Log.{base_clause, with_own}
use Rattle.lemma_book.specs.declared.entry.Entry.{Entry}
use Rattle.lemma_book.specs.declared.refused.Fault.{Fault}
use Rattle.lemma_book.specs.declared.refused.Fault.TheVariants as fault
use Rattle.lemma_book.specs.declared.refused.Refused.{Refused}
use Rattle.lemma_book.specs.declared.refused.Refused.TheVariants as refused
use Rattle.lemma_book.specs.declared.refused.Offered.{Offered}
use Rattle.lemma_book.specs.declared.refused.Offered.TheVariants.{At, Already as AlreadyAt}
use Rattle.lemma_book.specs.declared.refused.Judgement.{Judgement}
use Rattle.lemma_book.specs.declared.refused.Judgement.TheVariants as judged
use Rattle.lemma_book.specs.Entry.{Question, Answer, Equal, Differ, Open, question_of, answer_of}
use Rattle.lemma_book.specs.Entry.{Entries, settled_at, with_last}
use Rattle.lemma_book.specs.Good.{Cause, NoNode, Already, NotEarlier, NotApart, Shape, Count, Seen, NoStep, NotNew, clause_for, OfQuery, IsFreeOf, IsGood}

abbrev pub Stands : AigPair → Entries → Entry → Cause → Type 0
Stands net book e cause = ¬ IsFreeOf net book e cause

-- the order of the kinds of causes
abbrev pub turn_of : Cause → ℕ
turn_of NoNode = 0
turn_of Already = 1
turn_of NotEarlier = 2
turn_of NotApart = 3
turn_of Shape = 4
turn_of Count = 5
turn_of Seen = 6
turn_of (NoStep k) = 7
turn_of (NotNew k) = 8

-- the place of the step that a cause is about
abbrev pub step_of : Cause → ℕ
step_of (NoStep k) = k
step_of (NotNew k) = k
step_of _ = 0

abbrev pub ComesBefore : Cause → Cause → Type 0
ComesBefore c d = (turn_of c < turn_of d) ⊎ ((turn_of c ≡ turn_of d) × (step_of c < step_of d))

-- no cause stands that comes before this one
abbrev pub IsFreeBefore : AigPair → Entries → Entry → Cause → Type 0
IsFreeBefore net book e cause = (c : Cause) → ComesBefore c cause → IsFreeOf net book e c

-- the cause stands, and none that comes before it
pub record IsFirst (net : AigPair) (book : Entries) (e : Entry) (cause : Cause) : Type 0 where
  pub stands : Stands net book e cause
  pub first : IsFreeBefore net book e cause

-- the step at place k has this first fault over the clauses that `find` gives and the steps before it
pub record FailsAt (find : Ref → Option (List Lit)) (steps : List Step) (k : ℕ) (bad : BadStep) : Type 0 where
  pub step : Step
  pub place : slice_get steps k ≡ Some step
  pub fails : first_fault same_lit opposite (with_own find (take k steps)) step.clause step.hints ≡ Some bad

-- the answer's step at place k has this first fault
abbrev pub HasBadStepOf : AigPair → List Entry → ℕ → BadStep → Question → Answer → Type 0
HasBadStepOf net entries k bad q (Equal steps) = FailsAt (clause_for net entries q) steps k bad
HasBadStepOf net entries k bad q (Differ input) = ⊥
HasBadStepOf net entries k bad q (Open seen log) =
    OfQuery net (take seen entries) q (λ cone. FailsAt (base_clause cone) log k bad)

-- the entry's step at place k does
abbrev pub HasBadStep : AigPair → List Entry → ℕ → BadStep → Entry → Type 0
HasBadStep net entries k bad e = HasBadStepOf net entries k bad (question_of e) (answer_of e)

-- the fault is the entry's first cause
abbrev pub IsFault : AigPair → Entries → Entry → Fault → Type 0
IsFault net book e fault.NoNode = IsFirst net book e NoNode
IsFault net book e fault.NotEarlier = IsFirst net book e NotEarlier
IsFault net book e fault.Shape = IsFirst net book e Shape
IsFault net book e fault.Count = IsFirst net book e Count
IsFault net book e fault.Seen = IsFirst net book e Seen
IsFault net book e (fault.Step k bad) = IsFirst net book e (NoStep k) × HasBadStep net book.entries k bad e
IsFault net book e (fault.NotNew k) = IsFirst net book e (NotNew k)

-- entry i settles the entry, and nothing is wrong with it before that
abbrev pub IsSettled : AigPair → Entries → Entry → ℕ → Type 0
IsSettled net book e i = IsFirst net book e Already × (settled_at book.entries e ≡ Some i)

-- the judgement is right: good, or the first cause
abbrev pub IsJudgement : AigPair → Entries → Entry → Judgement → Type 0
IsJudgement net book e judged.Good = IsGood net book e
IsJudgement net book e (judged.Settled i) = IsSettled net book e i
IsJudgement net book e judged.NotApart = IsFirst net book e NotApart
IsJudgement net book e (judged.Bad f) = IsFault net book e f

-- the refusal is the first cause; memory tells nothing
abbrev pub IsRefusal : AigPair → Entries → Entry → Refused → Type 0
IsRefusal net book e (refused.Bad f) = IsFault net book e f
IsRefusal net book e refused.NotApart = IsFirst net book e NotApart
IsRefusal net book e refused.NoMemory = ⊤

-- an offer is taken: a good entry is the last one, one that is settled changes nothing
abbrev pub Takes : AigPair → Entries → Entry → Entries → Offered → Type 0
Takes net old e new (At i) = IsGood net old e × (i ≡ length old.entries) × (new ≡ with_last old e)
Takes net old e new (AlreadyAt i) = IsSettled net old e i × (new ≡ old)
