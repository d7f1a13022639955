-- No file is left started by a run that neither failed to write nor ran out of memory.
use Rattle.std.proofs.Common.{◌≡◌, ℕ, ◌+◌, ◌<◌, ◌≤◌, inl, inr, List, [], ◌∷◌, ◌++◌, None, Err, refl, ap, ◌∙◌, subst, arith}
use Rattle.std.specs.Prelude.{string_bytes}
use Rattle.std.proofs.lemmas.Option.{none-some}
use Rattle.desk_port.specs.Desk.{DeskState, after_read}
use Rattle.netlist.specs.Net.{AigPair}
use Rattle.endings.specs.declared.status.Status.{Status}
use Rattle.endings.specs.declared.status.Status.TheVariants as ends
use Rattle.endings.specs.Status.{code_of}
use Rattle.endings.specs.declared.stop.Stop.{Stop}
use Rattle.endings.specs.declared.stop.Stop.TheVariants.{CannotRead, TooLong, BadFile, NotAlike, CannotWrite, OutOfMemory}
use Rattle.endings.specs.Reading.{Input, ReadsUpTo, after_reads}
use Rattle.endings.specs.Writing.{Output, Leaves, StopsAmong, after_file, after_files}
use Rattle.endings.specs.Stops.{EndsBy, IsWarned, Warns, status_of, stop_line}
use Rattle.lrat_run.specs.Files.{inputs_of}
use Rattle.lrat_run.specs.Texts.{verdict_line}
use Rattle.lrat_run.specs.Answers.{AnswersLrat, Stops as StopsLrat}
use Rattle.command_line.specs.Words.{CheckCommand, SelfCommand}
use Rattle.command_line.specs.declared.reading.Refusal.{Refusal}
use Rattle.command_line.specs.declared.reading.Refusal.TheVariants.{Help, Usage, NoMemory}
use Rattle.cec_top.specs.declared.kept.Kept.{Kept}
use Rattle.cec_top.specs.Script.{Plan, plan_of}
use Rattle.cec_top.specs.Check.{How, Made, Opening, AreTold, StopsChecks, left_of, lines_of, saved_of, text_of_check}
use Rattle.cec_top.specs.Answers.{AnswersCheck, OpensNot, Stops, StopsLater, SaysHelp, lemmas_of, pair_of, script_of, after_lemmas, after_pair, at_start, how_of}
use Rattle.cec_top.specs.SelfCheck.{AnswersSelf, StopsSelf, after_workload, only, own_how, own_opening}
use Rattle.cec_top.specs.Texts.{workload_text}
use Rattle.cec_top.specs.Steps.{AnswersRefusal}
use Rattle.cec_top.proofs.SavingLemmas.{start-keeps}
use Rattle.cec_top.proofs.TellLemmas.{stops-among}
use Rattle.cec_top.proofs.WarnedLemmas.{progress-else, reports-else}
use Rattle.cec_top.proofs.ToldLemmas.{left-whole}

-- no file is started
abbrev pub IsClosed : DeskState → Type 0
IsClosed s = s.started ≡ None

-- a cause with another status than those of a failed write and of want of memory
abbrev pub IsOther : Stop → Type 0
IsOther stop = code_of (status_of stop) < 6

-- ---- what is read, left, said and warned

pub after-reads-closed : (is : List Input) (s : DeskState) → IsClosed s → IsClosed (after_reads s is)
after-reads-closed [] s none = none
after-reads-closed (i ∷ is) s none = after-reads-closed is (after_read s i.name) none

pub after-files-closed : (os : List Output) (s : DeskState) → IsClosed s → IsClosed (after_files s os)
after-files-closed [] s none = none
after-files-closed (o ∷ os) s none = after-files-closed os (after_file s o) refl

pub told-closed : (how : How) (number : ℕ) (made : List Made) (old new : DeskState) → AreTold how number made old new → IsClosed old → IsClosed new
told-closed how number [] old new told none = ap (λ (s : DeskState). s.started) told ∙ none
told-closed how number (m ∷ ms) old new told none =
    let os = left_of how.out how.witness number m in
    let text = text_of_check how.out m in
    told-closed how (number + 1) ms told.0 new told.3
    ((reports-else how.stats m.net m.book.entries (lines_of how.out m) told.2.1 told.0 told.2.4).started
    ∙ ap (λ (s : DeskState). s.started) (left-whole os text told.2.0 told.2.1 told.2.3)
    ∙ after-files-closed os told.2.0 ((progress-else how.progress old told.2.0 told.2.2).started ∙ none))

-- leaving files and saying a verdict stops for a failed write or for want of memory
pub leaves-code : (os : List Output) (text : List ℕ) (s t : DeskState) (stop : Stop) → Leaves os text s t (Err stop)
    → 6 ≤ code_of (status_of stop)
leaves-code os text s t CannotWrite p = omega arith
leaves-code os text s t OutOfMemory p = omega arith
leaves-code [] text s t (CannotRead file) p = absurd p
leaves-code [] text s t (TooLong file) p = absurd p
leaves-code [] text s t (BadFile file why) p = absurd p
leaves-code [] text s t (NotAlike why) p = absurd p
leaves-code (o ∷ os) text s t (CannotRead file) (inl p) = absurd p
leaves-code (o ∷ os) text s t (TooLong file) (inl p) = absurd p
leaves-code (o ∷ os) text s t (BadFile file why) (inl p) = absurd p
leaves-code (o ∷ os) text s t (NotAlike why) (inl p) = absurd p
leaves-code (o ∷ os) text s t (CannotRead file) (inr p) = leaves-code os text (after_file s o) t (CannotRead file) p
leaves-code (o ∷ os) text s t (TooLong file) (inr p) = leaves-code os text (after_file s o) t (TooLong file) p
leaves-code (o ∷ os) text s t (BadFile file why) (inr p) = leaves-code os text (after_file s o) t (BadFile file why) p
leaves-code (o ∷ os) text s t (NotAlike why) (inr p) = leaves-code os text (after_file s o) t (NotAlike why) p

-- and so does memory
pub memory-code : (stop : Stop) → stop ≡ OutOfMemory → 6 ≤ code_of (status_of stop)
memory-code stop is = omega (arith, ap (λ (s : Stop). code_of (status_of s)) is)

warned-closed : (line : List ℕ) (mid new : DeskState) → IsWarned mid new line → IsClosed mid → IsClosed new
warned-closed line mid new (inl p) none = ap (λ (s : DeskState). s.started) p ∙ none
warned-closed line mid new (inr p) none = ap (λ (s : DeskState). s.started) p.2.stays ∙ none

pub warns-closed : (line : List ℕ) (named : Status) (mid new : DeskState) (answered : Status) → Warns line named mid new answered
    → IsClosed mid → IsClosed new
warns-closed line named mid new answered (inl p) none = warned-closed line mid new p.1 none
warns-closed line named mid new answered (inr p) none = ap (λ (s : DeskState). s.started) p.1 ∙ none

-- an end without a verdict, whose cause leaves nothing started
pub ends-closed : (names : List (List ℕ)) (Cause : DeskState → Stop → Type 0) (new : DeskState) (status : Status) → EndsBy names Cause new status
    → ((mid : DeskState) (stop : Stop) → Cause mid stop → IsOther stop → IsClosed mid) → code_of status < 6 → IsClosed new
ends-closed names Cause new status p closed below = go p.warns
  where
    go : Warns (stop_line names p.stop) (status_of p.stop) p.mid new status → IsClosed new
    go (inl w) =
        warned-closed (stop_line names p.stop) p.mid new w.1
        (closed p.mid p.stop p.cause (subst (λ (s : Status). code_of s < 6) w.0 below))
    go (inr w) = absurd (omega (arith, below, ap code_of w.0))

pub reads-closed : (k : ℕ) (earlier : List (List ℕ)) (is : List Input) (old new : DeskState) (stop : Stop) → ReadsUpTo k earlier is old new stop
    → IsOther stop → IsClosed old → IsClosed new
reads-closed k earlier [] old new stop p other none = absurd p
reads-closed k earlier (i ∷ is) old new stop (inr p) other none = reads-closed (k + 1) _ is (after_read old i.name) new stop p.3 other none
reads-closed k earlier (i ∷ is) old new (CannotRead j) (inl p) other none = ap (λ (s : DeskState). s.started) p.1.stays ∙ none
reads-closed k earlier (i ∷ is) old new (TooLong j) (inl p) other none = ap (λ (s : DeskState). s.started) p.2 ∙ none
reads-closed k earlier (i ∷ is) old new (BadFile j text) (inl p) other none = ap (λ (s : DeskState). s.started) p.2 ∙ none
reads-closed k earlier (i ∷ is) old new OutOfMemory (inl p) other none = absurd (omega (arith, other))
reads-closed k earlier (i ∷ is) old new (NotAlike text) (inl p) other none = absurd p
reads-closed k earlier (i ∷ is) old new CannotWrite (inl p) other none = absurd p

checks-closed : (how : How) (from : Opening) (plan : Plan) (old new : DeskState) (kept : List Kept) (stop : Stop) → StopsChecks how from plan old kept new stop
    → IsOther stop → IsClosed old → IsClosed new
checks-closed how from plan old new kept stop (inl p) other none = absurd (omega (arith, other, leaves-code _ _ p.breaks.0 new stop p.breaks.2))
checks-closed how from plan old new kept stop (inr (inl p)) other none = absurd (omega (arith, other, memory-code stop p.out))
checks-closed how from plan old new kept stop (inr (inr p)) other none = told-closed how 0 p.made old new p.whole.told none

-- where no line is refused, checks stop for those causes alone
pub checks-code : (how : How) (from : Opening) (net : AigPair) (old new : DeskState) (kept : List Kept) (stop : Stop)
    → StopsChecks how from (plan_of net []) old kept new stop → 6 ≤ code_of (status_of stop)
checks-code how from net old new kept stop (inl p) = leaves-code _ _ p.breaks.0 new stop p.breaks.2
checks-code how from net old new kept stop (inr (inl p)) = memory-code stop p.out
checks-code how from net old new kept stop (inr (inr p)) = absurd (none-some p.line p.refused)

-- ---- each command

-- writing files stops for a failed write or for want of memory
pub among-code : (os : List Output) (s t : DeskState) (stop : Stop) → StopsAmong os s t stop → 6 ≤ code_of (status_of stop)
among-code os s t stop p = leaves-code os [] s t stop (stops-among os s t stop p [])

pub check-closed : (c : CheckCommand) (old new : DeskState) (status : Status) (kept : List Kept) → AnswersCheck c old new status kept
    → code_of status < 6 → IsClosed old → IsClosed new
check-closed c old new status kept (inl p) below none =
    let mid = told-closed (how_of c) 0 p.ends.made (at_start c old p.lemmas p.from) p.mid p.ends.whole.told
    ((start-keeps c old p.lemmas p.from).started ∙ none) in
    ap (λ (s : DeskState). s.started) p.saved ∙ after-files-closed (saved_of c.save kept) p.mid mid
check-closed c old new status kept (inr p) below none = ends-closed _ _ new status p causes below
  where
    opens-not : (mid : DeskState) (stop : Stop) → OpensNot c old mid stop → 6 ≤ code_of (status_of stop)
    opens-not mid stop q = elim q.stops [
      | inl r ↦ memory-code stop r.0
      | inr r ↦ leaves-code [] _ (after_lemmas c old) mid stop r.2
    ]

    later : (mid : DeskState) (stop : Stop) → StopsLater c old kept mid stop → IsOther stop → IsClosed mid
    later mid stop q other = elim q.stops [
      | inl r ↦ checks-closed (how_of c) q.from (plan_of q.net q.lines) (at_start c old q.lemmas q.from) mid kept stop r other
          ((start-keeps c old q.lemmas q.from).started ∙ none)
      | inr r ↦ absurd (omega (arith, other, among-code (saved_of c.save kept) r.mid mid stop r.stops))
    ]

    causes : (mid : DeskState) (stop : Stop) → Stops c old kept mid stop → IsOther stop → IsClosed mid
    causes mid stop (inl q) other = reads-closed 0 [] (pair_of c) old mid stop q.1 other none
    causes mid stop (inr (inl q)) other = ap (λ (s : DeskState). s.started) q.1.new_is ∙ none
    causes mid stop (inr (inr (inl q))) other =
        reads-closed 2 _ (script_of c ++ lemmas_of c.load) (after_pair c old) mid stop q.1.stops other none
    causes mid stop (inr (inr (inr (inl q)))) other = absurd (omega (arith, other, opens-not mid stop q.1))
    causes mid stop (inr (inr (inr (inr q)))) other = later mid stop q other

pub self-closed : (c : SelfCommand) (old new : DeskState) (status : Status) (kept : List Kept) → AnswersSelf c old new status kept
    → code_of status < 6 → IsClosed old → IsClosed new
self-closed c old new status kept (inl p) below none =
    told-closed own_how 0 p.ends.made (after_workload c p.net old) new p.ends.whole.told none
self-closed c old new status kept (inr p) below none = ends-closed _ _ new status p causes below
  where
    causes : (mid : DeskState) (stop : Stop) → StopsSelf c old kept mid stop → IsOther stop → IsClosed mid
    causes mid stop (inl q) other = absurd (omega (arith, other, leaves-code [] (workload_text c q.net) old mid stop q.breaks))
    causes mid stop (inr (inl q)) other = checks-closed own_how (own_opening q.net) (only q.net) (after_workload c q.net old) mid kept stop q.stops other none
    causes mid stop (inr (inr q)) other = absurd (omega (arith, other, memory-code stop q.out))

lrat-ends-closed : (cnf proof : List ℕ) (old new : DeskState) (status : Status)
    → EndsBy (cnf ∷ proof ∷ []) (StopsLrat cnf proof old) new status → code_of status < 6 → IsClosed old → IsClosed new
lrat-ends-closed cnf proof old new status p below none = ends-closed _ _ new status p causes below
  where
    causes : (mid : DeskState) (stop : Stop) → StopsLrat cnf proof old mid stop → IsOther stop → IsClosed mid
    causes mid stop (inl q) other = reads-closed 0 [] (inputs_of cnf proof) old mid stop q other none
    causes mid stop (inr q) other = absurd (omega (arith, other, leaves-code [] (verdict_line q.verdict) (after_reads old (inputs_of cnf proof)) mid stop q.leaves))

pub lrat-closed : (cnf proof : List ℕ) (old new : DeskState) (status : Status) → AnswersLrat cnf proof old new status
    → code_of status < 6 → IsClosed old → IsClosed new
lrat-closed cnf proof old new ends.Done p below none = ap (λ (s : DeskState). s.started) p.says ∙ none
lrat-closed cnf proof old new ends.No p below none = ap (λ (s : DeskState). s.started) p.says ∙ none
lrat-closed cnf proof old new ends.Undecided p below none = absurd p
lrat-closed cnf proof old new ends.BadUsage p below none = absurd p
lrat-closed cnf proof old new ends.BadInput p below none = lrat-ends-closed cnf proof old new ends.BadInput p below none
lrat-closed cnf proof old new ends.CannotRead p below none = lrat-ends-closed cnf proof old new ends.CannotRead p below none
lrat-closed cnf proof old new ends.CannotWrite p below none = absurd (omega (arith, below))
lrat-closed cnf proof old new ends.OutOfMemory p below none = absurd (omega (arith, below))

says-help-closed : (text : List ℕ) (old new : DeskState) (status : Status) → SaysHelp text old new status → code_of status < 6
    → IsClosed old → IsClosed new
says-help-closed text old new status (inl p) below none = ap (λ (s : DeskState). s.started) p.1 ∙ none
says-help-closed text old new status (inr p) below none =
    ends-closed [] _ new status p (λ mid stop cause other. absurd (omega (arith, other, leaves-code [] text old mid stop cause))) below

pub refusal-closed : (r : Refusal) (old new : DeskState) (status : Status) → AnswersRefusal r old new status → code_of status < 6
    → IsClosed old → IsClosed new
refusal-closed (Help text) old new status p below none = says-help-closed (string_bytes text) old new status p below none
refusal-closed (Usage text) old new status p below none = warns-closed (string_bytes text) ends.BadUsage old new status p none
refusal-closed NoMemory old new status p below none =
    ends-closed [] _ new status p
    (λ mid stop cause other. absurd (omega (arith, other, memory-code stop cause.0))) below
