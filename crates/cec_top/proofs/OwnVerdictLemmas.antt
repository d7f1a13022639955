-- What each verdict promises of circuits that the program makes, and that the check of them comes to one.
use Rattle.std.proofs.Common.{◌≡◌, ℕ, ◌<◌, ◌≤◌, inl, inr, false, List, [], ◌++◌, Option, Some, None, refl, sym, ap, ◌∙◌, subst, arith, append_assoc}
use Rattle.std.specs.Prelude.{◌⊎◌, Contains, option_map}
use Rattle.desk_port.specs.Desk.{DeskState, Rose, after_say}
use Rattle.netlist.specs.Net.{AigPair}
use Rattle.endings.specs.declared.status.Status.{Status}
use Rattle.endings.specs.Status.{code_of}
use Rattle.endings.specs.declared.stop.Stop.{Stop}
use Rattle.endings.specs.declared.stop.Stop.TheVariants.{OutOfMemory}
use Rattle.endings.specs.Stops.{EndsBy, Warns, status_of, stop_line}
use Rattle.command_line.specs.Words.{SelfCommand}
use Rattle.cec_top.specs.declared.kept.Kept.{Kept}
use Rattle.cec_top.specs.Headline.{Told, AreEquivalent, AreDifferent, AreUndecided, HandsBack, OfWorkload, Shows}
use Rattle.cec_top.specs.Check.{Made, IsMade, status_of_finding, text_of_check, kept_of}
use Rattle.cec_top.specs.Answers.{IsAtOnce}
use Rattle.cec_top.specs.SelfCheck.{AreWorkload, AnswersSelf, EndsSelf, StopsSelf, after_workload, only, own_how, own_opening}
use Rattle.cec_top.specs.Complete.{NoFault, HasVerdict}
use Rattle.cec_top.specs.Texts.{workload_text}
use Rattle.cec_top.proofs.HeadlineLemmas.{ends-code, hands-back}
use Rattle.cec_top.proofs.ToldLemmas.{told_of}
use Rattle.cec_top.proofs.KeptLemmas.{has-last}
use Rattle.cec_top.proofs.VerdictLemmas.{only-check, are-equivalent, are-different, are-undecided}
use Rattle.cec_top.proofs.ClosedLemmas.{leaves-code, memory-code, checks-code}
use Rattle.cec_top.proofs.CompleteLemmas.{IsExcused, finding-code, leaves-stops, checks-stop, excused-verdict}

module _ (c : SelfCommand) (old new : DeskState) (status : Status) (kept : List Kept) where
  -- what holds of the check is promised
  promised : (Holds : Told → Type 0) (m : Made) → AreWorkload c m.net
      → new ≡ after_say (after_workload c m.net old) (text_of_check None m) → Holds (told_of None 0 m)
      → HandsBack own_how kept [] (told_of None 0 m) → Shows false false (OfWorkload c kept Holds) old new
  promised Holds m circuits whole holds books before earlier told heard =
      let first = workload_text c m.net in
      let verdict = text_of_check None m in
      record {
        after = before;
        said = first ++ verdict;
        left = ap (λ (s : DeskState). s.files) whole ∙ told;
        heard =
            ap (λ (s : DeskState). s.said) whole
            ∙ ap (λ (o : Option (List ℕ)). option_map (λ x. x ++ verdict) (option_map (λ x. x ++ first) o)) heard
            ∙ ap (λ (x : List ℕ). Some x) (append_assoc earlier first verdict);
        quiet = (ap (λ (s : DeskState). s.warned) whole, ap (λ (s : DeskState). s.warn_faults) whole);
        closed = λ none. ap (λ (s : DeskState). s.started) whole ∙ none;
        promise = record {
          check = told_of None 0 m;
          number_is = refl;
          spells_a = circuits.a;
          spells_b = circuits.b;
          says = refl;
          files = refl;
          holds = holds;
          books = books;
        };
      }

  module _ (answers : AnswersSelf c old new status kept ⊎ EndsBy [] (IsAtOnce old) new status) where
    ends-whole : code_of status < 4 → EndsSelf c old new status kept
    ends-whole below = elim answers [
      | inl (inl p) ↦ p
      | inl (inr p) ↦ absurd (omega (arith, below, ends-code _ _ new status p))
      | inr p ↦ absurd (omega (arith, below, ends-code _ _ new status p))
    ]

    shows : (Holds : Told → Type 0) (code : ℕ) → code_of status ≡ code → code < 4
        → ((m : Made) → IsMade own_how m → Contains kept (kept_of 0 m) → code_of (status_of_finding m.finding) ≡ code → Holds (told_of None 0 m))
        → Shows false false (OfWorkload c kept Holds) old new
    shows Holds code is below holds =
        let p = ends-whole (omega (arith, is, below)) in
        let o = only-check own_how (own_opening p.net) p.net (after_workload c p.net old) new status kept p.ends in
        promised Holds o.check (subst (λ (n : AigPair). AreWorkload c n) (sym o.same) p.circuits)
        (subst (λ (n : AigPair). new ≡ after_say (after_workload c n old) (text_of_check None o.check)) (sym o.same)
        (subst (λ (s : DeskState). new ≡ after_say s (text_of_check None o.check)) o.warns (o.reports ∙ o.whole)))
        (holds o.check o.is_made (subst (λ (ks : List Kept). Contains ks (kept_of 0 o.check)) (sym o.keeps) (has-last [] o.check))
        (ap code_of o.status_is ∙ is))
        (hands-back own_how [] o.check o.is_made kept o.keeps)

    pub own-equivalent : code_of status ≡ 0 → Shows false false (OfWorkload c kept (AreEquivalent None)) old new
    own-equivalent is = shows (AreEquivalent None) 0 is (omega arith)
        (λ m made has code. are-equivalent own_how 0 m.net m.edits m.book m.finding made code)

    pub own-different : code_of status ≡ 1 → Shows false false (OfWorkload c kept (AreDifferent None)) old new
    own-different is = shows (AreDifferent None) 1 is (omega arith)
        (λ m made has code. are-different own_how 0 m.net m.edits m.book m.finding made code)

    pub own-undecided : code_of status ≡ 2 → Shows false false (OfWorkload c kept (AreUndecided own_how kept)) old new
    own-undecided is = shows (AreUndecided own_how kept) 2 is (omega arith)
        (λ m made has code. are-undecided own_how 0 m.net m.edits m.book kept m.finding has made code)

  -- ---- a verdict, or want of memory

  excused-said : (s t : DeskState) (stop : Stop) → s.write_faults ≡ old.write_faults → (stop ≡ OutOfMemory) ⊎ Rose s.write_faults t.write_faults
      → IsExcused old t stop
  excused-said s t stop same (inl out) = inl out
  excused-said s t stop same (inr rose) = inr (inr (subst (λ (n : ℕ). Rose n t.write_faults) same rose))

  excused : (mid : DeskState) (stop : Stop) → StopsSelf c old kept mid stop → IsExcused old mid stop
  excused mid stop (inl p) =
      excused-said old mid stop refl (leaves-stops [] (workload_text c p.net) old mid stop p.breaks)
  excused mid stop (inr (inl p)) =
      let s = after_workload c p.net old in
      excused-said s mid stop refl (checks-stop own_how (own_opening p.net) (only p.net) refl s mid kept stop p.stops)
  excused mid stop (inr (inr p)) = inl p.out

  pub own-complete : NoFault old new → AnswersSelf c old new status kept ⊎ EndsBy [] (IsAtOnce old) new status → HasVerdict status
  own-complete none (inl (inl p)) =
      let o = only-check own_how (own_opening p.net) p.net (after_workload c p.net old) new status kept p.ends in
      inl (subst (λ (s : Status). code_of s ≤ 2) o.status_is (finding-code o.check.finding))
  own-complete none (inl (inr p)) = excused-verdict _ old p.mid new p.stop status none p.warns (excused p.mid p.stop p.cause)
  own-complete none (inr p) = go p.warns
    where
      go : Warns (stop_line [] p.stop) (status_of p.stop) p.mid new status → HasVerdict status
      go (inl w) = inr (ap code_of w.0 ∙ ap (λ (s : Stop). code_of (status_of s)) p.cause.0)
      go (inr w) = inr (ap code_of w.0)

  -- ---- no file is at fault

  stops-code : (mid : DeskState) (stop : Stop) → StopsSelf c old kept mid stop → 6 ≤ code_of (status_of stop)
  stops-code mid stop (inl p) = leaves-code [] (workload_text c p.net) old mid stop p.breaks
  stops-code mid stop (inr (inl p)) = checks-code own_how (own_opening p.net) p.net (after_workload c p.net old) mid kept stop p.stops
  stops-code mid stop (inr (inr p)) = memory-code stop p.out

  warned-code : (names : List (List ℕ)) (stop : Stop) (mid : DeskState) → Warns (stop_line names stop) (status_of stop) mid new status
      → 6 ≤ code_of (status_of stop) → 6 ≤ code_of status
  warned-code names stop mid (inl w) above = subst (λ (s : Status). 6 ≤ code_of s) (sym w.0) above
  warned-code names stop mid (inr w) above = omega (arith, ap code_of w.0)

  pub own-codes : AnswersSelf c old new status kept ⊎ EndsBy [] (IsAtOnce old) new status → (code_of status ≤ 2) ⊎ (6 ≤ code_of status)
  own-codes (inl (inl p)) =
      let o = only-check own_how (own_opening p.net) p.net (after_workload c p.net old) new status kept p.ends in
      inl (subst (λ (s : Status). code_of s ≤ 2) o.status_is (finding-code o.check.finding))
  own-codes (inl (inr p)) = inr (warned-code [] p.stop p.mid p.warns (stops-code p.mid p.stop p.cause))
  own-codes (inr p) = inr (warned-code [] p.stop p.mid p.warns (memory-code p.stop p.cause.0))
