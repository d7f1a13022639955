-- The CNF and then the proof are read, and what is found in them.
use Rattle.std.proofs.Common.{◌≡◌, ℕ, inl, inr, List, [], ◌∷◌, length, Err, Ok, ap, ◌∙◌, subst, refl}
use Rattle.lits.specs.Assignment.{IsSatisfiable}
use Rattle.lits.specs.Same.{opposite_dim}
use Rattle.desk_port.specs.Desk.{DeskState, NoCountFalls, after_read, after_say}
use Rattle.dimacs_text.specs.declared.cnf.Cnf.{Cnf}
use Rattle.dimacs_text.specs.Reading.{SpellsCnf}
use Rattle.lrat_checker.specs.declared.verdict.Verdict.{Verdict}
use Rattle.lrat_checker.specs.declared.verdict.Verdict.TheVariants.{Refuted}
use Rattle.lrat_checker.specs.Text.{IsVerdictOfText}
use Rattle.endings.specs.declared.stop.Stop.{Stop}
use Rattle.endings.specs.Reading.{ReadsAs, StopsAt, after_reads}
use Rattle.endings.specs.Writing.{Leaves}
use Rattle.lrat_run.specs.Texts.{verdict_line}
use Rattle.lrat_run.specs.Files.{IsJudged, cnf_input, proof_input, inputs_of, clauses_in, clauses_of}
use Rattle.lrat_run.specs.Answers.{AnswersLrat, Says, Stops, Verifies}
use Rattle.endings.specs.Stops.{EndsBy, Warns, status_of, stop_line}
use Rattle.endings.specs.declared.status.Status.{Status}
use Rattle.endings.specs.declared.status.Status.TheVariants.{Done, No, Undecided, BadUsage, BadInput, CannotRead, CannotWrite}
use Rattle.endings.specs.declared.status.Status.TheVariants as status
use Rattle.endings.proofs.Facts.{IsOfStop, warned-status, falls-then, falls-reads, falls-read-all, falls-leaves, falls-warns}

-- the CNF is read
module _ (cnf proof : List ℕ) (old mid : DeskState) (formula : Cnf)
    (first : ReadsAs SpellsCnf 0 (cnf_input cnf) [] old mid (Ok formula)) where
  counted : clauses_in (first.0.0 ∷ []) ≡ length formula.clauses
  counted = ap clauses_of first.0.3

  -- the proof has no verdict
  pub stops-proof : (new : DeskState) (stop : Stop)
      → ((earlier : List (List ℕ)) → clauses_in earlier ≡ length formula.clauses → StopsAt 1 (proof_input proof) earlier mid new stop)
      → Stops cnf proof old new stop
  stops-proof new stop stops = inl (inr (
    first.0.0,
    first.0.1,
    first.0.2,
    inl
        (subst (λ (s : DeskState). StopsAt 1 (proof_input proof) (first.0.0 ∷ []) s new stop) first.1
        (stops (first.0.0 ∷ []) counted)),
  ))

  -- it has this one
  module _ (read : DeskState) (verdict : Verdict)
      (reads : (earlier : List (List ℕ)) → clauses_in earlier ≡ length formula.clauses
      → ReadsAs (IsVerdictOfText formula.clauses) 1 (proof_input proof) earlier mid read (Ok verdict)) where
    second : ReadsAs (IsVerdictOfText formula.clauses) 1 (proof_input proof) (first.0.0 ∷ []) old (after_read old proof) (Ok verdict)
    second = (
      (subst (λ (s : DeskState). ReadsAs (IsVerdictOfText formula.clauses) 1 (proof_input proof) (first.0.0 ∷ []) s read (Ok verdict)) first.1
          (reads (first.0.0 ∷ []) counted)).0,
      refl,
    )

    both_read : read ≡ after_reads old (inputs_of cnf proof)
    both_read = (reads (first.0.0 ∷ []) counted).1 ∙ ap (λ (s : DeskState). after_read s proof) first.1

    judged : IsJudged cnf proof old verdict
    judged = record {
      cnf_bytes = first.0.0;
      proof_bytes = second.0.0;
      formula = formula;
      lines = second.0.3.lines;
      cnf_is = first.0.1;
      proof_is = second.0.1;
      spells_formula = first.0.3;
      spells_lines = second.0.3.spells;
      right = second.0.3.right;
    }

    pub said : (new : DeskState) → (verdict ≡ Refuted → ¬ IsSatisfiable opposite_dim formula.clauses)
        → new ≡ after_say read (verdict_line verdict) → Says cnf proof old new verdict
    unfolding judged
    said new sound says = record {
      judged = judged;
      sound = sound;
      says = says ∙ ap (λ (s : DeskState). after_say s (verdict_line verdict)) both_read;
    }

    pub unsaid : (new : DeskState) (stop : Stop) → Leaves [] (verdict_line verdict) read new (Err stop) → Stops cnf proof old new stop
    unsaid new stop leaves = inr (record {
      verdict = verdict;
      judged = judged;
      leaves = subst (λ (s : DeskState). Leaves [] (verdict_line verdict) s new (Err stop)) both_read leaves;
    })

-- a refutation that is said verifies
pub verifies : (cnf proof : List ℕ) (old new : DeskState) → Says cnf proof old new Refuted → Verifies cnf proof old new
unfolding verdict_line
verifies cnf proof old new says = record { judged = says.judged; unsatisfiable = says.sound refl; says = says.says }

-- the cause of no verdict is warned of
pub ends : (cnf proof : List ℕ) (old mid new : DeskState) (stop : Stop) (answered : Status) → Stops cnf proof old mid stop
    → Warns (stop_line (cnf ∷ proof ∷ []) stop) (status_of stop) mid new answered → AnswersLrat cnf proof old new answered
ends cnf proof old mid new stop answered cause warns = go answered (warned-status _ stop mid new answered warns) ended
  where
    ended : EndsBy (cnf ∷ proof ∷ []) (Stops cnf proof old) new answered
    ended = record { stop = stop; mid = mid; cause = cause; warns = warns }

    go : (s : Status) → IsOfStop s → EndsBy (cnf ∷ proof ∷ []) (Stops cnf proof old) new s → AnswersLrat cnf proof old new s
    go Done is e = absurd is
    go No is e = absurd is
    go Undecided is e = absurd is
    go BadUsage is e = absurd is
    go BadInput is e = e
    go CannotRead is e = e
    go CannotWrite is e = e
    go status.OutOfMemory is e = e

-- and no count of faults fell
pub stops-counts : (cnf proof : List ℕ) (old mid : DeskState) (stop : Stop) → Stops cnf proof old mid stop → NoCountFalls old mid
stops-counts cnf proof old mid stop (inl reads) = falls-reads 0 [] (inputs_of cnf proof) old mid stop reads
stops-counts cnf proof old mid stop (inr tells) = falls-then old (after_reads old (inputs_of cnf proof)) mid
    (falls-read-all (inputs_of cnf proof) old) (falls-leaves [] (verdict_line tells.verdict) _ mid (Err stop) tells.leaves)

pub ends-counts : (cnf proof : List ℕ) (old mid new : DeskState) (stop : Stop) (answered : Status) → Stops cnf proof old mid stop
    → Warns (stop_line (cnf ∷ proof ∷ []) stop) (status_of stop) mid new answered → NoCountFalls old new
ends-counts cnf proof old mid new stop answered cause warns =
    falls-then old mid new (stops-counts cnf proof old mid stop cause) (falls-warns _ (status_of stop) mid new answered warns)
