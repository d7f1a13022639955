use Rattle.std.proofs.Common.{◌+◌, ◌∙◌, List, ℕ, length, ap, arith, subst}
use Rattle.std.proofs.lemmas.List.{length-replicate}
use Rattle.proof_stitch.specs.Derivation.{is_for_logs, log_lines, shown_units}
use Rattle.proof_stitch.specs.Table.{AreMarked, always}
use Rattle.proof_stitch.proofs.LogLemmas.{log-marks}
use Rattle.proof_stitch.proofs.write_derivation.marks_of.Goals as goal

pub ask_logs-requires-clause-first : goal.ask_logs-requires-clause-first
ask_logs-requires-clause-first c = omega (arith, c.from-clauses.ensures, c.clauses.ensures.count, c.written_count-steps.ensures.count)

pub reach-requires-clause-clauses : goal.reach-requires-clause-clauses
reach-requires-clause-clauses c =
    omega (arith, c.ask_logs.ensures.shape.clauses, c.ask.ensures.shape.clauses, c.in_ok-marks.ensures.clauses, c.from-clauses.ensures, c.clauses.ensures.count)

pub reach-requires-clause-steps : goal.reach-requires-clause-steps
reach-requires-clause-steps c =
    omega (
      arith,
      c.ask_logs.ensures.shape.steps,
      c.ask.ensures.shape.steps,
      ap length c.in_ok-marks.ensures.numbers,
      length-replicate {A = ℕ} (c.written_count-steps.result + c.log_count-logs.result) 0,
      c.written_count-steps.ensures.count,
    )

pub reach-requires-clause-last : goal.reach-requires-clause-last
reach-requires-clause-last c =
    omega (
      arith,
      c.ask_logs.ensures.shape.clauses,
      c.ask.ensures.shape.clauses,
      c.in_ok-marks.ensures.clauses,
      c.written_count-steps.ensures.count,
    )

pub returns-clause-clauses : goal.returns-clause-clauses
returns-clause-clauses c =
    c.reach.ensures.shape.clauses ∙ c.ask_logs.ensures.shape.clauses ∙ c.ask.ensures.shape.clauses ∙ c.in_ok-marks.ensures.clauses
    ∙ c.from-clauses.ensures ∙ c.clauses.ensures.count

pub returns-clause-count : goal.returns-clause-count
returns-clause-count c =
    omega (
      arith,
      c.reach.ensures.shape.steps,
      c.ask_logs.ensures.shape.steps,
      c.ask.ensures.shape.steps,
      ap length c.in_ok-marks.ensures.numbers,
      length-replicate {A = ℕ} (c.written_count-steps.result + c.log_count-logs.result) 0,
      c.written_count-steps.ensures.count,
      c.log_count-logs.ensures.count,
    )

pub returns-clause-marks : goal.returns-clause-marks
returns-clause-marks c =
    let net = c.args.net.now in
    let entries = c.args.book.now.entries in
    let units : AreMarked (shown_units net entries) always c.in_ok-marks.marks c.ask.new.marks =
    subst (λ (l : List ℕ). AreMarked l always c.in_ok-marks.marks c.ask.new.marks) (c.as_slice.ensures.value ∙ c.in_ok-units.ensures) c.ask.ensures.marked in
    c.reach.ensures.marks (is_for_logs net entries) (log_lines net entries)
    (log-marks net entries (c.written_count-steps.result + c.log_count-logs.result) c.in_ok-marks.marks c.ask.new.marks c.ask_logs.new.marks
    c.in_ok-marks.ensures.numbers c.ask.ensures.shape c.ask_logs.ensures.shape units c.ask_logs.ensures.marked)
