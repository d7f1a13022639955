use Rattle.std.proofs.Common.{length}
use Rattle.lrat_text.specs.Lines.{steps_left}
use Rattle.lrat_checker.specs.Live.{clauses_of}
use Rattle.lrat_checker.proofs.TextLemmas.{AreJudged}
use Rattle.lrat_checker.proofs.text.judge_while_reading.Given as goal

abbrev pub invariant-loop-steps : goal.invariant-loop-steps
invariant-loop-steps l = AreJudged l.formula l.text (steps_left l.lines) (clauses_of l.live) l.has_empty

abbrev pub decreases-loop-steps : goal.decreases-loop-steps
decreases-loop-steps l = length l.lines.bytes
