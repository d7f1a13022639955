-- What is left has a form, or a first fault, as the whole has, and the lines so far say some steps.
use Rattle.std.proofs.Common.{List, Err, length}
use Rattle.lrat_text.specs.declared.error.LratErr.{LratErr}
use Rattle.lrat_text.specs.declared.step.Line.{Line}
use Rattle.lrat_text.specs.Reading.{Gives}
use Rattle.lrat_text.specs.Lines.{steps_left, HasForm}
use Rattle.lrat_text.proofs.StopLemmas.{AreRead}
use Rattle.lrat_text.proofs.lines.Lines.skip_rest.Given as goal

abbrev pub invariant-loop : goal.invariant-loop
invariant-loop l = record {
  form : HasForm (steps_left l.self) → HasForm (steps_left l.fn.self);
  steps : List Line;
  read : AreRead steps l.fn.self l.self;
  fault : (d : LratErr) → Gives (Err d) (steps_left l.self) → Gives (Err d) (steps_left l.fn.self);
}

abbrev pub decreases-loop : goal.decreases-loop
decreases-loop l = length l.self.bytes
