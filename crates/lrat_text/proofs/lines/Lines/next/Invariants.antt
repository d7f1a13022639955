-- The lines so far say nothing.
use Rattle.std.proofs.Common.{◌≡◌, ◌≤◌, [], length}
use Rattle.lrat_text.specs.Lines.{next_left}
use Rattle.lrat_text.proofs.StopLemmas.{AreRead}
use Rattle.lrat_text.proofs.lines.Lines.next.Given as goal

abbrev pub invariant-loop-line : goal.invariant-loop-line
invariant-loop-line l = record {
  same : next_left l.fn.self ≡ next_left l.self;
  last : l.self.last ≡ l.fn.self.last;
  fewer : length l.self.bytes ≤ length l.fn.self.bytes;
  read : AreRead [] l.fn.self l.self;
}

abbrev pub decreases-loop-line : goal.decreases-loop-line
decreases-loop-line l = length l.self.bytes
