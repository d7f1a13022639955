use Rattle.std.proofs.Common.{◌≡◌, ◌-◌, ◌≤◌, length}
use Rattle.byte_scan.specs.Reading.{lines_ahead}
use Rattle.byte_scan.proofs.TailLemmas.{HasNames, EndsAs}
use Rattle.byte_scan.proofs.symbols.tail.Given as goal

abbrev pub invariant-loop-line : goal.invariant-loop-line
invariant-loop-line l = record {
  at : l.at ≡ l.scan.at;
  within : l.scan.at ≤ length l.scan.bytes;
  names : HasNames l.inputs l.outputs (lines_ahead l.fn.scan) (lines_ahead l.scan) l.names;
  ends : EndsAs l.inputs l.outputs l.fn.scan l.scan;
}

abbrev pub decreases-loop-line : goal.decreases-loop-line
decreases-loop-line l = length l.scan.bytes - l.scan.at
