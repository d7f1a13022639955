use Rattle.std.proofs.Common.{◌≡◌, ◌-◌, ◌++◌, length, map}
use Rattle.std.specs.List.{range_with_len}
use Rattle.proof_stitch.specs.Stitch.{unit_id}
use Rattle.proof_stitch.proofs.entries.units.Given as goal

abbrev pub invariant-loop-output : goal.invariant-loop-output
invariant-loop-output l =
    l.units.items ++ map (unit_id l.net l.book.entries) (range_with_len l.output (l.output-end - l.output))
    ≡ map (unit_id l.net l.book.entries) (range_with_len 0 (length l.net.a.outputs))
