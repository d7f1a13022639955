use Rattle.std.proofs.Common.{◌-◌, ◌≤◌, length, []}
use Rattle.os_desk.specs.Streams.{Gets}
use Rattle.os_desk.proofs.streams.read_by.Given as goal

abbrev pub invariant-pieces : goal.invariant-pieces
invariant-pieces g l =
    (length l.bytes.items ≤ l.most)
    × Gets (g.F.Read.remaining l.initial.file) (g.F.Read.remaining l.file) [] l.bytes.items

abbrev pub decreases-pieces : goal.decreases-pieces
decreases-pieces g l = l.most - length l.bytes.items
