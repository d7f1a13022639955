-- The first gates have become what they become.
use Rattle.std.proofs.Common.{◌≡◌, map, take}
use Rattle.fraig_write.specs.Reduced.{reduced_gate}
use Rattle.fraig_write.proofs.renumbering.Renumbering.gates.Given as goal

abbrev pub invariant-loop-gate : goal.invariant-loop-gate
invariant-loop-gate l =
    l.gates.items ≡ map (reduced_gate l.net.a l.book.entries l.self.staying) (take l.gate-index l.gate-items)
