-- The numbers of the nodes that were passed.
use Rattle.std.proofs.Common.{◌≡◌}
use Rattle.std.specs.Vec.{vec_len, vec_capacity}
use Rattle.netlist.specs.Starts.{AreFirst}
use Rattle.netlist.proofs.starts.fill_behind.Given as goal

abbrev pub invariant-loop-place : goal.invariant-loop-place
invariant-loop-place l =
    AreFirst l.pair l.numbers.items l.place l.next × (vec_len l.numbers ≡ l.place) × (vec_capacity l.numbers ≡ vec_capacity l.initial.numbers)
