-- The fanins of the gates that were passed.
use Rattle.std.proofs.Common.{◌≡◌, take}
use Rattle.std.specs.Vec.{vec_len, vec_capacity}
use Rattle.netlist.specs.Net.{all_fanins}
use Rattle.netlist.proofs.pair.CircuitPair.fill_fanins.Given as goal

abbrev pub invariant-loop-k : goal.invariant-loop-k
invariant-loop-k l =
    (l.all.items ≡ take l.k (all_fanins l.self)) × (vec_len l.all ≡ l.k) × (vec_capacity l.all ≡ vec_capacity l.initial.all)
