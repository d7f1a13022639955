-- What stands at the names that were passed, each of which B has.
use Rattle.std.proofs.Common.{◌≡◌, None, map}
use Rattle.std.specs.List.{range_with_len}
use Rattle.netlist.specs.ByName.{at_name, is_missing, least}
use Rattle.netlist.proofs.by_name.in_order.Given as goal

abbrev pub invariant-loop-k : goal.invariant-loop-k
invariant-loop-k l =
    (l.ordered.items ≡ map (at_name l.a l.b l.of_b) (range_with_len 0 l.k)) × (least (is_missing l.b l.a) l.k ≡ None)
