-- The places that were passed have names.
use Rattle.std.proofs.Common.{◌≡◌, None}
use Rattle.netlist.specs.ByName.{is_nameless, least}
use Rattle.netlist.proofs.by_name.all_named.Given as goal

abbrev pub invariant-loop-k : goal.invariant-loop-k
invariant-loop-k l = least (is_nameless l.names) l.k ≡ None
