use Rattle.std.proofs.Common.{arith}
use Rattle.netlist.proofs.MiterLemmas.{numbered_clause}
use Rattle.netlist.proofs.miter.numbered.Goals as goal

pub from_slice-requires : goal.from_slice-requires
from_slice-requires c =
    numbered_clause c.args.pair.now c.args.lits.now c.loop-i.numbers c.loop-i.i (omega arith) c.requires.there c.requires.clause c.loop-i.invariant
