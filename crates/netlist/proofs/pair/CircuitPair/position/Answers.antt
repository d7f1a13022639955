use Rattle.std.proofs.Common.{◌∙◌, ap, sym}
use Rattle.netlist.specs.Net.{position_of}
use Rattle.netlist.proofs.NetLemmas.{position-input_in, position-input_out, position_of-xor}
use Rattle.netlist.proofs.pair.CircuitPair.position.Goals as goal

pub returns-then-k-sizes : goal.returns-then-k-sizes
returns-then-k-sizes c =
    position-input_in c.sizes-sizes.ensures c.in-Input.k c.if-k-sizes.true ∙ ap (position_of c.args.self.now) (sym c.in-Input.is)

pub returns-else-k-sizes : goal.returns-else-k-sizes
returns-else-k-sizes c =
    position-input_out c.sizes-sizes.ensures c.in-Input.k c.if-k-sizes.false ∙ ap (position_of c.args.self.now) (sym c.in-Input.is)

pub returns-in-Xor : goal.returns-in-Xor
returns-in-Xor c = sym (ap (position_of c.args.self.now) c.in-Xor.is ∙ position_of-xor c.args.self.now c.in-Xor.field-0)
