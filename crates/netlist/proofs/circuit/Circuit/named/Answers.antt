use Rattle.std.proofs.Common.{length, subst, sym}
use Rattle.symbol_names.specs.Names.{AreNames}
use Rattle.netlist.specs.Circuit.{Aig}
use Rattle.netlist.proofs.PartsLemmas.{IsIndexed-named}
use Rattle.netlist.proofs.circuit.Circuit.named.Goals as goal

pub invariant_of-result : goal.invariant_of-result
invariant_of-result c =
    let fit = subst (λ (g : Aig). AreNames (length g.inputs) (length g.outputs) c.args.names) (sym c.self.view_is) c.requires in
    rw c.named.ensures (IsIndexed-named c.self.inside.parts c.self.inside.table c.args.names c.self.invariant fit)
