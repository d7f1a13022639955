use Rattle.std.proofs.Common.{sym, subst}
use Rattle.netlist.specs.Circuit.{Aig}
use Rattle.netlist.specs.Net.{IsNet}
use Rattle.netlist.proofs.NamedNet.{IsNet-arranged}
use Rattle.netlist.proofs.net.Net.of_named.Goals as goal

pub of-requires : goal.of-requires
of-requires c =
    subst (λ (g : Aig). IsNet (record { a = c.args.a; b = g })) (sym c.in_ok-b.ensures.1)
    (IsNet-arranged c.args.a c.args.b c.in_default.ensures.net c.in_ok-b.ensures.0)
