use Rattle.std.proofs.Common.{ap, ◌∙◌}
use Rattle.netlist.specs.Circuit.{Aig}
use Rattle.netlist.specs.Unlike.{unlike_of}
use Rattle.check_session.proofs.ReductionLemmas.{alike}
use Rattle.check_session.proofs.reduction.beside.Goals as goal

pub net_of-requires : goal.net_of-requires
net_of-requires c =
    ap (λ (x : Aig). unlike_of c.args.a x) c.in_ok-copy.ensures
    ∙ alike c.args.a c.args.circuit.now c.requires.inputs c.requires.outputs
