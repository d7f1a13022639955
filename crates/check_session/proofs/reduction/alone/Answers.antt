use Rattle.std.proofs.Common.{ap₂, ◌∙◌}
use Rattle.netlist.specs.Circuit.{Aig}
use Rattle.netlist.specs.Unlike.{unlike_of}
use Rattle.check_session.proofs.ReductionLemmas.{alike-without_gates}
use Rattle.check_session.proofs.reduction.alone.Goals as goal

pub net_of-requires : goal.net_of-requires
net_of-requires c =
    ap₂ (λ (x : Aig) (y : Aig). unlike_of x y) c.in_ok-copy.ensures c.in_ok-b.ensures ∙ alike-without_gates c.args.a.now
