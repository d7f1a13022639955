-- What is marked is reached, and what is reached is its own root.
use Rattle.std.proofs.Common.{◌∙◌, ◌&&◌, sym, ap}
use Rattle.std.specs.Prelude.{filter}
use Rattle.lits.specs.declared.node.Side.TheVariants.{A}
use Rattle.lits.specs.declared.node.Node.TheVariants.{Gate}
use Rattle.netlist.specs.declared.gate.And.{And}
use Rattle.netlist.specs.Circuit.{Aig}
use Rattle.fraig_write.specs.Marks.{is_marked}
use Rattle.fraig_write.specs.Reduced.{is_own_root}
use Rattle.fraig_write.proofs.FilterLemmas.{filter-same}
use Rattle.fraig_write.proofs.ReachedNodes.{stays-reached}
use Rattle.fraig_write.proofs.staying.staying_gates.Goals as goal

pub returns : goal.returns
returns c =
    let net = c.args.net.now in
    let entries = c.args.book.now.entries in
    let marked = is_marked net c.in_ok-marks.marks in
    record {
      reached = marked;
      are_reached = c.in_ok-marks.ensures.reached;
      gates =
          c.in_ok-staying.ensures
          ∙ ap (filter (λ (g : And). marked (Gate A g.var))) (c.gates.ensures.gates ∙ ap (λ (x : Aig). x.gates) c.circuit.ensures.circuit)
          ∙ filter-same (λ (g : And). marked (Gate A g.var)) (λ (g : And). is_own_root entries g && marked (Gate A g.var)) net.a.gates
          (λ g. sym (stays-reached net c.requires.net c.args.book.now c.requires.legal marked c.in_ok-marks.ensures.reached g));
    }
