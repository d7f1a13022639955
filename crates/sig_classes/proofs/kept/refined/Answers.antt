use Rattle.std.proofs.Common.{◌≡◌, ◌∙◌, ℕ, length, subst, arith}
use Rattle.netlist.specs.Net.{nodes_of}
use Rattle.sig_classes.specs.Kept.{AreLeast}
use Rattle.sig_classes.proofs.LeastLemmas.{least-next}
use Rattle.sig_classes.proofs.kept.refined.Goals as goal

pub loop-position-preserved : goal.loop-position-preserved
loop-position-preserved c =
    let i = c.loop-position.invariant in
    record {
      room = c.lead.ensures.room ∙ i.room;
      order = c.lead.ensures.order;
      firsts = c.lead.ensures.members i.firsts;
      least = least-next c.args.classes.now c.args.sigs.now c.loop-position.position c.loop-position.leaders.items _ c.lead.result
          i.least c.in_ok-push.ensures.items (c.lead.ensures.least i.firsts) c.lead.ensures.out;
    }

pub returns-clause-least : goal.returns-clause-least
returns-clause-least c =
    let end : c.loop-position.position ≡ length (nodes_of c.args.net.now) = omega (arith, c.loop-position-test.false, c.positions-position-end.ensures) in
    subst (λ (n : ℕ). AreLeast c.args.classes.now c.args.sigs.now n c.loop-position.leaders.items) end c.loop-position.invariant.least
