use Rattle.std.proofs.Common.{arith, sym, subst, ◌<◌, ◌≤◌}
use Rattle.netlist.specs.Circuit.{var_of, most}
use Rattle.workload_gen.specs.Gates.{Draft, next}
use Rattle.workload_gen.proofs.SequenceLemmas.{IsDraft-push}
use Rattle.workload_gen.proofs.builder.Builder.and.Goals as goal

pub invariant_of-self-2 : goal.invariant_of-self-2
invariant_of-self-2 c =
    let back = sym c.self.view_is in
    let x = subst (λ (d : Draft). var_of c.args.x < next d) back c.requires.x in
    let y = subst (λ (d : Draft). var_of c.args.y < next d) back c.requires.y in
    let room = subst (λ (d : Draft). next d ≤ most) back c.requires.room in
    IsDraft-push _ _ _ _ c.self.invariant c.in_ok-push.ensures.items (omega arith) (omega (arith, x, y)) (omega arith) (omega (arith, room))
