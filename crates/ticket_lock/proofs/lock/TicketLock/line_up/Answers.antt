use Rattle.std.proofs.Common.{◌∙◌, sym, ap, arith}
use Rattle.ticket_lock.proofs.Steps.{ticket_goes}
use Rattle.ticket_lock.proofs.lock.TicketLock.line_up.Goals as goal

pub fetch_add-requires : goal.fetch_add-requires
fetch_add-requires g c =
    let p = c.args.place.now in
    let key = c.self.inside.table.shared.key in
    let sized = c.self.invariant in
    let idle = c.requires.idle in (
      c.requires.own ∙ sym (ap (λ l. l.table) c.self.view_is),
      rw sized.0 (omega arith),
      rw sized.1 (ticket_goes (g.C.Claim.holds key) p.id p.me.0 p.me.1 idle.0.waits idle.0.holds c.requires.left),
    )
