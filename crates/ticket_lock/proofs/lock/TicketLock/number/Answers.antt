use Rattle.std.proofs.Common.{◌∙◌, sym, ap, arith}
use Rattle.ticket_lock.proofs.Steps.{numbers_go}
use Rattle.ticket_lock.proofs.lock.TicketLock.number.Goals as goal

pub fetch_add-requires : goal.fetch_add-requires
fetch_add-requires g c =
    let p = c.args.place.now in
    let key = c.self.inside.table.shared.key in
    let sized = c.self.invariant in (
      c.requires.own ∙ sym (ap (λ l. l.table) c.self.view_is),
      rw sized.0 (omega arith),
      rw sized.1 (numbers_go (g.C.Claim.holds key) p.id p.me.0 p.me.1 c.requires.idle.0 c.requires.left),
    )
