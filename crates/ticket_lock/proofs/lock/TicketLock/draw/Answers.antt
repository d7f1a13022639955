use Rattle.std.proofs.Common.{◌∙◌, sym, ap, subst, arith}
use Rattle.ticket_lock.specs.Lock.{Lock}
use Rattle.ticket_lock.specs.Views.{member_of}
use Rattle.ticket_lock.specs.Claims.{Draws}
use Rattle.ticket_lock.proofs.Steps.{draws_go}
use Rattle.ticket_lock.proofs.lock.TicketLock.draw.Goals as goal

pub fetch_add-requires : goal.fetch_add-requires
fetch_add-requires g c =
    let p = c.args.place.now in
    let m = member_of p.me.0 in
    let key = c.self.inside.table.shared.key in
    let sized = c.self.invariant in
    let idle = c.requires.idle in
    let draws =
    subst (λ (l : Lock g.row.K.Denot). Draws (g.C.Claim.holds l.about) m (g.D.Drawing.after m) (g.D.Drawing.told m)) (sym c.self.view_is)
    c.requires.draws in (
      c.requires.own ∙ sym (ap (λ l. l.table) c.self.view_is),
      rw sized.0 (omega arith),
      rw sized.1
          (draws_go (g.C.Claim.holds key) p.id p.me.0 p.me.1 g.D.Drawing.after g.D.Drawing.told idle.0.waits idle.0.holds c.requires.left draws),
    )
