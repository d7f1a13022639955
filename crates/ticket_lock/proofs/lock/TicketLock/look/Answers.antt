use Rattle.std.proofs.Common.{◌∙◌, sym, ap, subst, arith}
use Rattle.ticket_lock.specs.Lock.{Lock}
use Rattle.ticket_lock.specs.Views.{member_of}
use Rattle.ticket_lock.specs.Claims.{Learns}
use Rattle.ticket_lock.proofs.Turns.{look_seat}
use Rattle.ticket_lock.proofs.lock.TicketLock.look.Goals as goal

pub load-requires : goal.load-requires
load-requires g c =
    let p = c.args.place.now in
    let m = member_of p.me.0 in
    let key = c.self.inside.table.shared.key in
    let sized = c.self.invariant in
    let learns = subst (λ (l : Lock g.row.K.Denot). Learns (g.C.Claim.holds l.about) m (g.L.Lesson.fact m)) (sym c.self.view_is) c.requires.learns in (
      c.requires.own ∙ sym (ap (λ l. l.table) c.self.view_is),
      rw sized.0 (omega arith),
      rw sized.1 (look_seat (g.C.Claim.holds key) g.L.Lesson.fact p.id c.args.ticket p.me c.requires.line learns),
    )
