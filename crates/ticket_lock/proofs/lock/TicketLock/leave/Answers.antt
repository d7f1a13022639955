use Rattle.std.proofs.Common.{◌∙◌, sym, ap, subst, arith}
use Rattle.ticket_lock.specs.Lock.{Lock}
use Rattle.ticket_lock.specs.Views.{member_of}
use Rattle.ticket_lock.specs.Claims.{Ends}
use Rattle.ticket_lock.proofs.Turns.{slot_held, slot_has, release_seat}
use Rattle.ticket_lock.proofs.lock.TicketLock.leave.Goals as goal

pub exchange-requires : goal.exchange-requires
exchange-requires g c =
    let inside = c.requires.inside.1 in
    (c.requires.own ∙ sym (ap (λ l. l.table) c.self.view_is), slot_held c.args.place.now.me.1 inside.0 inside.1)

pub fetch_add-requires : goal.fetch_add-requires
fetch_add-requires g c =
    let p = c.args.place.now in
    let q = c.exchange.new.seat in
    let v = p.me.0 in
    let m = member_of v in
    let key = c.self.inside.table.shared.key in
    let sized = c.self.invariant in
    let inside = c.requires.inside in
    let me = slot_has v p.me.1 inside.1.0 c.args.value q.me inside.1.1 c.exchange.ensures.3 in
    let ends =
    subst (λ (l : Lock g.row.K.Denot). Ends (g.C.Claim.holds l.about) m v.taken c.args.value (g.E.Ending.after m v.taken) (g.E.Ending.told m v.taken))
    (sym c.self.view_is) c.requires.ends in (
      c.exchange.ensures.0 ∙ (c.requires.own ∙ sym (ap (λ l. l.table) c.self.view_is)),
      rw sized.0 (omega arith),
      rw sized.1 (release_seat (g.C.Claim.holds key) g.E.Ending.after g.E.Ending.told q.id q.me v c.args.value me inside.0 ends),
    )
