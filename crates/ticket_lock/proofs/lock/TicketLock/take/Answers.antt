use Rattle.std.proofs.Common.{◌∙◌, sym, ap}
use Rattle.ticket_lock.proofs.Turns.{slot_held}
use Rattle.ticket_lock.proofs.lock.TicketLock.take.Goals as goal

pub exchange-requires : goal.exchange-requires
exchange-requires g c =
    let p = c.args.place.now in
    (c.requires.own ∙ sym (ap (λ l. l.table) c.self.view_is), slot_held p.me.1 p.me.0.taken c.requires.there)
