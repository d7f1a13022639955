use Rattle.std.proofs.Common.{ap, sym, ◌∙◌, subst}
use Rattle.std.specs.Slots.{slots_items}
use lib.ListN.{get_elem?}
use Rattle.ticket_lock.specs.Lock.{Lock}
use Rattle.ticket_lock.specs.Views.{member_of}
use Rattle.ticket_lock.specs.Claims.{Sums, Ended}
use Rattle.ticket_lock.proofs.Ends.{closes}
use Rattle.ticket_lock.proofs.lock.TicketLock.close.Goals as goal

pub returns : goal.returns
returns g c =
    let p = c.args.place in
    let made = g.C.Claim.made in
    let v = c.close_with-closed.ensures.values in
    let k = c.take-slot.ensures in
    let word = ap (λ w. get_elem? (slots_items w) 2) (sym k.others.3) ∙ c.word-drawn.ensures in
    let sums = subst (λ (l : Lock g.row.K.Denot). Sums (g.C.Claim.holds l.about) made) (sym c.self.view_is) c.requires.sums in
    subst (λ (l : Lock g.row.K.Denot). Ended (g.C.Claim.holds l.about) made (member_of p.me.0) c.take-slot.result c.word-drawn.result) c.self.view_is
    (closes (g.C.Claim.holds c.self.inside.table.shared.key) made p.id p.me.0 _ _ c.take-slot.result c.word-drawn.result c.requires.idle sums
    c.requires.whole v.2 word k.value)
