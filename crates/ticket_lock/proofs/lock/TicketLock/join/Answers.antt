use Rattle.std.proofs.Common.{◌∙◌, sym, ap, subst, arith}
use Rattle.ticket_lock.specs.Lock.{Lock}
use Rattle.ticket_lock.specs.Views.{member_of}
use Rattle.ticket_lock.specs.Claims.{Merges}
use Rattle.ticket_lock.proofs.Ends.{join_goes}
use Rattle.ticket_lock.proofs.lock.TicketLock.join.Goals as goal

pub join_seat-requires : goal.join_seat-requires
join_seat-requires g c =
    let p = c.args.place.now in
    let o = c.args.other in
    let key = c.self.inside.table.shared.key in
    let sized = c.self.invariant in
    let merges =
    subst (λ (l : Lock g.row.K.Denot). Merges (g.C.Claim.holds l.about) (member_of p.me.0) (member_of o.me.0) g.M.Join.both g.M.Join.spent)
    (sym c.self.view_is) c.requires.merges in (
      c.requires.own.0 ∙ sym (ap (λ l. l.table) c.self.view_is),
      c.requires.own.1 ∙ sym (ap (λ l. l.table) c.self.view_is),
      c.requires.other_idle.1,
      rw sized.0 (omega arith),
      join_goes (g.C.Claim.holds key) p.id o.id p.me.0 o.me.0 g.M.Join.both g.C.Claim.blank g.M.Join.spent c.requires.idle.0
          c.requires.other_idle.0 merges,
    )
