use Rattle.std.proofs.Common.{◌∙◌, sym, ap, subst, arith}
use Rattle.ticket_lock.specs.Lock.{Lock}
use Rattle.ticket_lock.specs.Views.{member_of}
use Rattle.ticket_lock.specs.Claims.{Parts}
use Rattle.ticket_lock.proofs.Steps.{cut_goes}
use Rattle.ticket_lock.proofs.lock.TicketLock.cut_by.Goals as goal

pub split_seat-requires : goal.split_seat-requires
split_seat-requires g c =
    let p = c.args.place.now in
    let key = c.self.inside.table.shared.key in
    let sized = c.self.invariant in
    let parts =
    subst (λ (l : Lock g.row.K.Denot). Parts (g.C.Claim.holds l.about) (member_of p.me.0) g.M.Split.left g.M.Split.right) (sym c.self.view_is)
    c.requires.parts in (
      c.requires.own ∙ sym (ap (λ l. l.table) c.self.view_is),
      rw sized.0 (omega arith),
      cut_goes (g.C.Claim.holds key) p.id g.N.Amount.amount p.me.0 p.me.1 g.M.Split.left g.M.Split.right c.requires.cutting
          (rw (sym c.requires.told) c.requires.few) parts,
    )
