use Rattle.std.proofs.Common.{rules}
use Rattle.ticket_lock.proofs.Ends.{begins_at}
use Rattle.ticket_lock.proofs.lock.TicketLock.open.Goals as goal

pub new-requires : goal.new-requires
new-requires g c =
    let about = c.args.about.now in
    begins_at (g.C.Claim.holds about) g.C.Claim.blank c.args.value (g.C.Claim.first about) c.push_reserved.new.self.items (search rules) c.requires
