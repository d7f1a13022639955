use Rattle.std.proofs.Common.{◌≡◌, []}
use Rattle.ticket_lock.specs.Views.{in_line}
use Rattle.ticket_lock.proofs.lock.TicketLock.come_in.Given as goal

abbrev pub invariant-loop : goal.invariant-loop
invariant-loop g l =
    record {
      auto : (goal.iterator-loop g).can_next l.iterator' × (goal.iterator-loop g).is_finite l.iterator';
      table : l.place.table_id ≡ l.fn.place.table_id;
      me : l.place.me ≡ (in_line l.fn.place.me.0 l.ticket, []);
    }
