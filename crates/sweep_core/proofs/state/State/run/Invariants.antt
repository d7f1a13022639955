use Rattle.std.proofs.Common.{◌≡◌, ◌+◌, ◌≤◌, ◌^◌, ◌++◌, length}
use Rattle.std.specs.Vec.Iter.{into_iter_items, into_iter_len}
use Rattle.lemma_book.specs.Book.{IsLegal}
use Rattle.sweep_core.specs.Event.{Keeps}
use Rattle.sweep_core.specs.Run.{MayRun, IsRun}
use Rattle.sweep_core.proofs.state.State.run.Given as goal

abbrev pub invariant-loop-event : goal.invariant-loop-event
invariant-loop-event l = record {
  parts : l.yielded ++ into_iter_items l.event-iterator ≡ l.fn.events.items;
  left : into_iter_len l.event-iterator ≡ length (into_iter_items l.event-iterator);
  run : IsRun l.yielded l.fn.self l.self l.replies.items;
  may : MayRun l.net (into_iter_items l.event-iterator) l.self;
  drawn : l.self.machine.next + length (into_iter_items l.event-iterator) ≤ 2 ^ 62;
  legal : IsLegal l.net l.self.machine.book;
  keeps : Keeps l.fn.self.machine l.self.machine;
}
