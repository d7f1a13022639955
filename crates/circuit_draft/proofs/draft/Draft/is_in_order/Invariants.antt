use Rattle.std.proofs.Common.{◌≡◌, ◌+◌, length}
use Rattle.circuit_draft.proofs.OrderLemmas.{order_from}
use Rattle.circuit_draft.proofs.draft.Draft.is_in_order.Given as goal

abbrev pub invariant-loop-gate : goal.invariant-loop-gate
invariant-loop-gate l = record {
  place : l.place ≡ length l.self.inputs + 1 + l.gate-index;
  same : order_from l.self 0 ≡ order_from l.self l.gate-index;
}
