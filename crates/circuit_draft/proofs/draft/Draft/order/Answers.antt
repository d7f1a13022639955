use Rattle.std.proofs.Common.{sym}
use Rattle.circuit_draft.proofs.FinishLemmas.{IsFinished-order}
use Rattle.circuit_draft.proofs.draft.Draft.order.Goals as goal

pub returns-then-is_in_order-clause-ok : goal.returns-then-is_in_order-clause-ok
returns-then-is_in_order-clause-ok c = IsFinished-order c.args.self.now c.requires (sym c.in_default.ensures) (sym c.if-is_in_order.ensures)
