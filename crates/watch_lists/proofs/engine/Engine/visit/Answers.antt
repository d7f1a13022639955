use Rattle.std.proofs.Common.{refl, ap, ◌∙◌}
use Rattle.watch_lists.specs.State.{list_at}
use Rattle.watch_lists.specs.declared.lists.Watch.{Watch}
use Rattle.watch_lists.proofs.VisitLemmas.{turn-next, read-watch, met-blocker, mark-true, mark-false, blocker-within, blocker-in, others-two}
use Rattle.watch_lists.proofs.engine.Engine.visit.Goals as goal

pub returns-then-index-clause-ok : goal.returns-then-index-clause-ok
returns-then-index-clause-ok c =
    let e = c.args.self.now in
    let turn = c.requires.turn in
    let read = read-watch (list_at e.lists c.args.lit) c.args.at c.get-watch.result c.requires.at c.get-watch.ensures in
    let within = blocker-within turn c.get-watch.result c.requires.at read in
    let holds = mark-true turn.engine.trail c.get-watch.result.blocker c.index.result.now within c.index.ensures c.if-index.true in
    let met = met-blocker turn.engine.watched c.args.lit c.args.at c.get-watch.result c.requires.at read holds in
    (turn-next turn c.get-watch.result.clause (ap (λ (w : Watch). w.clause) read) met, refl)

pub force-requires-clause-clause : goal.force-requires-clause-clause
force-requires-clause-clause c =
    let read = read-watch (list_at c.args.self.now.lists c.args.lit) c.args.at c.get-watch.result c.requires.at c.get-watch.ensures in
    ap (λ (w : Watch). w.clause) read

pub force-requires-clause-inside : goal.force-requires-clause-inside
force-requires-clause-inside c =
    let read = read-watch (list_at c.args.self.now.lists c.args.lit) c.args.at c.get-watch.result c.requires.at c.get-watch.ensures in
    blocker-in c.requires.turn c.get-watch.result c.requires.at read

pub force-requires-clause-missing : goal.force-requires-clause-missing
force-requires-clause-missing c =
    let trail = c.requires.turn.engine.trail in
    trail.marks c.get-watch.result.blocker ∙ mark-false trail c.get-watch.result.blocker c.index.result.now c.index.ensures c.if-index.false

pub force-requires-clause-negated : goal.force-requires-clause-negated
force-requires-clause-negated c =
    let read = read-watch (list_at c.args.self.now.lists c.args.lit) c.args.at c.get-watch.result c.requires.at c.get-watch.ensures in
    others-two c.requires.turn c.get-watch.result c.requires.at read c.if-watch.true
