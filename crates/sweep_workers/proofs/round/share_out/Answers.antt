use Rattle.std.proofs.Common.{subst, IfOk, arith}
use Rattle.board_lock.specs.Story.{Root}
use Rattle.sweep_workers.specs.Asked.{questions}
use Rattle.sweep_workers.specs.Answered.{AreAnswered}
use Rattle.sweep_workers.proofs.WorkLemmas.{round-begun, works-begun, whole-begun}
use Rattle.sweep_workers.proofs.round.share_out.Goals as goal

pub settle_round-requires-clause-round : goal.settle_round-requires-clause-round
settle_round-requires-clause-round g c κs lives =
    round-begun c.args.net.now c.args.book c.in-Ok.board c.args.tasks.items _ c.in-Ok.ensures.root c.in-Ok.ensures.tasks
    (omega (arith, c.len.ensures, c.args.tasks.ok.0))
    c.requires.askable

pub settle_round-requires-clause-works : goal.settle_round-requires-clause-works
settle_round-requires-clause-works g c κs lives =
    works-begun c.args.net.now c.args.book c.in-Ok.board (questions c.args.tasks.items) c.in-Ok.pass c.in-Ok.ensures.root c.in-Ok.ensures.pass
    c.requires.legal

pub settle_round-requires-clause-whole : goal.settle_round-requires-clause-whole
settle_round-requires-clause-whole g c κs lives = whole-begun c.in-Ok.board c.in-Ok.pass c.in-Ok.ensures.pass

pub returns-in-Ok : goal.returns-in-Ok
returns-in-Ok g c =
    subst (λ (root : Root). IfOk c.settle_round.result (λ r. AreAnswered root.net (questions c.args.tasks.items) root.opening r.0))
    c.in-Ok.ensures.root c.settle_round.ensures
