use Rattle.sweep_workers.specs.Asked.{questions}
use Rattle.sweep_workers.proofs.ClosedLemmas.{answered-closed}
use Rattle.sweep_workers.proofs.round.settle_round.Goals as goal

pub returns : goal.returns
returns g c =
    let done = c.in_ok-pass.ensures in
    answered-closed c.args.round.board (questions c.args.round.tasks.items) c.in_ok-pass.pass _ _ _ _ done.works done.end c.close-book.ensures
