use Rattle.sweep_workers.specs.Asked.{questions}
use Rattle.std.proofs.Common.{length}
use Rattle.sweep_workers.proofs.WorkLemmas.{works-joined, end-joined}
use Rattle.sweep_workers.proofs.fan.joined.Goals as goal

pub returns-clause-works : goal.returns-clause-works
returns-clause-works c =
    works-joined c.args.round.now.board (questions c.args.round.now.tasks.items) c.args.first c.args.second c.join.new.self
    c.join.ensures.joined c.requires.first c.requires.second

pub returns-clause-end : goal.returns-clause-end
returns-clause-end c =
    end-joined (length (questions c.args.round.now.tasks.items)) c.args.first c.args.second c.join.new.self c.join.ensures.joined
    c.requires.end
