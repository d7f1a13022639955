use Rattle.std.proofs.Common.{subst}
use Rattle.netlist.specs.Net.{AigPair}
use Rattle.sweep_workers.specs.Asked.{question_in, questions}
use Rattle.sweep_workers.specs.Working.{Told}
use Rattle.sweep_workers.proofs.WorkLemmas.{works-told}
use Rattle.sweep_workers.proofs.work.settle.Goals as goal

pub returns-in-Ok-clause-works : goal.returns-in-Ok-clause-works
returns-in-Ok-clause-works g c =
    works-told c.args.round.now.board (questions c.args.round.now.tasks.items) (question_in c.args.asked) c.args.pass.now
    c.tell.new.pass c.refresh.new.self c.in-Ok._known c.requires.owes c.in_ok-tell.ensures.spent.table c.refresh.ensures.spent.table
    (subst (λ (net : AigPair). Told net (question_in c.args.asked) c.args.pass.now c.tell.new.pass) c.requires.round.net_is c.in_ok-tell.ensures.told)
    c.in-Ok.ensures.ok
