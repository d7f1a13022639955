-- What one worker settles, and then the others.
use Rattle.std.proofs.Common.{List, take, subst}
use Rattle.sweep_workers.specs.declared.asked.Asked.{Asked}
use Rattle.sweep_workers.specs.Asked.{questions}
use Rattle.sweep_workers.specs.Answered.{AreAnswered}
use Rattle.sweep_workers.proofs.AnswerLemmas.{if-ok}
use Rattle.sweep_workers.proofs.AloneLemmas.{answered-rest, askable-rest}
use Rattle.sweep_workers.proofs.round.round.Goals as goal

pub returns : goal.returns
returns g c =
    if-ok c.share_out.result (λ r. AreAnswered c.args.net.now (questions c.in_ok-rest.rest.items) c.in_ok-book.book r.0)
    (λ r. AreAnswered c.args.net.now (questions c.args.tasks.items) c.args.book r.0) c.share_out.ensures
    (λ r done. answered-rest c.args.net.now c.args.tasks.items c.in_ok-rest.rest.items c.in_ok-book.settled c.args.book c.in_ok-book.book r.0
    c.in_ok-rest.ensures
    (subst (λ (ts : List Asked). AreAnswered c.args.net.now (questions (take c.in_ok-book.settled ts)) c.args.book c.in_ok-book.book)
    c.as_slice-all.ensures.value c.in_ok-book.ensures.answered)
    done)

pub share_out-requires-clause-askable : goal.share_out-requires-clause-askable
share_out-requires-clause-askable g c κs lives =
    askable-rest c.args.net.now c.args.tasks.items c.in_ok-rest.rest.items c.in_ok-book.settled c.in_ok-rest.ensures c.requires.askable
