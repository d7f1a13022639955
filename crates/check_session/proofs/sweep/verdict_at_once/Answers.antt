use Rattle.std.proofs.lemmas.Result.{IfOk-weaker}
use Rattle.check_session.proofs.BegunLemmas.{plain-equal}
use Rattle.check_session.proofs.SweptLemmas.{found-at_once, goes_on-at_once}
use Rattle.check_session.proofs.sweep.verdict_at_once.Goals as goal

pub verdict_told-requires-clause-entries : goal.verdict_told-requires-clause-entries
verdict_told-requires-clause-entries c = plain-equal c.args.book.entries c.requires.begun.equal

pub returns-clause-goes_on : goal.returns-clause-goes_on
returns-clause-goes_on c =
    IfOk-weaker c.verdict_told.result _ _
    (λ x tells. goes_on-at_once c.args.net.now c.args.book c.args.pool c.args.difference x tells) c.verdict_told.ensures

pub returns-clause-found : goal.returns-clause-found
returns-clause-found c =
    IfOk-weaker c.verdict_told.result _ _
    (λ x tells begun of from.
    found-at_once c.args.net.now c.args.options begun c.args.pool c.args.book c.args.difference x of from c.requires.begun tells)
    c.verdict_told.ensures
