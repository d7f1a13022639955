use Rattle.std.proofs.Common.{List, map, sym, subst, ap, ◌∙◌}
use Rattle.std.specs.List.{AllByRecursion}
use Rattle.lemma_book.specs.declared.entry.Task.{Task}
use Rattle.lemma_book.specs.Good.{IsEarlier}
use Rattle.cone_query.specs.Query.{IsGate}
use Rattle.sweep_workers.specs.declared.asked.Asked.{Asked}
use Rattle.sweep_workers.specs.declared.asked.Asked.TheVariants.{Pair}
use Rattle.sweep_workers.specs.Asked.{IsAskable}
use Rattle.sweep_workers.proofs.AnswerLemmas.{known-within, pairs-askable, sweeps-round, tasks-due}
use Rattle.sweep_workers.proofs.PartLemmas.{all-part, rising-part, round-part}
use Rattle.sweep_workers.proofs.rounds.settle_due.Goals as goal

pub round-requires-clause-askable : goal.round-requires-clause-askable
round-requires-clause-askable g c κs lives =
    let net = c.args.net.now in
    let now = c.in_ok-now.now.items in
    let due = tasks-due net c.args.swept.book.entries c.args.swept.pool.patterns c.args.due.now c.requires.due in
    let is = c.in_ok-tasks.ensures ∙ ap (λ (ts : List Task). map Pair ts) c.as_slice-part.ensures.value in
    subst (λ (ts : List Asked). AllByRecursion (IsAskable net) ts) (sym is)
    (pairs-askable net now (all-part (λ t. IsGate t.node × IsEarlier net t.node t.lit) now c.args.due.now c.in_ok-now.ensures.part due))

pub join_inputs-requires-clause-from : goal.join_inputs-requires-clause-from
join_inputs-requires-clause-from g c =
    known-within c.args.net.now _ c.args.swept.book _ _ c.in_ok-book.ensures c.len-known.ensures

pub returns : goal.returns
returns g c =
    let net = c.args.net.now in
    let now = c.in_ok-now.now.items in
    let is = c.in_ok-tasks.ensures ∙ ap (λ (ts : List Task). map Pair ts) c.as_slice-part.ensures.value in
    round-part net now c.args.due.now c.args.swept.book _ c.args.swept.pool c.join_inputs.new.pool c.in_ok-now.ensures.part
    (sweeps-round net now c.in_ok-tasks.tasks.items c.args.swept.book _ c.args.swept.pool c.join_inputs.new.pool _ is
    (rising-part net now c.args.due.now c.in_ok-now.ensures.part c.requires.due.rising) c.in_ok-book.ensures c.len-known.ensures
    c.in_ok-join_inputs.ensures.inputs c.in_ok-join_inputs.ensures.patterns)
