-- Each answer settles the pair, or shows the implication and leaves the query standing.
use Rattle.std.proofs.Common.{List, length, ap, sym, subst}
use Rattle.lits.specs.declared.literal.Lit.{Lit}
use Rattle.lits.specs.declared.step.Step.{Step}
use Rattle.lemma_book.specs.Cone.{AreThere}
use Rattle.lemma_book.specs.declared.entry.Entry.TheVariants.{Apart, Spent}
use Rattle.cone_query.specs.Input.{input_from}
use Rattle.cone_query.specs.Asked.{IsAsked, IsBuiltAsked, IsImplication}
use Rattle.cone_query.specs.declared.pair_query.Asked.TheVariants.{Settled}
use Rattle.cone_query.proofs.PairLemmas.{implication-over, query-next, model-there, model-settles, log-settles, if_ok-same, on_ok-all}
use Rattle.cone_query.proofs.StartLemmas.{implication-clause}
use Rattle.cone_query.proofs.pair_query.ask.Goals as goal

pub from_slice-requires : goal.from_slice-requires
from_slice-requires g c =
    implication-clause c.args.net.now c.args.seen.now c.args.task.now c.requires.pair c.args.implication.now c.requires.implication

pub refute-requires-clause-target : goal.refute-requires-clause-target
refute-requires-clause-target g c =
    implication-over c.args.net.now c.args.seen.now c.args.task.now c.requires.pair (g.R.Refuter.base_of c.args.refuter.now)
    (g.R.Refuter.log_of c.args.refuter.now) c.args.left.now c.requires.query c.in_ok-clause.clause (subst (IsImplication c.args.task.now) (sym c.in_ok-clause.ensures) c.requires.implication)

pub apart-requires : goal.apart-requires
apart-requires g c =
    subst (AreThere c.args.net.now) (sym c.as_slice.ensures)
    (model-there c.args.net.now c.args.seen.now c.args.task.now c.requires.pair (g.R.Refuter.base_of c.args.refuter.now)
    (g.R.Refuter.log_of c.args.refuter.now) c.args.left.now c.requires.query c.in_ok-clause.clause (subst (IsImplication c.args.task.now) (sym c.in_ok-clause.ensures) c.requires.implication)
    (g.R.Refuter.log_of c.refute.new.self) c.refute.new.left c.in_ok-hints.field-0 c.in_ok-hints.ensures.answer c.in-No.model c.in-No.is)

pub returns-in-Yes-clause-query : goal.returns-in-Yes-clause-query
returns-in-Yes-clause-query g c =
    rw c.in_ok-hints.ensures.base
    (query-next c.args.net.now c.args.seen.now c.args.task.now c.requires.pair (g.R.Refuter.base_of c.args.refuter.now)
    (g.R.Refuter.log_of c.args.refuter.now) c.args.left.now c.requires.query c.in_ok-clause.clause (subst (IsImplication c.args.task.now) (sym c.in_ok-clause.ensures) c.requires.implication)
    (g.R.Refuter.log_of c.refute.new.self) c.refute.new.left c.in_ok-hints.field-0 c.in_ok-hints.ensures.answer)

pub returns-in-No-clause-asked : goal.returns-in-No-clause-asked
returns-in-No-clause-asked g c =
    if_ok-same (IsAsked c.args.net.now c.args.seen.now c.args.task.now (g.R.Refuter.base_of c.args.refuter.now) (g.R.Refuter.log_of c.args.refuter.now)
    c.args.implication.now (g.R.Refuter.log_of c.refute.new.self) c.refute.new.left)
    (Settled (Apart c.args.task.now.node c.args.task.now.lit (input_from c.args.net.now c.as_slice.result.now))) c.apart.result c.apart.ensures
    (model-settles c.args.net.now c.args.seen.now c.args.task.now c.requires.pair (g.R.Refuter.base_of c.args.refuter.now)
    (g.R.Refuter.log_of c.args.refuter.now) c.args.left.now c.requires.query c.in_ok-clause.clause (subst (IsImplication c.args.task.now) (sym c.in_ok-clause.ensures) c.requires.implication)
    (g.R.Refuter.log_of c.refute.new.self) c.refute.new.left c.in_ok-hints.field-0 c.in_ok-hints.ensures.answer c.in-No.model _ c.in-No.is
    (ap (λ (m : List Lit). Apart c.args.task.now.node c.args.task.now.lit (input_from c.args.net.now m)) c.as_slice.ensures))

pub returns-in-No-clause-query : goal.returns-in-No-clause-query
returns-in-No-clause-query g c =
    on_ok-all _ c.apart.result
    (rw c.in_ok-hints.ensures.base
    (query-next c.args.net.now c.args.seen.now c.args.task.now c.requires.pair (g.R.Refuter.base_of c.args.refuter.now)
    (g.R.Refuter.log_of c.args.refuter.now) c.args.left.now c.requires.query c.in_ok-clause.clause (subst (IsImplication c.args.task.now) (sym c.in_ok-clause.ensures) c.requires.implication)
    (g.R.Refuter.log_of c.refute.new.self) c.refute.new.left c.in_ok-hints.field-0 c.in_ok-hints.ensures.answer))

pub returns-in-Spent-clause-asked : goal.returns-in-Spent-clause-asked
returns-in-Spent-clause-asked g c =
    if_ok-same (IsAsked c.args.net.now c.args.seen.now c.args.task.now (g.R.Refuter.base_of c.args.refuter.now) (g.R.Refuter.log_of c.args.refuter.now)
    c.args.implication.now (g.R.Refuter.log_of c.refute.new.self) c.refute.new.left)
    (Settled (Spent c.args.task.now.node c.args.task.now.lit (length c.args.seen.now.entries) c.log.result.now)) c.spent.result c.spent.ensures
    (log-settles c.args.net.now c.args.seen.now c.args.task.now c.requires.pair (g.R.Refuter.base_of c.args.refuter.now)
    (g.R.Refuter.log_of c.args.refuter.now) c.args.left.now c.requires.query c.in_ok-clause.clause (subst (IsImplication c.args.task.now) (sym c.in_ok-clause.ensures) c.requires.implication)
    (g.R.Refuter.log_of c.refute.new.self) c.refute.new.left c.in_ok-hints.field-0 c.in_ok-hints.ensures.answer
    _ c.budget_log_length.ensures c.in-Spent.is
    (ap (λ (l : List Step). Spent c.args.task.now.node c.args.task.now.lit (length c.args.seen.now.entries) l) c.log.ensures))

pub returns-in-Spent-clause-query : goal.returns-in-Spent-clause-query
returns-in-Spent-clause-query g c =
    on_ok-all _ c.spent.result
    (rw c.in_ok-hints.ensures.base
    (query-next c.args.net.now c.args.seen.now c.args.task.now c.requires.pair (g.R.Refuter.base_of c.args.refuter.now)
    (g.R.Refuter.log_of c.args.refuter.now) c.args.left.now c.requires.query c.in_ok-clause.clause (subst (IsImplication c.args.task.now) (sym c.in_ok-clause.ensures) c.requires.implication)
    (g.R.Refuter.log_of c.refute.new.self) c.refute.new.left c.in_ok-hints.field-0 c.in_ok-hints.ensures.answer))

pub returns-in-No-clause-built : goal.returns-in-No-clause-built
returns-in-No-clause-built g c =
    if_ok-same (IsBuiltAsked (g.R.Refuter.log_of c.refute.new.self))
    (Settled (Apart c.args.task.now.node c.args.task.now.lit (input_from c.args.net.now c.as_slice.result.now))) c.apart.result c.apart.ensures tt

pub returns-in-Spent-clause-built : goal.returns-in-Spent-clause-built
returns-in-Spent-clause-built g c =
    if_ok-same (IsBuiltAsked (g.R.Refuter.log_of c.refute.new.self))
    (Settled (Spent c.args.task.now.node c.args.task.now.lit (length c.args.seen.now.entries) c.log.result.now)) c.spent.result c.spent.ensures
    c.log.ensures
