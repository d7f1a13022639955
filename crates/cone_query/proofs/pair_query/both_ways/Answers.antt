-- Both implications are shown, or an answer settles the pair.
use Rattle.std.proofs.Common.{[], ◌∷◌, ap}
use Rattle.lits.specs.declared.literal.Lit.{Lit}
use Rattle.netlist.specs.Miter.{positive}
use Rattle.cone_query.proofs.PairLemmas.{merged-settles, merged-built}
use Rattle.cone_query.proofs.pair_query.both_ways.Goals as goal

pub returns-in-Shown-2-clause-settles : goal.returns-in-Shown-2-clause-settles
returns-in-Shown-2-clause-settles g c =
    merged-settles c.args.net.now c.args.seen.now c.args.task.now c.requires.pair
    (g.R.Refuter.base_of c.args.refuter.now) (g.R.Refuter.base_of c.ask.new.refuter) (g.R.Refuter.base_of c.ask-2.new.refuter)
    (g.R.Refuter.log_of c.args.refuter.now) (g.R.Refuter.log_of c.ask.new.refuter) (g.R.Refuter.log_of c.ask-2.new.refuter) c.log.result.now
    c.ask.new.left c.ask-2.new.left (c.not.result ∷ c.args.task.now.lit ∷ []) (positive c.args.task.now.node ∷ c.not-2.result ∷ [])
    c.in_ok-step.field-0 c.in_ok-back.field-0 c.in-Shown.step c.in-Shown-2.back
    c.merged.result c.in_ok-step.ensures.base c.in_ok-back.ensures.base c.in_ok-step.ensures.asked c.in-Shown.is
    (ap (λ (l : Lit). l ∷ c.args.task.now.lit ∷ []) c.not.ensures)
    c.in_ok-back.ensures.asked c.in-Shown-2.is
    (ap (λ (l : Lit). positive c.args.task.now.node ∷ l ∷ []) c.not-2.ensures)
    c.in_ok-back.ensures.query c.log.ensures c.merged.ensures

pub returns-in-Shown-2-clause-built : goal.returns-in-Shown-2-clause-built
returns-in-Shown-2-clause-built g c =
    merged-built c.args.net.now c.args.seen.now c.args.task.now c.requires.pair
    (g.R.Refuter.base_of c.args.refuter.now) (g.R.Refuter.base_of c.ask.new.refuter)
    (g.R.Refuter.log_of c.args.refuter.now) (g.R.Refuter.log_of c.ask.new.refuter) (g.R.Refuter.log_of c.ask-2.new.refuter) c.log.result.now
    c.ask.new.left c.ask-2.new.left (c.not.result ∷ c.args.task.now.lit ∷ []) (positive c.args.task.now.node ∷ c.not-2.result ∷ [])
    c.in_ok-step.field-0 c.in_ok-back.field-0 c.in-Shown.step c.in-Shown-2.back c.merged.result
    c.in_ok-step.ensures.asked c.in-Shown.is (ap (λ (l : Lit). l ∷ c.args.task.now.lit ∷ []) c.not.ensures)
    c.in_ok-back.ensures.asked c.in-Shown-2.is (ap (λ (l : Lit). positive c.args.task.now.node ∷ l ∷ []) c.not-2.ensures)
    c.log.ensures c.merged.ensures
