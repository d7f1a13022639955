-- The cone is a base, both nodes occur in it, and each answer settles the pair.
use Rattle.std.proofs.Common.{◌≡◌, List, true, not, sym, ◌∙◌, ap, subst}
use Rattle.lits.specs.declared.step.Named.{Named}
use Rattle.lits.specs.declared.step.Step.{Step}
use Rattle.unit_prop.specs.Log.{IsBase}
use Rattle.flat_base.specs.Flat.{Flat, named_of}
use Rattle.lemma_book.proofs.Facts.{cone-base}
use Rattle.cone_query.specs.Asked.{IsQuery, seeds_of}
use Rattle.cone_query.proofs.PairLemmas.{if_ok-all, on_ok-all}
use Rattle.cone_query.proofs.StartLemmas.{query-start, named-unnamed}
use Rattle.cone_query.proofs.pair_query.settle.Goals as goal

pub start_flat-requires : goal.start_flat-requires
start_flat-requires g c =
    subst (λ (f : Flat). IsBase (named_of f)) (sym c.base.ensures)
    (cone-base c.args.net.now _ c.requires.pair.net_is (seeds_of c.args.task.now) (named_of c.make_cone.new.cones.base)
    (c.in_ok-make_cone.ensures.cone c.if-not-branch.false))

pub both_ways-requires-clause-query : goal.both_ways-requires-clause-query
both_ways-requires-clause-query g c κs within =
    let base = named_of c.make_cone.new.cones.base in
    subst (λ (b : List Named). IsQuery c.args.net.now c.args.seen.now c.args.task.now b (g.R.Refuter.log_of c.start_flat.new.self) c.sweep_budget-left.result)
    (sym (c.in_ok-start_flat.ensures.base ∙ ap named_of c.base.ensures))
    (subst (λ (l : List Step). IsQuery c.args.net.now c.args.seen.now c.args.task.now base l c.sweep_budget-left.result)
    (sym c.in_ok-start_flat.ensures.empty)
    (query-start c.args.net.now c.args.seen.now c.args.task.now c.requires.pair base
    (c.in_ok-make_cone.ensures.cone c.if-not-branch.false) c.requires.gate (c.in_ok-make_cone.ensures.named c.if-not-branch.false)
    c.sweep_budget-left.result c.sweep_budget-left.ensures.budget))

pub returns-clause-alone : goal.returns-clause-alone
returns-clause-alone g c =
    if_ok-all _ c.both_ways.result (λ e u. named-unnamed c.args.net.now c.args.seen.now.entries c.args.task.now
    (c.in_ok-make_cone.ensures.named c.if-not-branch.false) u)

pub returns-clause-unasked : goal.returns-clause-unasked
returns-clause-unasked g c =
    on_ok-all _ c.both_ways.result (λ u. named-unnamed c.args.net.now c.args.seen.now.entries c.args.task.now
    (c.in_ok-make_cone.ensures.named c.if-not-branch.false) u)
