use Rattle.std.proofs.Common.{◌∙◌, sym}
use Rattle.solver_plain.proofs.SearchLemmas.{free-first, decided-clause, decided-over, decided-clashes, deciding-next, deciding-less, learned-for}
use Rattle.solver_plain.proofs.ModelLemmas.{model-full}
use Rattle.solver_plain.proofs.search.decide_in_order.Goals as goal

pub decide-requires-clause-free : goal.decide-requires-clause-free
decide-requires-clause-free c = free-first c.args.formula.now c.loop-variable.set c.in-Some.variable (sym c.in-Some.ensures)

pub learned-requires-clause-clause : goal.learned-requires-clause-clause
learned-requires-clause-clause c =
    rw (c.as_slice.ensures.value, c.in_ok-push.ensures.items)
    (decided-clause c.args.formula.now c.args.target.now c.loop-variable.clause.items c.loop-variable.set c.in-Some.variable
    c.loop-variable.invariant (free-first c.args.formula.now c.loop-variable.set c.in-Some.variable (sym c.in-Some.ensures)))

pub learned-requires-clause-over : goal.learned-requires-clause-over
learned-requires-clause-over c =
    rw (c.as_slice.ensures.value, c.in_ok-push.ensures.items)
    (decided-over c.args.formula.now c.args.target.now c.loop-variable.clause.items c.loop-variable.set c.in-Some.variable
    c.loop-variable.invariant (free-first c.args.formula.now c.loop-variable.set c.in-Some.variable (sym c.in-Some.ensures)))

pub learned-requires-clause-clashes : goal.learned-requires-clause-clashes
learned-requires-clause-clashes c =
    rw (c.as_slice.ensures.value, c.in_ok-push.ensures.items)
    (decided-clashes c.args.formula.now c.args.target.now c.loop-variable.clause.items c.loop-variable.set c.in-Some.variable
    c.loop-variable.invariant (free-first c.args.formula.now c.loop-variable.set c.in-Some.variable (sym c.in-Some.ensures))
    (rw c.if-branch.true at c.in_ok-decide.ensures.clash))

pub returns-then-branch : goal.returns-then-branch
returns-then-branch c =
    learned-for c.args.formula.now c.args.target.now c.loop-variable.clause.items c.loop-variable.set c.in-Some.variable
    c.loop-variable.invariant (free-first c.args.formula.now c.loop-variable.set c.in-Some.variable (sym c.in-Some.ensures))
    c.args.set c.requires.undecided c.in_ok-learned.field-0
    (c.in_ok-learned.ensures.clause ∙ c.as_slice.ensures.value ∙ c.in_ok-push.ensures.items) c.in_ok-learned.ensures.step

pub loop-variable-smaller : goal.loop-variable-smaller
loop-variable-smaller c =
    deciding-less c.args.formula.now c.args.target.now c.loop-variable.clause.items c.loop-variable.set c.in-Some.variable
    c.loop-variable.invariant (free-first c.args.formula.now c.loop-variable.set c.in-Some.variable (sym c.in-Some.ensures))
    c.decide.new.set (rw c.if-branch.false at c.in_ok-decide.ensures.closure)

pub loop-variable-preserved : goal.loop-variable-preserved
loop-variable-preserved c =
    rw c.in_ok-push.ensures.items
    (deciding-next c.args.formula.now c.args.target.now c.loop-variable.clause.items c.loop-variable.set c.in-Some.variable
    c.loop-variable.invariant (free-first c.args.formula.now c.loop-variable.set c.in-Some.variable (sym c.in-Some.ensures))
    c.decide.new.set (rw c.if-branch.false at c.in_ok-decide.ensures.closure))

pub returns : goal.returns
returns c =
    rw c.in_ok-model.ensures
    (model-full c.args.formula.now c.args.target.now c.loop-variable.clause.items c.loop-variable.set c.loop-variable.invariant
    (sym c.in_default.ensures))
