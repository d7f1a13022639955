use Rattle.std.proofs.Common.{◌≡◌, true, get_or, List, sym, subst, ◌∙◌}
use Rattle.lits.specs.Clause.{has}
use Rattle.lits.specs.Same.{same_lit, opposite}
use Rattle.lits.specs.declared.literal.Lit.{Lit}
use Rattle.watch_lists.specs.Trail.{lits_of, no_lit}
use Rattle.watch_lists.proofs.Facts.{flip-code}
use Rattle.solver_watch.proofs.ChoiceLemmas.{lit-in, refuted-forced, open-of, assumed-next, negation-there}
use Rattle.solver_watch.proofs.choice.next_assumption.Goals as goal

pub unreachable-requires-in-None-by : goal.unreachable-requires-in-None-by
unreachable-requires-in-None-by c =
    refuted-forced c.args.trail.now c.args.target.now c.in-Some-place.place (get_or c.lits-lit-items.result.now c.loop-lit.lit-index no_lit) c.lits.ensures.trail c.requires.chosen
    c.lits-lit-items.ensures.clause.apart c.in-Some-place.ensures.some.0 (c.in-Some-place.ensures.some.1 ∙ c.in-Some.ensures.some.1)
    (subst (λ (xs : List Lit). has same_lit xs (get_or c.lits-lit-items.result.now c.loop-lit.lit-index no_lit) ≡ true) c.lits-lit-items.ensures.lits
    (lit-in c.lits-lit-items.result.now c.loop-lit.lit-index no_lit c.loop-lit-test.true))
    (rw c.lits.ensures.puts at c.in-None-by.is)

pub is_true-requires : goal.is_true-requires
is_true-requires c = rw c.flip-negation.ensures (flip-code c.args.trail.now.nodes c.in-Some.code c.in-Some.ensures.some.0)

pub returns-then-not-is_true : goal.returns-then-not-is_true
returns-then-not-is_true c =
    open-of c.args.trail.now c.args.target.now c.in-Some.code c.flip-negation.result (get_or c.lits-lit-items.result.now c.loop-lit.lit-index no_lit) c.in-Some.ensures.some.0 c.in-Some.ensures.some.1
    c.flip-negation.ensures
    (subst (λ (xs : List Lit). has same_lit xs (get_or c.lits-lit-items.result.now c.loop-lit.lit-index no_lit) ≡ true) c.lits-lit-items.ensures.lits
    (lit-in c.lits-lit-items.result.now c.loop-lit.lit-index no_lit c.loop-lit-test.true))
    c.in-None.ensures.none (sym c.is_true.ensures ∙ c.if-not-is_true.true)

pub loop-lit-preserved : goal.loop-lit-preserved
loop-lit-preserved c =
    assumed-next (λ (m : Lit). has same_lit (lits_of c.args.trail.now.puts) (opposite m) ≡ true) c.lits-lit-items.result.now c.loop-lit.lit-index no_lit
    c.loop-lit-test.true c.loop-lit.invariant
    (negation-there c.args.trail.now c.in-Some.code c.flip-negation.result (get_or c.lits-lit-items.result.now c.loop-lit.lit-index no_lit) c.in-Some.ensures.some.1 c.flip-negation.ensures
    (sym c.is_true.ensures ∙ c.if-not-is_true.false))
