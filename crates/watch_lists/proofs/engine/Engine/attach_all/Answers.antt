-- Each clause that is watched leaves one less, and one that is wholly negated ends the walk.
use Rattle.std.proofs.Common.{arith, ap, length}
use Rattle.watch_lists.proofs.TurnLemmas.{holds-trans, holds_refl}
use Rattle.watch_lists.proofs.engine.Engine.attach_all.Goals as goal

pub loop-self-init : goal.loop-self-init
loop-self-init c = record { engine = c.requires; keeps = holds_refl _ }

pub returns-in_err-attach-clause-keeps : goal.returns-in_err-attach-clause-keeps
returns-in_err-attach-clause-keeps c = holds-trans _ _ _ c.loop-self.invariant.keeps c.attach.ensures.keeps

pub returns-then-not-branch-clause-keeps : goal.returns-then-not-branch-clause-keeps
returns-then-not-branch-clause-keeps c = holds-trans _ _ _ c.loop-self.invariant.keeps c.attach.ensures.keeps

pub loop-self-preserved : goal.loop-self-preserved
loop-self-preserved c = record { engine = c.attach.ensures.engine; keeps = holds-trans _ _ _ c.loop-self.invariant.keeps c.attach.ensures.keeps }

pub loop-self-smaller : goal.loop-self-smaller
loop-self-smaller c =
    omega (arith, ap length c.attach.ensures.keeps.clauses, c.in_ok-attach.ensures.more c.if-not-branch.false, c.loop-self-test.true, c.len.ensures, c.len-in-loop-self.ensures)

pub returns-then-not-branch-clause-conflict : goal.returns-then-not-branch-clause-conflict
returns-then-not-branch-clause-conflict c = (
  c.attach.ensures.engine,
  omega (arith, ap length c.attach.ensures.keeps.clauses, c.loop-self-test.true, c.len.ensures, c.len-at.ensures, c.len-in-loop-self.ensures),
  c.in_ok-attach.ensures.conflict c.if-not-branch.true,
)

pub returns-clause-none : goal.returns-clause-none
returns-clause-none c =
    omega (arith, c.loop-self-test.false, c.len.ensures, c.len-in-loop-self.ensures, c.loop-self.invariant.engine.watched.most)
