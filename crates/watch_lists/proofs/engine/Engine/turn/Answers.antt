-- A watch that stays is behind, one that goes shortens the list, and a clause that clashes ends the turn.
use Rattle.std.proofs.Common.{ℕ, arith, subst}
use Rattle.watch_lists.specs.State.{IsTurn, IsVisited}
use Rattle.watch_lists.specs.declared.engine.Visit.{Visit}
use Rattle.watch_lists.proofs.TurnLemmas.{holds-trans, holds_refl}
use Rattle.watch_lists.proofs.engine.Engine.turn.Goals as goal

pub loop-at-init : goal.loop-at-init
loop-at-init c = record { turn = c.requires; most = omega arith; keeps = holds_refl _ }

pub returns-in_err-visit-clause-keeps : goal.returns-in_err-visit-clause-keeps
returns-in_err-visit-clause-keeps c = holds-trans _ _ _ c.loop-at.invariant.keeps c.visit.ensures.keeps

pub loop-at-preserved-in-Next : goal.loop-at-preserved-in-Next
loop-at-preserved-in-Next c =
    let v = subst (λ (x : Visit). IsVisited c.loop-at.self c.visit.new.self c.args.lit c.loop-at.at x) c.in-Next.is c.in_ok-visit.ensures.ok in
    record { turn = v.0; most = omega (arith, v.1, c.loop-at-test.true, c.len.ensures); keeps = holds-trans _ _ _ c.loop-at.invariant.keeps c.visit.ensures.keeps }

pub loop-at-smaller-in-Next : goal.loop-at-smaller-in-Next
loop-at-smaller-in-Next c =
    let v = subst (λ (x : Visit). IsVisited c.loop-at.self c.visit.new.self c.args.lit c.loop-at.at x) c.in-Next.is c.in_ok-visit.ensures.ok in
    omega (arith, v.1, c.loop-at-test.true, c.len.ensures)

pub loop-at-preserved : goal.loop-at-preserved
loop-at-preserved c =
    let v = subst (λ (x : Visit). IsVisited c.loop-at.self c.visit.new.self c.args.lit c.loop-at.at x) c.in-Gone.is c.in_ok-visit.ensures.ok in
    record { turn = v.0; most = omega (arith, v.1, c.loop-at-test.true, c.len.ensures); keeps = holds-trans _ _ _ c.loop-at.invariant.keeps c.visit.ensures.keeps }

pub loop-at-smaller : goal.loop-at-smaller
loop-at-smaller c =
    let v = subst (λ (x : Visit). IsVisited c.loop-at.self c.visit.new.self c.args.lit c.loop-at.at x) c.in-Gone.is c.in_ok-visit.ensures.ok in
    omega (arith, v.1, c.loop-at-test.true, c.len.ensures)

pub returns-in-Conflict-clause-ok : goal.returns-in-Conflict-clause-ok
returns-in-Conflict-clause-ok c =
    subst (λ (x : Visit). IsVisited c.loop-at.self c.visit.new.self c.args.lit c.loop-at.at x) c.in-Conflict.is c.in_ok-visit.ensures.ok

pub returns-in-Conflict-clause-keeps : goal.returns-in-Conflict-clause-keeps
returns-in-Conflict-clause-keeps c = holds-trans _ _ _ c.loop-at.invariant.keeps c.visit.ensures.keeps

pub returns-clause-ok : goal.returns-clause-ok
returns-clause-ok c = subst (λ (n : ℕ). IsTurn c.loop-at.self c.args.lit n) (omega (arith, c.loop-at-test.false, c.len.ensures, c.loop-at.invariant.most)) c.loop-at.invariant.turn
