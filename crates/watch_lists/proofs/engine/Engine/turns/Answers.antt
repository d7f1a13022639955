use Rattle.std.proofs.Common.{refl, subst, arith, Option, ℕ}
use Rattle.watch_lists.specs.State.{IsTurnEnd}
use Rattle.watch_lists.proofs.TurnLemmas.{turn-next_in, turn-end, stays-trans, stays-holds, stays_refl}
use Rattle.watch_lists.proofs.TrailLemmas.{trail-most}
use Rattle.watch_lists.proofs.engine.Engine.turns.Goals as goal

pub turn-requires : goal.turn-requires
turn-requires c = turn-next_in _ c.index.result.now c.flip-lit.result c.loop-self.invariant.engine (omega arith) c.index.ensures c.flip-lit.ensures

pub loop-self-smaller : goal.loop-self-smaller
loop-self-smaller c =
    let most = trail-most c.loop-self.invariant.engine.trail in
    let keeps = c.turn.ensures.keeps in
    let head = keeps.head in
    let size = keeps.size in
    omega arith

pub loop-self-preserved : goal.loop-self-preserved
loop-self-preserved c = record {
  engine = turn-end c.turn.new.self _ c.flip-lit.result _ (subst (λ (r : Option ℕ). IsTurnEnd c.turn.new.self c.flip-lit.result r) c.in-None.is c.in_ok-clause.ensures.ok) (omega arith) (record { clauses = refl; pairs = refl; lists = refl; levels = refl; head = refl; trail = refl; reasons = refl; truth = refl; places = refl });
  stays = let s = stays-trans c.args.self.now c.loop-self.self c.turn.new.self c.loop-self.invariant.stays (stays-holds c.loop-self.self c.turn.new.self c.turn.ensures.keeps) in record { clauses = s.clauses; levels = s.levels; size = s.size; pairs = s.pairs; grows = s.grows };
}

pub loop-self-init : goal.loop-self-init
loop-self-init c = record { engine = c.requires; stays = stays_refl _ }

pub returns-in_err-clause-clause-keeps : goal.returns-in_err-clause-clause-keeps
returns-in_err-clause-clause-keeps c = stays-trans _ _ _ c.loop-self.invariant.stays (stays-holds _ _ c.turn.ensures.keeps)

pub returns-in-Some-clause-keeps : goal.returns-in-Some-clause-keeps
returns-in-Some-clause-keeps c = stays-trans _ _ _ c.loop-self.invariant.stays (stays-holds _ _ c.turn.ensures.keeps)

pub overflow_add-self : goal.overflow_add-self
overflow_add-self c = omega (arith, c.turn.ensures.keeps.head, c.loop-self-test.true, c.len.type_inv)

pub returns-in-Some-clause-ok : goal.returns-in-Some-clause-ok
returns-in-Some-clause-ok c = subst (λ (r : Option ℕ). IsTurnEnd c.turn.new.self c.flip-lit.result r) c.in-Some.is c.in_ok-clause.ensures.ok

pub returns-clause-ok : goal.returns-clause-ok
returns-clause-ok c =
    (c.loop-self.invariant.engine, omega (arith, c.loop-self-test.false, c.len.ensures, c.loop-self.invariant.engine.trail.head_most))
