use Rattle.std.proofs.Common.{ℕ, ◌≤◌, ◌≡◌, ap, length, arith, subst, Option, Result, Ok, Err}
use Rattle.std.specs.Prelude.{IfSome, IfNone, IfOk, OnErr}
use Rattle.std.proofs.lemmas.Result.{IfOk-weaker}
use Rattle.watch_lists.specs.State.{IsEngine, IsPropagated, IsStuck, Stays}
use Rattle.watch_lists.specs.declared.engine.Engine.{Engine}
use Rattle.watch_lists.proofs.LevelLemmas.{propagated, propagated-stuck, propagated-engine, conflict-clashes}
use Rattle.watch_lists.proofs.TurnLemmas.{stays-trans, stays-holds}
use Rattle.watch_lists.proofs.engine.Engine.propagate.Goals as goal

-- the engine is one whether its turns ended or memory did
after-turns : {E : Type 0} (e : Engine) (r : Result (Option ℕ) E) → IfOk r (IsPropagated e) → OnErr r (IsEngine e) → IsEngine e
after-turns e (Ok o) ok err = propagated-engine e o ok
after-turns e (Err x) ok err = err

-- no clause is left without a pair
all-watched : (mid new : Engine) → length mid.pairs.items ≡ length mid.clauses → Stays mid new → length new.clauses ≤ length new.pairs.items
all-watched mid new all stays = let p = stays.pairs in omega (arith, all, ap length stays.clauses)

pub returns-in-Some-clause-clash : goal.returns-in-Some-clause-clash
returns-in-Some-clause-clash c = conflict-clashes c.attach_all.new.self c.in-Some.clause
    (subst (λ (r : Option ℕ). IfSome r (λ i. IsStuck c.attach_all.new.self i)) c.in-Some.is c.in_ok-clause.ensures.conflict)

pub returns-in-None-clause-none : goal.returns-in-None-clause-none
returns-in-None-clause-none c =
    let all = all-watched c.attach_all.new.self c.turns.new.self (subst (λ (r : Option ℕ). IfNone r (length c.attach_all.new.self.pairs.items ≡ length c.attach_all.new.self.clauses)) c.in-None.is c.in_ok-clause.ensures.none) c.turns.ensures.keeps in
    IfOk-weaker c.turns.result _ _ (λ r h. (propagated c.turns.new.self r all h).0) c.turns.ensures.ok

pub returns-in-None-clause-clash : goal.returns-in-None-clause-clash
returns-in-None-clause-clash c =
    let all = all-watched c.attach_all.new.self c.turns.new.self (subst (λ (r : Option ℕ). IfNone r (length c.attach_all.new.self.pairs.items ≡ length c.attach_all.new.self.clauses)) c.in-None.is c.in_ok-clause.ensures.none) c.turns.ensures.keeps in
    IfOk-weaker c.turns.result _ _ (λ r h. (propagated c.turns.new.self r all h).1) c.turns.ensures.ok

pub returns-in-None-clause-some : goal.returns-in-None-clause-some
returns-in-None-clause-some c = IfOk-weaker c.turns.result _ _ (λ r h. propagated-stuck c.turns.new.self r h) c.turns.ensures.ok

pub returns-in-None-clause-stays : goal.returns-in-None-clause-stays
returns-in-None-clause-stays c =
    stays-trans c.args.self.now c.attach_all.new.self c.turns.new.self (stays-holds c.args.self.now c.attach_all.new.self c.attach_all.ensures.keeps) c.turns.ensures.keeps

pub returns-in-None-clause-engine : goal.returns-in-None-clause-engine
returns-in-None-clause-engine c = after-turns c.turns.new.self c.turns.result c.turns.ensures.ok c.turns.ensures.err

pub returns-in-Some-clause-stays : goal.returns-in-Some-clause-stays
returns-in-Some-clause-stays c = stays-holds c.args.self.now c.attach_all.new.self c.attach_all.ensures.keeps

pub returns-in_err-clause-clause-stays : goal.returns-in_err-clause-clause-stays
returns-in_err-clause-clause-stays c = stays-holds c.args.self.now c.attach_all.new.self c.attach_all.ensures.keeps

pub returns-in-Some-clause-some : goal.returns-in-Some-clause-some
returns-in-Some-clause-some c =
    subst (λ (r : Option ℕ). IfSome r (λ i. IsStuck c.attach_all.new.self i)) c.in-Some.is c.in_ok-clause.ensures.conflict

pub returns-in-Some-clause-engine : goal.returns-in-Some-clause-engine
returns-in-Some-clause-engine c = c.attach_all.ensures.engine

pub returns-in_err-clause-clause-engine : goal.returns-in_err-clause-clause-engine
returns-in_err-clause-clause-engine c = c.attach_all.ensures.engine
