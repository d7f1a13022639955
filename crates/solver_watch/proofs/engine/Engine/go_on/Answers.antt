use Rattle.std.proofs.Common.{◌≡◌, ◌<◌, true, List, refl, sym, subst, ◌∙◌, arith, ℕ}
use Rattle.lits.specs.declared.literal.Lit.{Lit}
use Rattle.lits.proofs.Facts.{lit_laws}
use Rattle.unit_prop.specs.Refuter.{is_over, IsModel}
use Rattle.solver_plain.proofs.Facts.{each-at}
use Rattle.flat_base.specs.Codes.{lit_at}
use Rattle.solver_watch.specs.Known.{base_in}
use Rattle.solver_watch.specs.Assuming.{IsAssuming}
use Rattle.solver_watch.specs.Search.{IsState}
use Rattle.solver_watch.specs.declared.engine.Engine.{Engine}
use Rattle.solver_watch.proofs.AssumeLemmas.{assuming-assume, assuming-decide}
use Rattle.solver_watch.proofs.EngineLemmas.{over-numbered, known-same, over-same, refuted-reason, model-is, taken-lits, whole-here, advances}
use Rattle.solver_watch.proofs.engine.Engine.go_on.Goals as goal
use Rattle.solver_watch.proofs.engine.Engine.go_on.Goals.{then-level-self+in-All, else-level-self}

pub next_assumption-requires-clause-numbered : goal.next_assumption-requires-clause-numbered
next_assumption-requires-clause-numbered c = λ l h.
    over-numbered c.args.self.now.formula c.requires.state.known c.level.ensures.trail l
    (each-at lit_laws (λ (m : Lit). is_over (base_in c.args.self.now.formula) m ≡ true) c.args.target.now l c.requires.state.over h)

pub returns-in-Open-clause-state : goal.returns-in-Open-clause-state
returns-in-Open-clause-state c = record {
  known = known-same c.args.self.now.formula c.decide.new.self.formula c.requires.state.known c.in_ok-decide-in-Open.ensures.clauses c.decide.ensures.names
      c.in_ok-decide-in-Open.ensures.trail.clauses c.in_ok-decide-in-Open.ensures.nodes;
  over = over-same c.args.self.now.formula c.decide.new.self.formula c.args.target.now c.in_ok-decide-in-Open.ensures.clauses c.requires.state.over;
  assuming = subst (λ (n : ℕ). IsAssuming c.args.target.now c.decide.new.self.formula.trail n) (sym c.level-self.ensures)
      (assuming-assume c.args.target.now c.args.self.now.formula.trail c.decide.new.self.formula.trail c.args.self.now.assumed
      (lit_at c.args.self.now.formula.trail.nodes c.in-Open.code) c.in_ok-decide-in-Open.ensures.trail c.level.ensures.trail
      c.requires.state.assuming (sym c.level.ensures.level ∙ c.if-level-self.true) c.in-Open.ensures.1);
}

pub refutation-requires-clause-refuted : goal.refutation-requires-clause-refuted
refutation-requires-clause-refuted c =
    refuted-reason c.args.self.now.formula.trail c.args.target.now c.args.self.now.assumed c.in-Refuted.by c.in-Refuted.ensures.0
    c.level.ensures.trail c.requires.state.assuming (sym c.level.ensures.level ∙ c.if-level-self.true)
    c.in-Refuted.ensures.1 c.in-Refuted.ensures.2 c.in-Refuted.ensures.3

pub returns-in_ok-decide-in-Some-clause-state : goal.returns-in_ok-decide-in-Some-clause-state
returns-in_ok-decide-in-Some-clause-state c = record {
  known = known-same c.args.self.now.formula c.decide-in-Some.new.self.formula c.requires.state.known c.in_ok-decide-in-Some.ensures.clauses c.decide-in-Some.ensures.names
      c.in_ok-decide-in-Some.ensures.trail.clauses c.in_ok-decide-in-Some.ensures.nodes;
  over = over-same c.args.self.now.formula c.decide-in-Some.new.self.formula c.args.target.now c.in_ok-decide-in-Some.ensures.clauses c.requires.state.over;
  assuming = subst (λ (n : ℕ). IsAssuming c.args.target.now c.decide-in-Some.new.self.formula.trail n) (sym c.in_ok-decide-in-Some.ensures.assumed)
      (assuming-decide c.args.target.now c.args.self.now.formula.trail c.decide-in-Some.new.self.formula.trail c.args.self.now.assumed
      (lit_at c.args.self.now.formula.trail.nodes c.in-Some.code) c.in_ok-decide-in-Some.ensures.trail c.level.ensures.trail
      c.requires.state.assuming (λ l at h. elim c.if-level-self.branch [
        | then-level-self+in-All w ↦ w.in-All.ensures l h
        | else-level-self w ↦ absurd (w.if-level-self.false (c.level.ensures.level ∙ at))
      ]));
}

pub returns-in_ok-model-in-None-clause-found : goal.returns-in_ok-model-in-None-clause-found
returns-in_ok-model-in-None-clause-found c = (
  subst (λ (m : List Lit). IsModel (base_in c.args.self.now.formula) c.args.target.now m) (sym c.in_ok-model-in-None.ensures)
      (model-is c.args.self.now.formula c.args.target.now c.requires.state.known c.level.ensures.trail c.requires.complete
      (taken-lits c.args.self.now.formula.trail c.in-None.ensures.none)
      (λ l h. elim c.if-level-self.branch [
        | then-level-self+in-All w ↦ w.in-All.ensures l h
        | else-level-self w ↦
            let most = c.requires.state.assuming.most in
            let below : c.args.self.now.assumed < c.args.self.now.formula.trail.last = omega (arith, w.if-level-self.false, c.level.ensures.level) in
            whole-here c.args.self.now.formula.trail c.args.target.now c.args.self.now.assumed c.requires.state.assuming below l h
      ])),
  refl,
)

pub returns-in_ok-decide-in-Some-clause-none : goal.returns-in_ok-decide-in-Some-clause-none
returns-in_ok-decide-in-Some-clause-none c =
    advances c.args.self.now c.decide-in-Some.new.self (lit_at c.args.self.now.formula.trail.nodes c.in-Some.code) c.in_ok-decide-in-Some.ensures.clauses
    c.in_ok-decide-in-Some.ensures.trail c.in_ok-decide-in-Some.ensures.nodes c.in_ok-decide-in-Some.ensures.room

pub returns-in-Open-clause-none : goal.returns-in-Open-clause-none
returns-in-Open-clause-none c =
    advances c.args.self.now _ (lit_at c.args.self.now.formula.trail.nodes c.in-Open.code) c.in_ok-decide-in-Open.ensures.clauses
    c.in_ok-decide-in-Open.ensures.trail c.in_ok-decide-in-Open.ensures.nodes c.in_ok-decide-in-Open.ensures.room

pub next_assumption-requires-clause-chosen : goal.next_assumption-requires-clause-chosen
next_assumption-requires-clause-chosen c =
    rw (sym c.level.ensures.level ∙ c.if-level-self.true) c.requires.state.assuming.chosen

pub decide-requires-clause-complete : goal.decide-requires-clause-complete
decide-requires-clause-complete c = c.requires.complete

pub refutation-requires-clause-known : goal.refutation-requires-clause-known
refutation-requires-clause-known c = c.requires.state.known

-- only the order is another one
pub returns-in_ok-model-in-None-clause-state : goal.returns-in_ok-model-in-None-clause-state
returns-in_ok-model-in-None-clause-state c =
    record { known = c.requires.state.known; over = c.requires.state.over; assuming = c.requires.state.assuming }

state-kept : (old new : Engine) (target : List Lit) → new.formula ≡ old.formula → new.assumed ≡ old.assumed → IsState old target → IsState new target
state-kept old new target f a s = record { known = rw f s.known; over = rw f s.over; assuming = rw (f, a) s.assuming }

pub returns-in-Refuted-clause-state : goal.returns-in-Refuted-clause-state
returns-in-Refuted-clause-state c =
    state-kept c.args.self.now c.refutation.new.self c.args.target.now c.refutation.ensures.same.0 c.refutation.ensures.same.1 c.requires.state
