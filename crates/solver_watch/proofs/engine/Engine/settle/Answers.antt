use Rattle.std.proofs.Common.{◌≡◌, ◌-◌, ◌∙◌, ℕ, List, refl, sym, ap, subst, arith}
use Rattle.lits.specs.Same.{same_lit, opposite}
use Rattle.lits.specs.declared.literal.Lit.{Lit}
use Rattle.lits.specs.declared.step.Named.{Named}
use Rattle.lits.specs.declared.step.Ref.{Ref}
use Rattle.lits.specs.declared.step.Step.{Step}
use Rattle.unit_prop.specs.Log.{base_clause, with_own}
use Rattle.unit_prop.specs.Refuter.{Answers, IsAnswer, IsModel}
use Rattle.unit_prop.specs.Step.{IsStep}
use Rattle.unit_prop.specs.declared.refuter.Refuted.{Refuted}
use Rattle.solver_plain.specs.Formula.{Clauses, clause_named}
use Rattle.solver_plain.proofs.Facts.{IsUnderWay, way-start, way-next}
use Rattle.solver_watch.specs.Known.{clauses_known}
use Rattle.solver_watch.specs.Search.{Learns}
use Rattle.solver_watch.proofs.EngineLemmas.{over-same}
use Rattle.solver_watch.proofs.engine.Engine.settle.Goals as goal

pub loop-left-init : goal.loop-left-init
loop-left-init c = record {
  way = subst (λ (k : Clauses). IsUnderWay (clauses_known c.args.self.now.formula) c.args.target.now c.args.left.now k c.args.left.now)
      (sym c.in_ok-back.ensures.clauses) (way-start (clauses_known c.args.self.now.formula) c.args.target.now c.args.left.now);
  state = record {
    known = c.in_ok-back.ensures.known;
    over = over-same c.args.self.now.formula c.back.new.self.formula c.args.target.now c.in_ok-back.ensures.clauses c.requires.over;
    assuming = c.in_ok-back.ensures.start refl c.args.target.now;
  };
}

pub loop-left-preserved : goal.loop-left-preserved
loop-left-preserved c =
    let learns : Learns (clauses_known c.loop-left.self.formula) c.args.target.now (clauses_known c.search.new.self.formula) =
    rw c.in-Learned.is at c.in_ok-hints.ensures.found in
    record {
      way = subst (λ (k : Clauses). IsUnderWay (clauses_known c.args.self.now.formula) c.args.target.now c.args.left.now k (c.loop-left.left - 1))
          (sym c.in_ok-restart.ensures.clauses)
          (way-next (clauses_known c.args.self.now.formula) c.args.target.now c.args.left.now (clauses_known c.loop-left.self.formula)
          (clauses_known c.search.new.self.formula) c.loop-left.left learns.step c.loop-left-test.true c.loop-left.invariant.way
          learns.learned learns.is);
      state = record {
        known = c.in_ok-restart.ensures.known;
        over = over-same c.search.new.self.formula c.restart.new.self.formula c.args.target.now c.in_ok-restart.ensures.clauses
            c.in_ok-hints.ensures.state.over;
        assuming = c.in_ok-restart.ensures.assuming c.args.target.now c.in_ok-hints.ensures.state.assuming;
      };
    }

module _ (first now : Clauses) (target : List Lit) (left rest : ℕ) (way : IsUnderWay first target left now rest) (last : Clauses) (same : last ≡ now) where
  answers : (result : Refuted) → IsAnswer first.base last.log target rest result → Answers first.base target first.log left last.log rest result
  answers result answer = record {
    steps = way.steps;
    grows = ap (λ (k : Clauses). k.log) same ∙ way.grows;
    spends = way.spends;
    learned = way.learned;
    undecided = way.undecided;
    answer = answer;
  }

  base-same : last.base ≡ first.base
  base-same = ap (λ (k : Clauses). k.base) same ∙ way.base

  step-same : (hints : List Ref) → IsStep same_lit opposite (clause_named now) target hints
      → IsStep same_lit opposite (with_own (base_clause first.base) last.log) target hints
  step-same hints step =
      subst (λ (b : List Named). IsStep same_lit opposite (with_own (base_clause b) last.log) target hints) way.base
      (subst (λ (log : List Step). IsStep same_lit opposite (with_own (base_clause now.base) log) target hints) (sym (ap (λ (k : Clauses). k.log) same)) step)

  model-same : (model : List Lit) → IsModel now.base target model → IsModel first.base target model
  model-same model is = subst (λ (b : List Named). IsModel b target model) way.base is

pub returns-in-Yes-clause-answer : goal.returns-in-Yes-clause-answer
returns-in-Yes-clause-answer c =
    let found = rw c.in-Yes.is at c.in_ok-hints.ensures.found in
    answers _ _ c.args.target.now c.args.left.now c.loop-left.left c.loop-left.invariant.way (clauses_known c.search.new.self.formula) found.1 _
    (omega arith, step-same _ _ c.args.target.now c.args.left.now c.loop-left.left c.loop-left.invariant.way _ found.1 _ found.0)

pub returns-in-Yes-clause-base : goal.returns-in-Yes-clause-base
returns-in-Yes-clause-base c =
    let found = rw c.in-Yes.is at c.in_ok-hints.ensures.found in
    base-same _ _ c.args.target.now c.args.left.now c.loop-left.left c.loop-left.invariant.way _ found.1

pub returns-in-No-clause-answer : goal.returns-in-No-clause-answer
returns-in-No-clause-answer c =
    let found = rw c.in-No.is at c.in_ok-hints.ensures.found in
    answers _ _ c.args.target.now c.args.left.now c.loop-left.left c.loop-left.invariant.way (clauses_known c.search.new.self.formula) found.1 _
    (omega arith, model-same _ _ c.args.target.now c.args.left.now c.loop-left.left c.loop-left.invariant.way _ found.1 _ found.0)

pub returns-in-No-clause-base : goal.returns-in-No-clause-base
returns-in-No-clause-base c =
    let found = rw c.in-No.is at c.in_ok-hints.ensures.found in
    base-same _ _ c.args.target.now c.args.left.now c.loop-left.left c.loop-left.invariant.way _ found.1

pub returns-clause-answer : goal.returns-clause-answer
returns-clause-answer c =
    answers _ _ c.args.target.now c.args.left.now c.loop-left.left c.loop-left.invariant.way (clauses_known c.loop-left.self.formula) refl _ (omega arith)

pub returns-clause-base : goal.returns-clause-base
returns-clause-base c = c.loop-left.invariant.way.base

pub search-requires : goal.search-requires
search-requires c = record { state = c.loop-left.invariant.state }

pub back-requires : goal.back-requires
back-requires c = c.requires.known

pub restart-requires : goal.restart-requires
restart-requires c = c.in_ok-hints.ensures.state.known
