use Rattle.std.proofs.Common.{◌++◌, ◌∷◌, [], ℕ, List, map, sym, ap, subst, ◌∙◌}
use Rattle.std.specs.List.{All}
use Rattle.flat_base.specs.Codes.{lit_at, IsCode}
use Rattle.watch_lists.specs.Trail.{TrailState}
use Rattle.lits.specs.declared.step.Named.{Named}
use Rattle.solver_plain.specs.Formula.{Clauses}
use Rattle.unit_prop.specs.Refuter.{IsOver}
use Rattle.solver_watch.specs.Known.{base_in}
use Rattle.solver_watch.proofs.BaseLemmas.{base-learn}
use Rattle.solver_watch.proofs.EngineLemmas.{known-learn, lesson-quiet, learned-for, clauses-both, assuming-same}
use Rattle.solver_watch.proofs.engine.Engine.learn.Goals as goal

pub learn-requires-clause-quiet : goal.learn-requires-clause-quiet
learn-requires-clause-quiet c =
    lesson-quiet c.args.self.now.formula c.in_ok-lesson.lesson c.back.new.self.formula.trail c.in_ok-lesson.ensures.lesson c.in_ok-back.ensures.trail

pub learn-requires-clause-within : goal.learn-requires-clause-within
learn-requires-clause-within c =
    subst (λ (t : TrailState). All (IsCode t.nodes) c.as_slice.result.now) (sym c.in_ok-back.ensures.trail)
    (subst (λ (codes : List ℕ). All (IsCode c.args.self.now.formula.trail.nodes) codes) (sym (c.as_slice.ensures.value ∙ c.in_ok-back.ensures.codes))
    c.in_ok-lesson.ensures.within)

pub learn-requires-clause-same : goal.learn-requires-clause-same
learn-requires-clause-same c =
    ap (λ (t : TrailState). map (lit_at t.nodes) c.as_slice.result.now) c.in_ok-back.ensures.trail
    ∙ (ap (λ (codes : List ℕ). map (lit_at c.args.self.now.formula.trail.nodes) codes) (c.as_slice.ensures.value ∙ c.in_ok-back.ensures.codes)
    ∙ c.in_ok-lesson.ensures.codes)

pub returns : goal.returns
returns c = record {
  known = known-learn c.back.new.self.formula c.learn.new.self c.in_ok-lesson.lesson.step c.in_ok-back.ensures.known
      (subst (λ (b : List Named). IsOver b c.in_ok-lesson.lesson.step.clause) (sym (ap (λ (k : Clauses). k.base) c.in_ok-back.ensures.clauses))
      c.in_ok-lesson.ensures.lesson.over)
      c.learn.ensures.names c.in_ok-learn.ensures.log c.in_ok-learn.ensures.trail;
  step = c.in_ok-lesson.lesson.step;
  learned = λ target is. learned-for c.args.self.now.formula c.in_ok-lesson.lesson c.args.self.now.assumed c.requires.known
      c.in_ok-lesson.ensures.lesson c.requires.level target is;
  is = clauses-both (base_in c.learn.new.self) (base_in c.args.self.now.formula) c.learn.new.self.log.items
      (c.args.self.now.formula.log.items ++ c.in_ok-lesson.lesson.step ∷ [])
      (base-learn c.back.new.self.formula c.learn.new.self c.in_ok-lesson.lesson.step.clause c.in_ok-back.ensures.known c.learn.ensures.names (ap (λ (t : TrailState). t.clauses) c.in_ok-learn.ensures.trail)
      ∙ ap (λ (k : Clauses). k.base) c.in_ok-back.ensures.clauses)
      (c.in_ok-learn.ensures.log ∙ ap (λ (k : Clauses). k.log ++ c.in_ok-lesson.lesson.step ∷ []) c.in_ok-back.ensures.clauses);
  assuming = λ target is. assuming-same target c.back.new.self.formula.trail c.learn.new.self.trail c.back.new.self.assumed
      (c.in_ok-back.ensures.assuming target is) (ap (λ (t : TrailState). t.puts) c.in_ok-learn.ensures.trail) (ap (λ (t : TrailState). t.last) c.in_ok-learn.ensures.trail);
}
