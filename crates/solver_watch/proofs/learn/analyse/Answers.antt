use Rattle.std.proofs.Common.{ℕ, ◌<◌, ◌+◌, List, [], ◌∷◌, sym, ap, ◌∙◌, subst, length}
use Rattle.lits.specs.Clause.{IsClause}
use Rattle.lits.specs.Same.{same_lit, opposite}
use Rattle.lits.specs.declared.literal.Lit.{Lit}
use Rattle.watch_lists.specs.declared.put.Put.{Put}
use Rattle.unit_prop.specs.Step.{IsStep}
use Rattle.solver_plain.specs.Formula.{clause_named}
use Rattle.solver_watch.specs.Known.{clauses_known}
use Rattle.solver_watch.specs.Marked.{AreWithin, negations_at, IsSecond, IsSupported}
use Rattle.solver_watch.proofs.LessonLemmas.{carried, below-within, cut-clause, cut-supported, firsts-once, lesson-is}
use Rattle.solver_watch.proofs.learn.analyse.Goals as goal

pub negated-requires-clause-point : goal.negated-requires-clause-point
negated-requires-clause-point c =
    subst (λ (ps : List Put). c.in_ok-point.point < length ps) (sym c.lits-puts.ensures.puts) c.in_ok-point.ensures.cut.within

pub negated-requires-clause-within : goal.negated-requires-clause-within
negated-requires-clause-within c =
    carried (λ (ps : List Put) (bs : List ℕ). AreWithin ps bs) c.args.formula.now.trail.puts c.lits-puts.result.now
    c.first_point.new.self.below.items c.as_slice.result.now c.lits-puts.ensures.puts c.as_slice.ensures.value
    (below-within c.args.formula.now.trail c.lits-puts.ensures.trail c.in_ok-point.point c.first_point.new.self c.in_ok-point.ensures.cut)

pub negated-requires-clause-clause : goal.negated-requires-clause-clause
negated-requires-clause-clause c =
    carried (λ (ps : List Put) (bs : List ℕ). IsClause same_lit opposite (negations_at ps (c.in_ok-point.point ∷ bs)))
    c.args.formula.now.trail.puts c.lits-puts.result.now
    c.first_point.new.self.below.items c.as_slice.result.now c.lits-puts.ensures.puts c.as_slice.ensures.value
    (cut-clause c.args.formula.now.trail c.lits-puts.ensures.trail c.in_ok-point.point c.first_point.new.self c.in_ok-point.ensures.cut)

pub second_level-level-requires : goal.second_level-level-requires
second_level-level-requires c =
    carried (λ (ps : List Put) (bs : List ℕ). AreWithin ps bs) c.args.formula.now.trail.puts c.lits-puts.result.now
    c.first_point.new.self.below.items c.as_slice-2.result.now c.lits-puts.ensures.puts c.as_slice-2.ensures.value
    (below-within c.args.formula.now.trail c.lits-puts.ensures.trail c.in_ok-point.point c.first_point.new.self c.in_ok-point.ensures.cut)

pub hints-requires-clause-supported : goal.hints-requires-clause-supported
hints-requires-clause-supported c =
    subst (λ (g : List Lit). IsSupported c.args.formula.now.trail c.first_point.new.self.marks (c.in_ok-point.point + 1) [] g c.args.conflict)
    (sym (c.lits.ensures.lits ∙ c.in_ok-clause.ensures
    ∙ ap (λ (ps : List Put). negations_at ps (c.in_ok-point.point ∷ c.as_slice.result.now)) c.lits-puts.ensures.puts
    ∙ ap (λ (bs : List ℕ). negations_at c.args.formula.now.trail.puts (c.in_ok-point.point ∷ bs)) c.as_slice.ensures.value
    ∙ sym (firsts-once _ (cut-clause c.args.formula.now.trail c.lits-puts.ensures.trail c.in_ok-point.point c.first_point.new.self c.in_ok-point.ensures.cut).once)))
    (cut-supported c.args.formula.now.trail c.lits-puts.ensures.trail c.in_ok-point.point c.first_point.new.self c.in_ok-point.ensures.cut
    c.args.conflict c.requires.number c.requires.conflict c.in_ok-point.ensures.met)

pub returns-clause-lesson : goal.returns-clause-lesson
returns-clause-lesson c =
    lesson-is c.args.formula.now c.first_point.new.self c.in_ok-point.point c.second_level-level.result c.in_ok-clause.clause c.in_ok-hints.hints
    c.requires.known c.lits-puts.ensures.trail c.in_ok-point.ensures.cut c.requires.level
    (c.in_ok-clause.ensures
    ∙ ap (λ (ps : List Put). negations_at ps (c.in_ok-point.point ∷ c.as_slice.result.now)) c.lits-puts.ensures.puts
    ∙ ap (λ (bs : List ℕ). negations_at c.args.formula.now.trail.puts (c.in_ok-point.point ∷ bs)) c.as_slice.ensures.value
    ∙ sym (firsts-once _ (cut-clause c.args.formula.now.trail c.lits-puts.ensures.trail c.in_ok-point.point c.first_point.new.self c.in_ok-point.ensures.cut).once))
    (subst (λ (g : List Lit). IsStep same_lit opposite (clause_named (clauses_known c.args.formula.now)) g c.in_ok-hints.hints)
    c.lits.ensures.lits c.in_ok-hints.ensures)
    (carried (λ (ps : List Put) (bs : List ℕ). IsSecond ps bs c.second_level-level.result) c.lits-puts.result.now c.args.formula.now.trail.puts
    c.as_slice-2.result.now c.first_point.new.self.below.items (sym c.lits-puts.ensures.puts) (sym c.as_slice-2.ensures.value)
    c.second_level-level.ensures)
