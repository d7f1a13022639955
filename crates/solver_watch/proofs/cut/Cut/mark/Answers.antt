use Rattle.std.proofs.Common.{◌∙◌, arith, sym, ap, true, set}
use Rattle.solver_watch.specs.declared.cut.Cut.{Cut}
use Rattle.solver_watch.proofs.CountLemmas.{true-same, apart-false}
use Rattle.solver_watch.proofs.MarkedLemmas.{counted-open, counted-below, count-most}
use Rattle.solver_watch.proofs.cut.Cut.mark.Goals as goal
use Rattle.solver_watch.proofs.cut.Cut.mark.Goals.{then-puts-place, else-puts-place+in_ok-push}

pub overflow_add-self : goal.overflow_add-self
overflow_add-self c =
    let most = count-most c.args.puts.now c.args.level c.args.self.now c.args.place c.requires.counted c.requires.place (sym c.has.ensures ∙ c.if-has.false) (true-same _ _ c.if-puts-place.true) in
    omega arith

pub returns-clause-counted : goal.returns-clause-counted
returns-clause-counted c = elim c.if-puts-place.branch [
  | then-puts-place w ↦
      counted-open c.args.puts.now c.args.level c.args.self.now
      (record { marks = c.put.new.self; below = c.if-puts-place.self.below; count = c.if-puts-place.self.count }) c.args.place
      c.requires.counted c.requires.place (sym c.has.ensures ∙ c.if-has.false) (c.put.ensures ∙ ap (λ (k : Cut). set k.marks c.args.place true) w.self-is)
      (true-same _ _ w.if-puts-place.true) (ap (λ (k : Cut). k.count) w.self-is) (ap (λ (k : Cut). k.below.items) w.self-is)
  | else-puts-place+in_ok-push w ↦
      counted-below c.args.puts.now c.args.level c.args.self.now
      (record { marks = c.put.new.self; below = c.if-puts-place.self.below; count = c.if-puts-place.self.count }) c.args.place
      c.requires.counted c.requires.place (sym c.has.ensures ∙ c.if-has.false) (c.put.ensures ∙ ap (λ (k : Cut). set k.marks c.args.place true) w.self-is)
      (apart-false _ _ w.if-puts-place.false) (ap (λ (k : Cut). k.count) w.self-is)
      (ap (λ (k : Cut). k.below.items) w.self-is ∙ w.in_ok-push.ensures.items)
]
