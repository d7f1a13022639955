use Rattle.std.proofs.Common.{ap, sym, ◌∙◌}
use Rattle.std.specs.List.{list_any}
use Rattle.lits.specs.Same.{same_dim}
use Rattle.dimacs_text.proofs.DistinctLemmas.{first-known, first-new}
use Rattle.dimacs_text.proofs.distinct.distinct_of_few.Goals as goal
use Rattle.dimacs_text.proofs.distinct.distinct_of_few.Goals.{then-not-contains+in_ok-push, else-not-contains}

pub loop-literal-preserved : goal.loop-literal-preserved
loop-literal-preserved c =
    let l = c.loop-literal in
    let x = c.literal-item.result in
    let found = ap (list_any (λ y. same_dim y x)) (sym c.deref.ensures.value) ∙ sym c.contains.ensures.value in
    elim c.if-not-contains.branch [
      | then-not-contains+in_ok-push w ↦
          rw (w.kept-is, w.in_ok-push.ensures.items)
          (first-new c.args.literals.now l.literal-index x l.kept.items c.loop-literal-test.true c.literal-item.is l.invariant
          (found ∙ w.if-not-contains.true))
      | else-not-contains w ↦
          rw w.kept-is
          (first-known c.args.literals.now l.literal-index x l.kept.items c.loop-literal-test.true c.literal-item.is l.invariant
          (found ∙ w.if-not-contains.false))
    ]
