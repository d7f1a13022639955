use Rattle.std.proofs.Common.{List, inr, sym, ap, ◌∙◌}
use Rattle.lits.specs.Clause.{has}
use Rattle.lits.specs.Same.{same_lit, opposite}
use Rattle.watch_lists.specs.Trail.{put_at}
use Rattle.watch_lists.specs.declared.put.Put.{Put}
use Rattle.solver_watch.proofs.hints.reason.Goals as goal

pub returns-then-contains : goal.returns-then-contains
returns-then-contains c =
    inr (
      sym c.has.ensures ∙ c.if-not-has.false,
      ap (has same_lit c.args.shown.now)
          (sym (c.not.ensures ∙ ap (λ (ps : List Put). opposite (put_at ps c.args.place).lit) c.lits.ensures.puts))
          ∙ sym c.contains.ensures ∙ c.if-contains.true,
    )
