use Rattle.std.proofs.Common.{◌≡◌, List, sym, subst}
use Rattle.lemma_book.specs.declared.entry.Task.{Task}
use Rattle.sweep_workers.specs.Asked.{IsPart}
use Rattle.sweep_workers.proofs.AnswerLemmas.{if-ok}
use Rattle.sweep_workers.proofs.PartLemmas.{part-all}
use Rattle.sweep_workers.proofs.rounds.chosen.Goals as goal

pub returns-then-is_empty-clause-part : goal.returns-then-is_empty-clause-part
returns-then-is_empty-clause-part c =
    let due = c.args.due.now in
    if-ok c.from_slice.result (λ v. v.items ≡ due) (λ v. IsPart v.items due) c.from_slice.ensures.items
    (λ v same. subst (λ (ts : List Task). IsPart ts due) (sym same) (part-all due))
