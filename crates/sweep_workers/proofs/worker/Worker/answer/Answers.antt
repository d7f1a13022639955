-- What the book doesn't settle isn't merged, or has no entry.
use Rattle.std.proofs.Common.{sym, ap, ◌∙◌}
use Rattle.lemma_book.specs.Entry.{place_on}
use Rattle.sweep_workers.specs.declared.asked.Asked.{Asked}
use Rattle.sweep_workers.specs.Asked.{subject_in}
use Rattle.sweep_workers.proofs.WorkLemmas.{open-root, open-about}
use Rattle.sweep_workers.proofs.worker.Worker.answer.Goals as goal

pub pair-requires-clause-root : goal.pair-requires-clause-root
pair-requires-clause-root g c κs lives =
    let entries = c.args.seen.now.entries in
    open-root entries c.in-Pair.task.node (sym (ap (λ (a : Asked). place_on entries (subject_in a)) c.in-Pair.is) ∙ c.requires.open)

pub output-requires-clause-unsettled : goal.output-requires-clause-unsettled
output-requires-clause-unsettled g c κs lives =
    let entries = c.args.seen.now.entries in
    open-about entries c.in-Output.output (sym (ap (λ (a : Asked). place_on entries (subject_in a)) c.in-Output.is) ∙ c.requires.open)
