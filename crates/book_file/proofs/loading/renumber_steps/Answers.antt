use Rattle.std.proofs.Common.{List, ap, arith}
use Rattle.lits.specs.declared.step.Ref.{Ref}
use Rattle.lits.specs.declared.step.Step.{Step}
use Rattle.keep_lemmas.specs.Kept.{renewed_step}
use Rattle.book_file.specs.Loaded.{number_in}
use Rattle.book_file.proofs.TurnedLemmas.{turned-more}
use Rattle.book_file.proofs.loading.renumber_steps.Goals as goal
use Rattle.std.specs.Prelude.{slice_index_or}

abbrev with-hints : Step → List Ref → Step
with-hints s hints = record { clause = s.clause; hints = hints }

pub loop-step-preserved : goal.loop-step-preserved
loop-step-preserved c =
    let step = slice_index_or c.loop-step.step-items c.loop-step.step-index c.step-item.result in
    turned-more (renewed_step (number_in c.args.numbers.now)) c.deref_mut-step-items.result.now c.loop-step.step-items
    c.loop-step.step-index c.step-item.result (with-hints step c.in_ok-step.field-0) (omega arith) c.loop-step.invariant
    (ap (with-hints step) c.in_ok-step.ensures)
