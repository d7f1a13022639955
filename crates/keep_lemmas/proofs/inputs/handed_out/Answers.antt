-- One entry more hands its input out.
use Rattle.std.proofs.Common.{◌∙◌, ◌++◌, List, Bool, ap}
use Rattle.lemma_book.specs.Entry.{answer_of}
use Rattle.keep_lemmas.specs.Kept.{input_in}
use Rattle.keep_lemmas.proofs.KeptBooks.{handed-next}
use Rattle.keep_lemmas.proofs.inputs.handed_out.Goals as goal

pub loop-place-preserved : goal.loop-place-preserved
loop-place-preserved c =
    c.in_ok-hand_out.ensures
    ∙ ap (λ (l : List (List Bool)). l ++ input_in (answer_of c.entry_at.result.now)) c.loop-place.invariant
    ∙ handed-next c.args.book.now.entries c.loop-place.place c.entry_at.result.now c.entry_at.ensures
