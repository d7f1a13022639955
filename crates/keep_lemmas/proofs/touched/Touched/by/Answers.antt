-- One edit more touches its node.
use Rattle.std.proofs.Common.{◌∙◌, ◌||◌, Bool, ap}
use Rattle.std.proofs.lemmas.List.{take_more}
use Rattle.keep_lemmas.specs.Keeping.{is_node}
use Rattle.keep_lemmas.proofs.KeptBooks.{touched-next}
use Rattle.keep_lemmas.proofs.touched.Touched.by.Goals as goal

pub loop-edit-preserved : goal.loop-edit-preserved
loop-edit-preserved c = λ n.
    c.in_ok-add.ensures n
    ∙ ap (λ (b : Bool). b || is_node c.touched_node.result n) (c.loop-edit.invariant n)
    ∙ touched-next c.args.edits.now c.loop-edit.edit-index _ c.touched_node.result n
    (take_more c.args.edits.now c.loop-edit.edit-index _ c.loop-edit-test.true) c.touched_node.ensures
