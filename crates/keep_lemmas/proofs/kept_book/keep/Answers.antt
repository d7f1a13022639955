-- The touched nodes are those of the edits.
use Rattle.std.proofs.Common.{◌∙◌, List, ap}
use Rattle.netlist_edits.specs.declared.edit.Edit.{Edit}
use Rattle.keep_lemmas.specs.Kept.{kept}
use Rattle.keep_lemmas.proofs.kept_book.keep.Goals as goal

pub returns-clause-kept : goal.returns-clause-kept
returns-clause-kept c =
    c.in_ok-kept.ensures.kept ∙ ap (λ (es : List Edit). kept c.args.old.now es c.args.book) c.in_ok-touched.ensures
