use Rattle.std.proofs.Common.{sym}
use Rattle.lits.proofs.Facts.{map_next}
use Rattle.keep_lemmas.specs.Kept.{renewed_hint}
use Rattle.book_file.specs.Loaded.{number_in}
use Rattle.book_file.proofs.loading.renumbered_hints.Goals as goal

pub loop-place-preserved : goal.loop-place-preserved
loop-place-preserved c =
    rw (c.in_ok-push.ensures.items, c.loop-place.invariant, c.renumbered_hint.ensures)
    (sym (map_next (renewed_hint (number_in c.args.numbers.now)) c.args.hints.now c.loop-place.place _ c.at.ensures))
