use Rattle.std.proofs.Common.{◌∙◌, sym}
use Rattle.lits.proofs.ListLemmas.{take_next}
use Rattle.lits.proofs.hints.Hints.to_vec.Goals as goal

pub loop-place-preserved : goal.loop-place-preserved
loop-place-preserved c =
    rw (c.in_ok-push.ensures.items, c.loop-place.invariant) (sym (take_next c.args.self.now c.loop-place.place _ c.at.ensures))
