use Rattle.std.proofs.Common.{◌∙◌, ap₂, sym}
use Rattle.sig_classes.specs.Alike.{mixed, normal_word}
use Rattle.sig_classes.proofs.AlikeLemmas.{hash-next, hash-none}
use Rattle.sig_classes.proofs.alike.hash.Goals as goal

pub loop-w-init : goal.loop-w-init
loop-w-init c = c.from-hash.ensures ∙ sym (hash-none c.args.class (normal_word c.args.count c.args.row.now))

pub loop-w-preserved : goal.loop-w-preserved
loop-w-preserved c =
    c.mixed-hash.ensures ∙ ap₂ mixed c.loop-w.invariant c.normal_word.ensures
    ∙ sym (hash-next c.args.class (normal_word c.args.count c.args.row.now) c.loop-w.w)
