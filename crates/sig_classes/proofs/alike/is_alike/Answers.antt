use Rattle.std.proofs.Common.{◌∙◌, sym, arith}
use Rattle.sig_classes.proofs.AlikeLemmas.{words-alike, word-differs}
use Rattle.sig_classes.proofs.alike.is_alike.Goals as goal

pub returns-then-normal_word : goal.returns-then-normal_word
returns-then-normal_word c =
    sym (word-differs c.args.count c.args.a.now c.args.b.now c.loop-w.w (omega (arith, c.loop-w-test.true, c.requires.a))
    (λ e. c.if-normal_word.true (c.normal_word.ensures ∙ e ∙ sym c.normal_word-in-loop-w.ensures)))

pub returns : goal.returns
returns c = sym (words-alike c.args.count c.args.a.now c.args.b.now (λ w below. c.loop-w.invariant w (omega (arith, below, c.loop-w-test.false, c.requires.a))))
