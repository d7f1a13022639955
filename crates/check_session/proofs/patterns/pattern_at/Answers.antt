use Rattle.check_session.proofs.PatternLemmas.{bits-more}
use Rattle.check_session.proofs.patterns.pattern_at.Goals as goal

pub loop-input-preserved : goal.loop-input-preserved
loop-input-preserved c =
    bits-more c.args.sigs.now c.args.place c.loop-input.input c.loop-input.values.items _ c.is_true.result c.loop-input.invariant
    c.in_ok-push.ensures.items c.is_true.ensures
