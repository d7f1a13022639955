use Rattle.cec_top.proofs.WarnedLemmas.{progress-more}
use Rattle.cec_top.proofs.progress.warn_until_done.Goals as goal

pub loop-preserved : goal.loop-preserved
loop-preserved g c =
    progress-more (g.D.Desk.state c.args.desk.now) (g.D.Desk.state c.loop.desk) (g.D.Desk.state c.warn_progress.new.desk) c.progress.result
    c.loop.invariant c.warn_progress.ensures
