use Rattle.std.proofs.Common.{refl}
use Rattle.endings.specs.declared.stop.Stop.TheVariants.{OutOfMemory}
use Rattle.endings.specs.Stops.{stop_line}
use Rattle.cec_top.proofs.program.answer_refusal.Goals as goal

pub returns-in-NoMemory : goal.returns-in-NoMemory
unfolding stop_line
returns-in-NoMemory g c = rw c.in-NoMemory.is (record {
  stop = OutOfMemory;
  mid = g.D.Desk.state c.args.desk.now;
  cause = (refl, refl);
  warns = c.warn-in-NoMemory.ensures;
})
