use Rattle.check_session.proofs.BlockLemmas.{part-fits}
use Rattle.check_session.proofs.rare.rare_difference.Goals as goal

pub reach-requires-clause-fits : goal.reach-requires-clause-fits
reach-requires-clause-fits c = part-fits c.args.net.now c.args.pool.now c.in_ok-inputs.inputs 0 1 c.requires.fits c.in_ok-inputs.ensures
