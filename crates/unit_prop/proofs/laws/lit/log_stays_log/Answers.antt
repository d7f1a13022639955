use Rattle.unit_prop.proofs.ChainLemmas.{log-grows}
use Rattle.unit_prop.proofs.laws.lit.log_stays_log.Goals as goal

pub returns : goal.returns
returns c = log-grows
