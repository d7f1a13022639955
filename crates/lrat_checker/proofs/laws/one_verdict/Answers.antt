use Rattle.lrat_checker.proofs.VerdictLemmas.{verdict-unique}
use Rattle.lrat_checker.proofs.laws.one_verdict.Goals as goal

pub returns : goal.returns
returns c = verdict-unique
