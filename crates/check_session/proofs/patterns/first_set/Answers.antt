use Rattle.std.proofs.Common.{arith}
use Rattle.check_session.proofs.PatternLemmas.{lowest-set}
use Rattle.check_session.proofs.patterns.first_set.Goals as goal

pub returns-else-word-eq0 : goal.returns-else-word-eq0
returns-else-word-eq0 c = lowest-set c.args.word (omega (arith, c.if-word-eq0.false)) (omega arith)
