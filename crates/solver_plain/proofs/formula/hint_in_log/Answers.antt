use Rattle.std.proofs.Common.{arith}
use Rattle.solver_plain.proofs.NameLemmas.{own-at}
use Rattle.solver_plain.proofs.formula.hint_in_log.Goals as goal

pub returns-in-Some-clause-hint : goal.returns-in-Some-clause-hint
returns-in-Some-clause-hint c = record {
  clause = c.index-log-place.result.clause;
  named = own-at c.args.log.now c.loop-place.place c.index-log-place.result (omega arith) c.index-log-place.is;
  acts = c.in-Some.ensures;
}
