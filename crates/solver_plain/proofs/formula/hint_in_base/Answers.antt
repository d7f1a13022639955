use Rattle.std.proofs.Common.{arith}
use Rattle.solver_plain.proofs.NameLemmas.{base_clause-at}
use Rattle.solver_plain.proofs.formula.hint_in_base.Goals as goal

pub returns-in-Some-clause-hint : goal.returns-in-Some-clause-hint
returns-in-Some-clause-hint c = record {
  clause = c.named-item.result.clause;
  named = base_clause-at c.args.base.now c.requires.differ c.loop-named.named-index c.named-item.result (omega arith) c.named-item.is;
  acts = c.in-Some.ensures;
}
