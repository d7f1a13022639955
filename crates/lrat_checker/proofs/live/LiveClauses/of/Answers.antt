use Rattle.std.proofs.Common.{rules}
use Rattle.std.specs.BTreeMap.{get}
use Rattle.std.specs.Ordering.{nat_cmp}
use Rattle.lrat_checker.proofs.LiveLemmas.{slots-formula}
use Rattle.lrat_checker.proofs.live.LiveClauses.of.Goals as goal

pub returns : goal.returns
returns c = λ id. slots-formula c.args.formula.now c.in_ok-slots_of.field-0.items
    (get nat_cmp c.new.result id) id c.in_ok-slots_of.ensures (search rules)
