use Rattle.watch_lists.proofs.NumberLemmas.{none-found}
use Rattle.watch_lists.proofs.numbers.Numbers.find.Goals as goal

pub returns-clause-none : goal.returns-clause-none
returns-clause-none c = none-found c.place.result c.self.inside.set c.args.self.now c.args.node c.self.invariant c.self.view_is c.place.ensures.none
