use Rattle.std.proofs.Common.{◌-◌, length}
use Rattle.watch_lists.specs.State.{IsEngine, Holds}
use Rattle.watch_lists.proofs.engine.Engine.attach_all.Given as goal

abbrev pub invariant-loop-self : goal.invariant-loop-self
invariant-loop-self l = record { engine : IsEngine l.self; keeps : Holds l.initial.self l.self }

abbrev pub decreases-loop-self : goal.decreases-loop-self
decreases-loop-self l = length l.self.clauses - length l.self.pairs.items
