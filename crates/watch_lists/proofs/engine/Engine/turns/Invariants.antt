use Rattle.std.proofs.Common.{◌-◌, length}
use Rattle.watch_lists.specs.State.{IsEngine, Stays}
use Rattle.watch_lists.proofs.engine.Engine.turns.Given as goal

abbrev pub invariant-loop-self : goal.invariant-loop-self
invariant-loop-self l = record { engine : IsEngine l.self; stays : Stays l.initial.self l.self }

abbrev pub decreases-loop-self : goal.decreases-loop-self
decreases-loop-self l = length l.self.truth.items - l.self.head
