use Rattle.std.proofs.Common.{◌-◌, ◌≤◌, length}
use Rattle.watch_lists.specs.State.{IsTurn, Holds, list_at}
use Rattle.watch_lists.proofs.engine.Engine.turn.Given as goal

abbrev pub invariant-loop-at : goal.invariant-loop-at
invariant-loop-at l = record { turn : IsTurn l.self l.lit l.at; most : l.at ≤ length (list_at l.self.lists l.lit); keeps : Holds l.initial.self l.self }

abbrev pub decreases-loop-at : goal.decreases-loop-at
decreases-loop-at l = length (list_at l.self.lists l.lit) - l.at
