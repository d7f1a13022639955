use Rattle.std.proofs.Common.{◌≡◌, ◌∷◌, map, take, Some, None}
use Rattle.lrat_checker.specs.Live.{held_in}
use Rattle.lrat_checker.proofs.live.slots_of.Given as goal

abbrev pub invariant-loop-clause : goal.invariant-loop-clause
invariant-loop-clause l = map held_in l.slots.items ≡ None ∷ map Some (take l.clause-index l.formula)
