use Rattle.std.proofs.Common.{get_or, ◌∷◌, take}
use Rattle.watch_lists.specs.State.{IsLed}
use Rattle.watch_lists.proofs.engine.Engine.best.Given as goal

abbrev pub invariant-loop-lit : goal.invariant-loop-lit
invariant-loop-lit l = IsLed l.self.trail.items (get_or l.clause 0 0 ∷ take l.lit-index l.clause) l.lead
