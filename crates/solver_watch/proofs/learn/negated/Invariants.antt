use Rattle.std.proofs.Common.{◌≡◌, ◌∷◌, take}
use Rattle.solver_watch.specs.Marked.{negations_at}
use Rattle.solver_watch.proofs.learn.negated.Given as goal

abbrev pub invariant-loop-place : goal.invariant-loop-place
invariant-loop-place l = l.lits.items ≡ negations_at l.puts (l.point ∷ take l.place-index l.below)
