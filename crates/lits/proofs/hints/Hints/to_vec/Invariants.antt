use Rattle.std.proofs.Common.{◌≡◌, take}
use Rattle.lits.proofs.hints.Hints.to_vec.Given as goal

-- the names so far
abbrev pub invariant-loop-place : goal.invariant-loop-place
invariant-loop-place l = l.names.items ≡ take l.place l.self
