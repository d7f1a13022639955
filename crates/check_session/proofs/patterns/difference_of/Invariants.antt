-- No pattern tells an output so far apart.
use Rattle.std.proofs.Common.{◌≡◌, ℕ, ◌<◌, None}
use Rattle.std.specs.List.{find}
use Rattle.check_session.specs.Pool.{tells_apart}
use Rattle.check_session.proofs.patterns.difference_of.Given as goal

abbrev pub invariant-loop-output : goal.invariant-loop-output
invariant-loop-output l = (k : ℕ) → k < l.output → find (tells_apart l.net k) l.pool.patterns ≡ None
