use Rattle.std.proofs.Common.{◌≡◌, ◌<◌, ◌≤◌, ◌/◌, ℕ, true, take, nat_eq}
use Rattle.std.specs.List.{list_any}
use Rattle.solver_watch.proofs.used.seen_in.Given as goal

abbrev pub invariant-loop-code : goal.invariant-loop-code
invariant-loop-code l = (k : ℕ) → l.before ≤ k → k < l.seen → list_any (λ c. nat_eq (c / 2) k) (take l.code-index l.codes) ≡ true
