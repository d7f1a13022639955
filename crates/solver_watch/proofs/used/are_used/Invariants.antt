use Rattle.std.proofs.Common.{◌≡◌, ◌<◌, ◌/◌, ℕ, true, take, nat_eq}
use Rattle.std.specs.List.{list_any}
use Rattle.solver_watch.proofs.used.are_used.Given as goal

abbrev pub invariant-loop-number : goal.invariant-loop-number
invariant-loop-number l = (k : ℕ) → k < l.seen → list_any (λ d. list_any (λ c. nat_eq (c / 2) k) d.codes) (take l.number l.base.clauses) ≡ true
