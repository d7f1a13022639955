use Rattle.std.proofs.Common.{◌≡◌, ℕ, None, eqb, take, if◌then◌else◌}
use Rattle.std.specs.List.{list_any}
use Rattle.lrat_checker.specs.Live.{clauses_of}
use Rattle.lrat_checker.proofs.live.LiveClauses.delete_all.Given as goal

abbrev pub invariant-loop-id : goal.invariant-loop-id
invariant-loop-id l =
    (name : ℕ) → clauses_of l.self name ≡ (if list_any (λ id. eqb id name) (take l.id-index l.ids) then None else clauses_of l.initial.self name)
