-- The clauses so far, each of which is fresh.
use Rattle.std.proofs.Common.{◌≡◌, ℕ, ◌<◌, take}
use Rattle.unit_prop.specs.Log.{clauses_of}
use Rattle.lemma_book.specs.Judging.{IsFresh}
use Rattle.lemma_book.proofs.newness.first_stale.Given as goal

abbrev pub invariant-loop-k : goal.invariant-loop-k
invariant-loop-k l =
    (l.clauses.items ≡ clauses_of l.cone (take l.k l.log))
    × ((j : ℕ) → j < l.k → IsFresh l.cone l.lit l.log j)
