-- The steps so far are ones.
use Rattle.std.proofs.Common.{ℕ, ◌<◌}
use Rattle.lemma_book.specs.Good.{IsStepAt}
use Rattle.lemma_book.proofs.steps.first_bad.Given as goal

abbrev pub invariant-loop-k : goal.invariant-loop-k
invariant-loop-k g l = (j : ℕ) → j < l.k → IsStepAt (g.S.Sources.find l.sources) l.steps j
