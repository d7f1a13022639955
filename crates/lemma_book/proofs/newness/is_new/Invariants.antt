-- No literal so far is lacked.
use Rattle.std.proofs.Common.{◌≡◌, ℕ, ◌<◌, Some}
use Rattle.std.specs.Prelude.{slice_get}
use Rattle.lits.specs.declared.literal.Lit.{Lit}
use Rattle.lemma_book.proofs.NewClauses.{IsLacked}
use Rattle.lemma_book.proofs.newness.is_new.Given as goal

abbrev pub invariant-loop-lit : goal.invariant-loop-lit
invariant-loop-lit l = (i : ℕ) (x : Lit) → i < l.lit-index → slice_get l.clause i ≡ Some x → ¬ IsLacked l.clauses l.clause x
