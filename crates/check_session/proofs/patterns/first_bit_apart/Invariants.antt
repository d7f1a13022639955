-- No bit that counts of the words so far differs.
use Rattle.std.proofs.Common.{◌≡◌, ℕ, ◌*◌, ◌<◌, false}
use Rattle.check_session.proofs.PatternLemmas.{apart_at}
use Rattle.check_session.proofs.patterns.first_bit_apart.Given as goal

abbrev pub invariant-loop-word : goal.invariant-loop-word
invariant-loop-word l = (p : ℕ) → p < 64 * l.word → apart_at l.first l.second l.are_opposite l.counting p ≡ false
