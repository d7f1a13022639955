use Rattle.std.proofs.Common.{◌≡◌, ℕ, true, not, arith}
use Rattle.std.specs.Prelude.{◌==◌}
use Rattle.std.proofs.lemmas.Bool.Decides.{nat_tests}
use Rattle.watch_lists.proofs.AttachLemmas.{only-two}
use Rattle.watch_lists.proofs.attach.is_all.Goals as goal

two-size : (n : ℕ) → (n == 2) ≡ true → n ≡ 2
two-size n e = grind (arith, nat_tests)

same-pair : (a b : ℕ) → a ≡ b → not (a == b) ≡ true → ⊥
same-pair a b e differs = grind (arith, nat_tests)

pub returns-then-pair : goal.returns-then-pair
returns-then-pair c = λ size first_in second_in. only-two c.args.clause.now _ _ (two-size _ size) c.if-pair.true first_in second_in

pub returns-else-pair : goal.returns-else-pair
returns-else-pair c = λ differs. absurd (same-pair _ _ c.if-pair.false differs)
