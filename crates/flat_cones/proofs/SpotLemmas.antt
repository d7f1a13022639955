-- Numbers that are found equal, and that what isn't marked has no number.
use Rattle.std.proofs.Common.{◌≡◌, ℕ, true, false, ◌==◌, None, refl, arith}
use Rattle.std.proofs.lemmas.Bool.Decides.{nat_tests}
use Rattle.flat_cones.specs.Spots.{Table, is_marked, number_at}

pub same-number : (x y : ℕ) → (x == y) ≡ true → x ≡ y
same-number x y e = grind (arith, nat_tests)

pub number-self : (x : ℕ) → (x == x) ≡ true
number-self x = grind (arith, nat_tests)

pub number-unmarked : (t : Table) (v : ℕ) → is_marked t v ≡ false → number_at t v ≡ None
number-unmarked t v none = rw none refl
