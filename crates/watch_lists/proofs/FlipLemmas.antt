-- Negation of literals by number.
use Rattle.std.proofs.Common.{◌≡◌, ℕ, ◌+◌, ◌-◌, ◌%◌, ◌<◌, true, false, ap, arith, nat_eq, ◌⊎◌, inl, inr, ◌≢◌}
use Rattle.std.proofs.lemmas.Bool.Decides.{nat_tests}
use Rattle.lits.proofs.Facts.{IsLiteral}
use Rattle.watch_lists.specs.Codes.{flip}

pub flip-even : (l : ℕ) → l % 2 ≡ 0 → l + 1 ≡ flip l
unfolding flip
flip-even l h = grind (arith, nat_tests)

pub flip-odd : (l : ℕ) → l % 2 ≡ 1 → l - 1 ≡ flip l
unfolding flip
flip-odd l h = grind (arith, nat_tests)

-- a code is even or odd
pub parity : (l : ℕ) → (l % 2 ≡ 0) ⊎ (l % 2 ≡ 1)
parity l = grind arith

pub flip-flip : (l : ℕ) → flip (flip l) ≡ l
flip-flip l = elim (parity l) [
  | inl h ↦ let e = flip-even l h in let f = flip-odd (flip l) (omega arith) in omega arith
  | inr h ↦ let e = flip-odd l h in let f = flip-even (flip l) (omega arith) in omega arith
]

pub flip_apart : (l : ℕ) → l ≢ flip l
flip_apart l s = elim (parity l) [ inl h ↦ let e = flip-even l h in omega arith | inr h ↦ let e = flip-odd l h in omega arith ]

-- a number is equal to itself
pub same_refl : (x : ℕ) → nat_eq x x ≡ true
same_refl x = grind (arith, nat_tests)

same_symm : (x y : ℕ) → nat_eq x y ≡ nat_eq y x
same_symm x y = grind (arith, nat_tests)

pub same_exact : (x y : ℕ) → nat_eq x y ≡ true → x ≡ y
same_exact x y h = grind (arith, nat_tests)

pub is_literal-flip : IsLiteral nat_eq flip
is_literal-flip = record { equivalence = record { refl = λ x. same_refl x; symm = λ x y. same_symm x y; congr = λ x y z e. ap (λ (w : ℕ). nat_eq w z) (same_exact x y e) }; exact = same_exact; twice = flip-flip }

pub flip_differs : (l : ℕ) → nat_eq l (flip l) ≡ false
flip_differs l = let h = flip_apart l in grind (arith, nat_tests)

-- the literals of the first variables are closed under negation
pub flip-below : (n l : ℕ) → n % 2 ≡ 0 → l < n → flip l < n
flip-below n l even h = elim (parity l) [
  | inl e ↦ let f = flip-even l e in omega arith
  | inr e ↦ let f = flip-odd l e in omega arith
]
