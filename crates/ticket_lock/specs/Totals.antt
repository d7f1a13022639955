-- Totals over lists, and what holds of each element of one. Nothing here depends on what an element is.
use Rattle.std.specs.Prelude.{◌≡◌, ℕ, zero, suc, ◌+◌, ◌<◌, ◌==◌, cond, List, [], ◌∷◌}
use mathlib.Core.Option.{some}
use lib.ListN.{get_elem?}

-- the sum of f over the elements
abbrev pub total : {V : Type 0} → (V → ℕ) → List V → ℕ
total f [] = 0
total f (v ∷ vs) = f v + total f vs

-- P holds of each element
abbrev pub Each : {V : Type 0} → (V → Type 0) → List V → Type 0
Each {V} P vs = (i : ℕ) (v : V) → get_elem? vs i ≡ some v → P v

-- how many times the number stands in the list
abbrev pub times : ℕ → List ℕ → ℕ
times x [] = 0
times x (y ∷ ys) = cond (y == x) 1 0 + times x ys

-- how many times the number stands among those below n: once, if it is below n
abbrev pub once_below : ℕ → ℕ → ℕ
once_below x zero = 0
once_below x (suc n) = cond (n == x) 1 0 + once_below x n

-- each number of the list is below n
abbrev pub AllBelow : ℕ → List ℕ → Type 0
AllBelow n [] = Unit {0}
AllBelow n (x ∷ xs) = (x < n) × AllBelow n xs
