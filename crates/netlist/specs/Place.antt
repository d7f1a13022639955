-- Places in a list, from 0.
use Rattle.std.specs.Prelude.{ℕ, ◌+◌, Bool, Option, None, Some, List, [], ◌∷◌, if◌then◌else◌}
use Rattle.std.specs.Option.{option_map}

-- the place of the first element that passes the test; none where there is no such element
abbrev pub place_of : {X : Type 0} → (X → Bool) → List X → Option ℕ
place_of test [] = None
place_of test (x ∷ xs) = if test x then Some 0 else option_map (λ k. k + 1) (place_of test xs)

-- the elements that stand before the first one that passes the test
abbrev pub before : {X : Type 0} → (X → Bool) → List X → List X
before test [] = []
before test (x ∷ xs) = if test x then [] else x ∷ before test xs
