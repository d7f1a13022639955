-- The text of words, numbers and literals.
use Rattle.std.specs.Prelude.{◌≡◌, ℕ, ◌<◌, ◌≤◌, ◌^◌, List, [], ◌∷◌, ◌++◌, decimal, if◌then◌else◌}
use Rattle.std.specs.List.{flat_map}
use Rattle.lits.specs.Dimacs.{DimacsLiteral}
use Rattle.tokens.specs.declared.number.Number.{Number}

-- each word with a space in front
abbrev pub spaced : List (List ℕ) → List ℕ
spaced words = flat_map (λ word. 32 ∷ word) words

-- words with one space between
abbrev pub joined : List (List ℕ) → List ℕ
joined [] = []
joined (word ∷ words) = word ++ spaced words

-- a line with its end
abbrev pub ended : List ℕ → List ℕ
ended line = line ++ 10 ∷ []

-- a literal of DIMACS, its variable from 1 to 2,147,483,647
abbrev pub IsInRange : DimacsLiteral → Type 0
IsInRange literal = (1 ≤ literal.var) × (literal.var < 2 ^ 31)

-- the number by which a literal is written
abbrev pub number_of : DimacsLiteral → Number
number_of literal = record { minus = literal.neg; size = literal.var }

-- a literal: its variable, with a minus sign in front where it is negated
unfoldable pub literal_text : DimacsLiteral → List ℕ
literal_text literal = if literal.neg then 45 ∷ decimal literal.var else decimal literal.var

-- a text that grows: new is old with more behind it
pub record Begins (old new : List ℕ) : Type 0 where
  pub more : List ℕ
  pub is : new ≡ old ++ more
