-- The lines of a text, and the words of a line. A test says which bytes are blanks; the words are what stands between.
use Rattle.std.specs.Prelude.{ℕ, ◌+◌, Bool, true, false, not, ◌||◌, List, [], ◌∷◌, length, filter, ◌==◌}
use Rattle.std.specs.List.{slice_split}

abbrev pub is_empty : {X : Type 0} → List X → Bool
is_empty [] = true
is_empty (x ∷ xs) = false

-- the lines of a text, which LF parts
abbrev pub lines_in : List ℕ → List (List ℕ)
lines_in text = slice_split (λ b. b == 10) text

-- the space alone
abbrev pub is_space : ℕ → Bool
is_space b = b == 32

-- space, tab, CR and LF
abbrev pub is_whitespace : ℕ → Bool
is_whitespace b = b == 32 || b == 9 || b == 13 || b == 10

-- the words of a line, in order
abbrev pub words_by : (ℕ → Bool) → List ℕ → List (List ℕ)
words_by is_blank line = filter (λ word. not (is_empty word)) (slice_split is_blank line)

-- a part of a text, and the place of its first byte, from 0
pub record Part : Type 0 where
  pub at : ℕ
  pub bytes : List ℕ

-- parts that stand one behind the other from a place on, with one byte between
abbrev pub placed : ℕ → List (List ℕ) → List Part
placed at [] = []
placed at (bytes ∷ parts) = record { at = at; bytes = bytes } ∷ placed (at + length bytes + 1) parts

-- the words of a line that stands at a place, each with its own place
abbrev pub placed_words : (ℕ → Bool) → ℕ → List ℕ → List Part
placed_words is_blank at line =
    filter (λ word. not (is_empty word.bytes)) (placed at (slice_split is_blank line))
