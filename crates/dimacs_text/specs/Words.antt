-- The words of a CNF text, each with the place of its first byte.
use Rattle.std.specs.Prelude.{ℕ, ◌-◌, Bool, false, List, [], ◌∷◌, ◌++◌, length, ◌==◌, if◌then◌else◌}
use Rattle.std.specs.List.{flat_map}
use Rattle.byte_scan.specs.Scanning.{Place, ahead}
use Rattle.tokens.specs.Words.{Part, placed, placed_words, is_whitespace, lines_in}

-- the words of a line, which space, tab, CR and LF part
abbrev pub words_of : Part → List Part
words_of line = placed_words is_whitespace line.at line.bytes

-- a comment is a line whose first byte is `c`
abbrev pub is_comment : List ℕ → Bool
is_comment [] = false
is_comment (b ∷ bs) = b == 99

-- what a line says: a comment says nothing
abbrev pub without_comment : List ℕ → List ℕ
without_comment line = if is_comment line then [] else line

-- the words of a text that begins at a place: those of its lines, which LF parts
abbrev pub words_from : ℕ → List ℕ → List Part
words_from at text =
    flat_map (λ line. words_of (record { at = line.at; bytes = without_comment line.bytes }))
    (placed at (lines_in text))

-- the words of a text, in order
abbrev pub words_in : List ℕ → List Part
words_in text = words_from 0 text

-- what is left of a text: of the line that is read, and the lines behind it
pub record Left : Type 0 where
  pub line : Part
  pub lines : Place

-- the words that are left
abbrev pub words_left : Left → List Part
words_left left = words_of left.line ++ words_from left.lines.at (ahead left.lines)

-- how many bytes stand in the lines behind
abbrev pub lines_left : Left → ℕ
lines_left left = length left.lines.bytes - left.lines.at
