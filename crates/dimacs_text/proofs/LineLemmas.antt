-- The words of a text, by its first line.
use Rattle.std.proofs.Common.{◌≡◌, ℕ, ◌++◌, List, refl, inl, inr}
use Rattle.byte_scan.specs.Scanning.{Place, ahead}
use Rattle.tokens.specs.Words.{Part}
use Rattle.tokens.proofs.Facts.{ReadsLine}
use Rattle.dimacs_text.specs.Words.{without_comment, words_of, words_from}

-- the words of a line, unless it is a comment
abbrev pub said_by : ℕ → List ℕ → List Part
said_by at line = words_of (record { at = at; bytes = without_comment line })

-- the words of a text are those of its first line and of what stands behind that
pub words_from-line : (p q : Place) (line : List ℕ) → ReadsLine p q line
    → words_from p.at (ahead p) ≡ said_by p.at line ++ words_from q.at (ahead q)
words_from-line p q line r = elim r.lines [
  | inl (only, end) ↦ rw (only, end) refl
  | inr (others, next) ↦ rw (others, next) refl
]
