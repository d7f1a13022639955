-- Literals of DIMACS files: variables count from 1, a minus sign negates, and 0 is no literal.
use Rattle.std.specs.Prelude.{◌≢◌, ℕ, Bool, ℤ, pos, ◌^◌, if◌then◌else◌}
use Rattle.std.specs.Prelude.{neg_ℤ}

-- a variable, or its negation
pub record DimacsLiteral : Type 0 where
  pub var : ℕ
  pub neg : Bool

-- the number by which a file writes the literal
abbrev pub number_of : DimacsLiteral → ℤ
number_of d = if d.neg then neg_ℤ (pos d.var) else pos d.var

-- the number, of 32 bits with its sign, is that of some literal
abbrev pub HasNumber : ℤ → Type 0
HasNumber n = (n ≢ pos 0) × (n ≢ neg_ℤ (pos (2 ^ 31)))
