-- Where a scan stands in its bytes, and what the next byte, number and line are.
use Rattle.std.specs.Prelude.{ℕ, ◌+◌, ◌-◌, ◌*◌, List, [], ◌∷◌, Option, None, Some, length, drop, min, if◌then◌else◌, ◌==◌}
use Rattle.std.specs.Char.{is_ascii_digit}
use Rattle.byte_scan.specs.declared.scan.TheConstants.{NUMBER_LIMIT}

-- the bytes of an input, and how many of them lie behind
pub record Place : Type 0 where
  pub bytes : List ℕ
  pub at : ℕ

-- the bytes that are left
abbrev pub ahead : Place → List ℕ
ahead p = drop p.at p.bytes

-- the same input, n bytes further on, and never past its end
abbrev pub moved : Place → ℕ → Place
moved p n = record { bytes = p.bytes; at = min (p.at + n) (length p.bytes) }

-- the digits that stand in front
abbrev pub digits : List ℕ → List ℕ
digits [] = []
digits (b ∷ bs) = if is_ascii_digit b then b ∷ digits bs else []

-- the decimal number that begins with n and goes on with these digits
unfoldable pub value_from : ℕ → List ℕ → ℕ
value_from n [] = n
value_from n (d ∷ ds) = value_from (n * 10 + (d - 48)) ds

-- the value of some digits, or the limit, 10 ^ 18, where it is greater; leading zeros change nothing
abbrev pub value : List ℕ → ℕ
value ds = min (value_from 0 ds) NUMBER_LIMIT

-- the number that stands in front: one or more digits, as many as stand there
abbrev pub number_of : List ℕ → Option ℕ
number_of bytes = if length (digits bytes) == 0 then None else Some (value (digits bytes))

-- the bytes up to the next LF, or to the end where there is none
abbrev pub line_of : List ℕ → List ℕ
line_of [] = []
line_of (b ∷ bs) = if b == 10 then [] else b ∷ line_of bs

-- the line that stands in front, and none at the end
abbrev pub next_line : List ℕ → Option (List ℕ)
next_line bytes = if length bytes == 0 then None else Some (line_of bytes)
