-- The numbers that words write.
use Rattle.std.specs.Prelude.{ℕ, true, false, List, [], ◌∷◌, Option, Some, None, option_map, option_and_then, ◌==◌, if◌then◌else◌}
use Rattle.byte_scan.specs.Scanning.{value}
use Rattle.byte_scan.specs.HeaderLine.{is_number}
use Rattle.tokens.specs.declared.number.Number.{Number}

-- The size that the word writes, if it is one digit or more and nothing else. Leading zeros change nothing, and
-- 10 ^ 18 stands for all that is greater.
abbrev pub size_in : List ℕ → Option ℕ
size_in word = if is_number word then Some (value word) else None

-- the number of this size without a sign
abbrev pub plain : ℕ → Number
plain size = record { minus = false; size = size }

-- the negative number of this size; 0 has no minus sign
abbrev pub negative : ℕ → Option Number
negative size = if size == 0 then None else Some (record { minus = true; size = size })

-- the number that the word writes, if it writes one
abbrev pub number_in : List ℕ → Option Number
number_in [] = None
number_in (byte ∷ word) =
    if byte == 45 then option_and_then negative (size_in word) else option_map plain
    (size_in (byte ∷ word))

-- the numbers of some words, if each word writes one
abbrev pub numbers_in : List (List ℕ) → Option (List Number)
numbers_in [] = Some []
numbers_in (word ∷ words) =
    option_and_then (λ n. option_map (λ ns. n ∷ ns) (numbers_in words)) (number_in word)
