-- Which numbers may stand where in the line of a proof text.
use Rattle.std.specs.Prelude.{◌^◌, Bool, not, ◌&&◌, List, [], ◌∷◌, nat_lt, ◌==◌, if◌then◌else◌}
use Rattle.std.specs.List.{list_all}
use Rattle.lits.specs.Dimacs.{DimacsLiteral}
use Rattle.tokens.specs.declared.number.Number.{Number}
use Rattle.tokens.specs.Words.{is_empty}
use Rattle.byte_scan.specs.declared.scan.TheConstants.{NUMBER_LIMIT}

abbrev pub is_zero : Number → Bool
is_zero n = n.size == 0

-- from 1 to below the limit of numbers, 10 ^ 18
abbrev pub is_id : Number → Bool
is_id n = not n.minus && (nat_lt 0 n.size && nat_lt n.size NUMBER_LIMIT)

-- a literal's variable is at most 2,147,483,647
abbrev pub is_literal : Number → Bool
is_literal n = nat_lt n.size (2 ^ 31)

-- a hint is below that limit in size
abbrev pub is_hint : Number → Bool
is_hint n = nat_lt n.size NUMBER_LIMIT

abbrev pub literal_of : Number → DimacsLiteral
literal_of n = record { var = n.size; neg = n.minus }

-- the numbers before the first 0
abbrev pub up_to_zero : List Number → List Number
up_to_zero [] = []
up_to_zero (n ∷ ns) = if is_zero n then [] else n ∷ up_to_zero ns

-- the numbers behind the first 0
abbrev pub past_zero : List Number → List Number
past_zero [] = []
past_zero (n ∷ ns) = if is_zero n then ns else past_zero ns

-- the numbers behind an id fit their places: literals, 0, hints, 0 and nothing behind
abbrev pub in_place : List Number → Bool
in_place ns =
    list_all is_literal (up_to_zero ns)
    && (list_all is_hint (up_to_zero (past_zero ns)) && is_empty (past_zero (past_zero ns)))
