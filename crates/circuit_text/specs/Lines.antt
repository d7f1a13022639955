-- Lines of numbers, as both forms of AIGER write them (A. Biere, The AIGER And-Inverter Graph Format, 2007; AIGER 1.9,
-- 2011): numbers in decimal, one space between, and LF.
use Rattle.std.specs.Prelude.{ℕ, zero, suc, List, [], ◌∷◌, length, map, decimal}
use Rattle.tokens.specs.Text.{joined, ended}
use Rattle.netlist.specs.Circuit.{Aig}

unfoldable pub number_line : List ℕ → List ℕ
number_line numbers = ended (joined (map decimal numbers))

-- the line of one literal, as outputs and constraints have it
abbrev pub literal_line : ℕ → List ℕ
literal_line lit = number_line (lit ∷ [])

-- What stands in the header behind A: nothing without constraints, and else B, of which there are none, and C.
abbrev pub constraint_counts : ℕ → List ℕ
constraint_counts zero = []
constraint_counts (suc n) = 0 ∷ suc n ∷ []

-- The header's line: `a` (97), the form's letter, `g` (103), a space (32), and M I L O A. There are no latches. The numbers
-- B and C follow where there are constraints.
abbrev pub header_line : ℕ → ℕ → Aig → List ℕ
header_line letter m c =
    97 ∷ letter ∷ 103 ∷ 32 ∷ number_line
    (m ∷ length c.inputs ∷ 0 ∷ length c.outputs ∷ length c.gates ∷ constraint_counts (length c.constraints))
