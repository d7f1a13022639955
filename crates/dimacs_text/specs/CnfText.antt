-- The text of a CNF in the format of the DIMACS challenge (1993), one clause a line, with one space between numbers.
use Rattle.std.specs.Prelude.{ℕ, ◌≤◌, List, [], ◌∷◌, ◌++◌, length, codes, decimal}
use Rattle.std.specs.List.{flat_map}
use Rattle.lits.specs.Dimacs.{DimacsLiteral}
use Rattle.tokens.specs.Text.{literal_text}

-- a literal of a variable from 1 to this one
abbrev pub IsOver : ℕ → DimacsLiteral → Type 0
IsOver variables literal = (1 ≤ literal.var) × (literal.var ≤ variables)

-- a literal of a clause, with a space behind it
abbrev pub literal_word : DimacsLiteral → List ℕ
literal_word d = literal_text d ++ 32 ∷ []

-- a clause: its literals, then 0 and the line's end
unfoldable pub clause_text : List DimacsLiteral → List ℕ
clause_text clause = flat_map literal_word clause ++ codes "0\n"

-- the header: how many variables and how many clauses there are
unfoldable pub header_text : ℕ → ℕ → List ℕ
header_text variables count =
    codes "p cnf " ++ decimal variables ++ codes " " ++ decimal count ++ codes "\n"

-- the text of the clauses over variables from 1 to this one
unfoldable pub cnf_text : ℕ → List (List DimacsLiteral) → List ℕ
cnf_text variables clauses = header_text variables (length clauses) ++ flat_map clause_text clauses
