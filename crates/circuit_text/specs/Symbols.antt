-- The symbol table of a circuit (A. Biere, The AIGER And-Inverter Graph Format, 2007): a line for each input that has a
-- name, then one for each such output.
use Rattle.std.specs.Prelude.{ℕ, ◌+◌, List, [], ◌∷◌, ◌++◌, Option, Some, None, decimal}
use Rattle.tokens.specs.Text.{ended}
use Rattle.symbol_names.specs.declared.names.Names.{Names}

-- the line of a place: a letter, the place's number, a space (32) and the name; none where the place has no name
unfoldable pub symbol_line : ℕ → ℕ → Option (List ℕ) → List ℕ
symbol_line letter k None = []
symbol_line letter k (Some name) = letter ∷ (decimal k ++ 32 ∷ ended name)

-- the lines of these names, the first of which stands at place k
abbrev pub symbol_lines : ℕ → ℕ → List (Option (List ℕ)) → List ℕ
symbol_lines letter k [] = []
symbol_lines letter k (name ∷ names) = symbol_line letter k name ++ symbol_lines letter (k + 1) names

-- the lines of the inputs, `i` (105), then those of the outputs, `o` (111)
abbrev pub symbols_text : Names → List ℕ
symbols_text names = symbol_lines 105 0 names.inputs ++ symbol_lines 111 0 names.outputs
