-- The texts of small circuits are the files that one writes by hand.
use Rattle.std.proofs.Common.{◌≡◌, ℕ, List, [], ◌∷◌, ◌++◌, Some, None, refl}
use Rattle.std.specs.Prelude.{codes}
use Rattle.std.specs.Fmt.{digits}
use Rattle.netlist.specs.declared.gate.And.{And}
use Rattle.netlist.specs.Circuit.{Aig, plain}
use Rattle.circuit_text.specs.Lines.{number_line}
use Rattle.circuit_text.specs.Symbols.{symbol_line}
use Rattle.circuit_text.specs.AsciiText.{ascii_text}
use Rattle.circuit_text.specs.BinaryText.{binary_text, delta_text}

abbrev gate : ℕ → ℕ → ℕ → And
gate v l r = record { var = v; left = l; right = r }

abbrev aig : List ℕ → List And → List ℕ → Aig
aig i g o = plain i g o

-- two inputs, and an output that is their AND
ascii_and : ascii_text 3 (aig (1 ∷ 2 ∷ []) (gate 3 2 4 ∷ []) (6 ∷ []))
    ≡ codes "aag 3 2 0 1 1\n2\n4\n6\n6 2 4\n"
unfolding ascii_text number_line symbol_line digits
ascii_and = refl

-- the greater fanin is the first in the binary form
binary_and : binary_text (aig (1 ∷ 2 ∷ []) (gate 3 4 2 ∷ []) (6 ∷ []))
    ≡ codes "aig 3 2 0 1 1\n6\n" ++ 2 ∷ 2 ∷ []
unfolding binary_text number_line symbol_line delta_text digits
binary_and = refl

ascii_empty : ascii_text 0 (aig [] [] []) ≡ codes "aag 0 0 0 0 0\n"
unfolding ascii_text number_line symbol_line digits
ascii_empty = refl

-- the XOR of two inputs, in both forms
abbrev parity : Aig
parity = aig (1 ∷ 2 ∷ []) (gate 3 5 2 ∷ gate 4 4 3 ∷ gate 5 9 7 ∷ []) (11 ∷ [])

ascii_parity : ascii_text 5 parity ≡ codes "aag 5 2 0 1 3\n2\n4\n11\n6 5 2\n8 4 3\n10 9 7\n"
unfolding ascii_text number_line symbol_line digits
ascii_parity = refl

binary_parity : binary_text parity
    ≡ codes "aig 5 2 0 1 3\n11\n" ++ 1 ∷ 3 ∷ 4 ∷ 1 ∷ 1 ∷ 2 ∷ []
unfolding binary_text number_line symbol_line delta_text digits
binary_parity = refl

-- a number of two groups
delta_300 : delta_text 300 ≡ 0xac ∷ 0x02 ∷ []
unfolding delta_text
delta_300 = refl

-- the AND under the constraint that the first input is true
ascii_constraint : ascii_text 3 (record (aig (1 ∷ 2 ∷ []) (gate 3 2 4 ∷ []) (6 ∷ [])) { constraints = 2 ∷ [] })
    ≡ codes "aag 3 2 0 1 1 0 1\n2\n4\n6\n2\n6 2 4\n"
unfolding ascii_text number_line symbol_line digits
ascii_constraint = refl

-- the AND with names; a place without one has no line
abbrev named : Aig
named = record (aig (1 ∷ 2 ∷ []) (gate 3 4 2 ∷ []) (6 ∷ [])) {
  names = record { inputs = None ∷ Some (codes "y") ∷ []; outputs = Some (codes "the sum") ∷ [] };
}

ascii_names : ascii_text 3 named ≡ codes "aag 3 2 0 1 1\n2\n4\n6\n6 4 2\ni1 y\no0 the sum\n"
unfolding ascii_text number_line symbol_line digits
ascii_names = refl

binary_names : binary_text named ≡ codes "aig 3 2 0 1 1\n6\n" ++ 2 ∷ 2 ∷ codes "i1 y\no0 the sum\n"
unfolding binary_text number_line symbol_line delta_text digits
binary_names = refl
