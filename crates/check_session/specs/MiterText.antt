-- The text of the miter's clauses, by the nodes that they are about.
use Rattle.std.specs.Prelude.{ℕ, List, ◌++◌, length, map}
use Rattle.std.specs.List.{flat_map}
use Rattle.lits.specs.declared.literal.Lit.{Lit}
use Rattle.lits.specs.declared.node.Node.{Node}
use Rattle.lits.specs.declared.node.Side.{Side}
use Rattle.netlist.specs.Net.{AigPair, bounds_on, nodes_of}
use Rattle.netlist.specs.Miter.{axioms_of, numbered, positive, unit, xors_of}
use Rattle.dimacs_text.specs.CnfText.{clause_text, literal_word}

-- a literal by its number
abbrev pub word_of : AigPair → Lit → List ℕ
word_of net lit = literal_word (numbered net lit)

-- a clause by the numbers of its literals
abbrev pub line_of : AigPair → List Lit → List ℕ
line_of net clause = clause_text (map (numbered net) clause)

-- the clauses that define a node
abbrev pub node_lines : AigPair → Node → List ℕ
node_lines net node = flat_map (line_of net) (axioms_of net node)

-- the clauses that define the nodes with a position, and those of the XORs
abbrev pub defining_lines : AigPair → List ℕ
defining_lines net = flat_map (node_lines net) (nodes_of net) ++ flat_map (node_lines net) (xors_of net)

-- the units of the constraints of one side
abbrev pub unit_lines : AigPair → Side → List ℕ
unit_lines net side = flat_map (λ lit. line_of net (unit lit)) (bounds_on net side)

-- the clause that some XOR is true
abbrev pub xor_line : AigPair → List ℕ
xor_line net = line_of net (map positive (xors_of net))
