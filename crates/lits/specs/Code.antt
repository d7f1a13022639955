-- The number of a literal, by which tables spread literals.
use Rattle.std.specs.Prelude.{ℕ, ◌+◌, ◌*◌, if◌then◌else◌}
use Rattle.lits.specs.Dimacs.{DimacsLiteral}
use Rattle.lits.specs.declared.node.Node.{Node}
use Rattle.lits.specs.declared.node.Node.TheVariants.{Const, Input, Gate, Xor}
use Rattle.lits.specs.declared.node.Side.TheVariants.{A, B}
use Rattle.lits.specs.declared.literal.Lit.{Lit}

abbrev pub code_of_node : Node → ℕ
code_of_node Const = 0
code_of_node (Input i) = 5 * i + 1
code_of_node (Gate A v) = 5 * v + 2
code_of_node (Gate B v) = 5 * v + 3
code_of_node (Xor i) = 5 * i + 4

abbrev pub code_of_lit : Lit → ℕ
code_of_lit l = 2 * code_of_node l.node + (if l.neg then 1 else 0)

abbrev pub code_of_dim : DimacsLiteral → ℕ
code_of_dim d = 2 * d.var + (if d.neg then 1 else 0)
