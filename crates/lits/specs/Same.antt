-- Nodes and literals are compared and negated as the program does it.
use Rattle.std.specs.Prelude.{Bool}
use Rattle.lits.specs.Dimacs.{DimacsLiteral}
use Rattle.lits.specs.declared.node.Node.{Node}
use Rattle.lits.specs.declared.literal.Lit.{Lit}
use Rattle.lits.specs.contracts.node.NodePartialEq.TheImpl as node_eq
use Rattle.lits.specs.contracts.literal.LitPartialEq.TheImpl as lit_eq
use Rattle.lits.specs.contracts.literal.LitLiteral.TheImpl as lit_literal
use Rattle.lits.specs.contracts.dimacs.DimPartialEq.TheImpl as dim_eq
use Rattle.lits.specs.contracts.dimacs.DimLiteral.TheImpl as dim_literal

abbrev pub same_node : Node → Node → Bool
same_node = node_eq.ghosts.eq

abbrev pub same_lit : Lit → Lit → Bool
same_lit = lit_eq.ghosts.eq

abbrev pub opposite : Lit → Lit
opposite = lit_literal.ghosts.opposite

abbrev pub same_dim : DimacsLiteral → DimacsLiteral → Bool
same_dim = dim_eq.ghosts.eq

abbrev pub opposite_dim : DimacsLiteral → DimacsLiteral
opposite_dim = dim_literal.ghosts.opposite
