-- Nodes and literals that the program finds equal are one, and each equals itself.
use Rattle.std.proofs.Common.{◌≡◌, true, rules}
use Rattle.lits.specs.declared.node.Node.{Node}
use Rattle.lits.specs.declared.literal.Lit.{Lit}
use Rattle.lits.specs.Same.{same_node, same_lit}

-- nodes that are found equal are one
pub exact-node : (x y : Node) → same_node x y ≡ true → x ≡ y
exact-node = search rules

-- a node equals itself
pub same-node_self : (x : Node) → same_node x x ≡ true
same-node_self = search rules

-- literals that are found equal are one
pub exact-lit : (x y : Lit) → same_lit x y ≡ true → x ≡ y
exact-lit = search rules

-- a literal equals itself
pub same-lit_self : (x : Lit) → same_lit x x ≡ true
same-lit_self = search rules
