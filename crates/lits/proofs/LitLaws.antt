-- The laws of the two kinds of literal, and of nodes.
use Rattle.std.proofs.Common.{refl, rules}
use Rattle.lits.proofs.ClauseLemmas.{IsLiteral, is_literal}
use Rattle.lits.specs.contracts.literal.LitEq.TheImpl.Laws as lit_eq
use Rattle.lits.specs.contracts.literal.LitLiteral.TheImpl.Laws as lit
use Rattle.lits.specs.contracts.dimacs.DimEq.TheImpl.Laws as dim_eq
use Rattle.lits.specs.contracts.dimacs.DimLiteral.TheImpl.Laws as dim
use Rattle.lits.specs.contracts.node.NodeEq.TheImpl.Laws as node_eq
use Rattle.lits.specs.Same.{same_node, same_lit, opposite, same_dim, opposite_dim}

pub lit_laws : IsLiteral same_lit opposite
lit_laws = is_literal lit_eq.laws-law lit.exact-law lit.twice-law

pub dim_laws : IsLiteral same_dim opposite_dim
dim_laws = is_literal dim_eq.laws-law dim.exact-law dim.twice-law

-- a node has no sign
pub node_laws : IsLiteral same_node (λ n. n)
node_laws = is_literal node_eq.laws-law (search rules) (λ n. refl)
