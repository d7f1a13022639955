-- Clauses of at most three literals.
use Rattle.std.specs.Prelude.{◌≢◌, ◌≤◌, Option, None, Some, List, length, if◌then◌else◌}
use Rattle.lits.specs.Clause.{firsts, has_pair, IsClause}
use Rattle.lits.specs.Same.{same_lit, opposite}
use Rattle.lits.specs.declared.literal.Lit.{Lit}
use Rattle.netlist.specs.declared.gate.Definition.{Definition}

-- at most three literals, which make a clause
pub record IsShort (lits : List Lit) : Type 0 where
  pub few : length lits ≤ 3
  pub clause : IsClause same_lit opposite lits

-- the clause of the literals, as it stays; none where it is left out
abbrev pub kept_clause : List Lit → Option (List Lit)
kept_clause c = if has_pair same_lit opposite c then None else Some (firsts same_lit c)

-- the node isn't one of those that define it
pub record IsApart (d : Definition) : Type 0 where
  pub left : d.node ≢ d.left.node
  pub right : d.node ≢ d.right.node
