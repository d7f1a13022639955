-- The codes by which a trail knows literals: its variables are numbered as they come, and codes are those of
-- `flat_base`.
use Rattle.std.specs.Prelude.{◌≡◌, ℕ, ◌+◌, ◌-◌, ◌%◌, List, map, ◌==◌, if◌then◌else◌}
use Rattle.std.specs.List.{All}
use Rattle.lits.specs.Clause.{has}
use Rattle.lits.specs.Same.{same_lit}
use Rattle.lits.specs.declared.node.Node.{Node}
use Rattle.lits.specs.declared.literal.Lit.{Lit}
use Rattle.flat_base.specs.Codes.{lit_at, IsCode}

-- the code of the negation
unfoldable pub flip : ℕ → ℕ
flip l = if l % 2 == 0 then l + 1 else l - 1

-- the codes are those of the clause's literals, in any order
pub record AreCodesOf (nodes : List Node) (clause : List Lit) (codes : List ℕ) : Type 0 where
  pub within : All (IsCode nodes) codes
  pub same : (l : Lit) → has same_lit (map (lit_at nodes) codes) l ≡ has same_lit clause l
