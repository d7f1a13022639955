-- Named clauses over numbered variables.
use Rattle.std.specs.Prelude.{◌≡◌, ℕ, ◌≤◌, ◌-◌, ◌^◌, true, List, length, map, take, drop}
use Rattle.std.specs.List.{AllByRecursion}
use Rattle.lits.specs.Clause.{no_repeat, IsClause}
use Rattle.lits.specs.Same.{same_lit, same_node, opposite}
use Rattle.lits.specs.declared.node.Node.{Node}
use Rattle.lits.specs.declared.literal.Lit.{Lit}
use Rattle.lits.specs.declared.step.Named.{Named}
use Rattle.lits.specs.declared.step.Ref.{Ref}
use Rattle.flat_base.specs.Codes.{lit_at, IsCode}
use Rattle.flat_base.specs.declared.flat_base.Place.{Place}

-- a clause by the codes of its literals, with its name
pub record Coded : Type 0 where
  pub codes : List ℕ
  pub by : Ref

-- what contracts see of a flat base: the nodes of its variables, in the order of their numbers, and its clauses
pub record Flat : Type 0 where
  pub nodes : List Node
  pub clauses : List Coded

abbrev pub clause_at : List Node → List ℕ → List Lit
clause_at nodes codes = map (lit_at nodes) codes

-- the clause that the codes stand for
abbrev pub named_by : List Node → Coded → Named
named_by nodes c = record { clause = clause_at nodes c.codes; by = c.by }

-- the list of clauses that it stands for
abbrev pub named_of : Flat → List Named
named_of f = map (named_by f.nodes) f.clauses

-- the codes are those of a clause
pub record IsCoded (nodes : List Node) (codes : List ℕ) : Type 0 where
  pub within : AllByRecursion (IsCode nodes) codes
  pub clause : IsClause same_lit opposite (clause_at nodes codes)

-- what always holds of it: no node has two numbers, and the codes are those of clauses
pub record IsFlat (f : Flat) : Type 0 where
  pub once : no_repeat same_node f.nodes ≡ true
  pub few : length f.nodes ≤ 2 ^ 31
  pub coded : AllByRecursion (λ c. IsCoded f.nodes c.codes) f.clauses

-- the clause that stands at a place of the list of codes
abbrev pub coded_at : List ℕ → Place → Coded
coded_at codes p = record { codes = take (p.end - p.start) (drop p.start codes); by = p.by }

abbrev pub IsWithin : List ℕ → Place → Type 0
IsWithin codes p = (p.start ≤ p.end) × (p.end ≤ length codes)

abbrev pub ArePlaces : List Place → List ℕ → Type 0
ArePlaces places codes = AllByRecursion (IsWithin codes) places
