-- Which nodes have numbers in a flat base, and how these are found.
use Rattle.std.specs.Prelude.{◌≡◌, ℕ, Bool, ◌||◌, Option, List, [], ◌∷◌, ◌++◌}
use Rattle.std.specs.Option.{option_and_then}
use Rattle.std.specs.List.{list_any, AllByRecursion}
use Rattle.lits.specs.Clause.{has}
use Rattle.lits.specs.Same.{same_node}
use Rattle.lits.specs.declared.node.Node.{Node}
use Rattle.lits.specs.declared.literal.Lit.{Lit}
use Rattle.lits.specs.declared.step.Named.{Named}
use Rattle.netlist.specs.Net.{AigPair}
use Rattle.netlist.specs.Miter.{variable_of}
use Rattle.netlist.specs.Place.{place_of}
use Rattle.flat_base.specs.Codes.{lit_at, IsCode}
use Rattle.flat_base.specs.Flat.{Flat, clause_at, named_of}
use Rattle.flat_cones.specs.Spots.{Table, number_at}

-- what contracts see of `Cones`: the cone that was made last, and the spots of the variables
pub record Cone : Type 0 where
  pub base : Flat
  pub spots : Table

-- the number that stands at the node's spot
abbrev pub number_of : AigPair → Table → Node → Option ℕ
number_of net t n = option_and_then (number_at t) (variable_of net n)

-- some clause has a literal of the node
abbrev pub is_named : List Named → Node → Bool
is_named base n = list_any (λ m. list_any (λ l. same_node l.node n) m.clause) base

-- a node's number is its place among the numbered ones
abbrev pub ArePlaces : AigPair → Table → Flat → Type 0
ArePlaces net t f = (n : Node) → number_of net t n ≡ place_of (λ m. same_node m n) f.nodes

-- so it is, and the numbered ones are those that clauses name
pub record IsNumbered (net : AigPair) (t : Table) (f : Flat) : Type 0 where
  pub places : ArePlaces net t f
  pub named : (n : Node) → has same_node f.nodes n ≡ is_named (named_of f) n

-- these nodes are numbered now too, and no clause has changed
pub record Takes (net : AigPair) (old : Flat) (nodes : List Node) (t : Table) (new : Flat) : Type 0 where
  pub places : ArePlaces net t new
  pub numbered : (n : Node) → has same_node new.nodes n ≡ (has same_node old.nodes n || has same_node nodes n)
  pub named : named_of new ≡ named_of old
  pub more : List Node
  pub grows : new.nodes ≡ old.nodes ++ more

-- the code of the literal is put last
pub record PutsCode (old : List ℕ) (lit : Lit) (nodes : List Node) (new : List ℕ) : Type 0 where
  pub code : ℕ
  pub put : new ≡ old ++ code ∷ []
  pub is_code : IsCode nodes code
  pub at : lit_at nodes code ≡ lit

-- they are the codes of the literals
pub record AreCodes (nodes : List Node) (lits : List Lit) (codes : List ℕ) : Type 0 where
  pub within : AllByRecursion (IsCode nodes) codes
  pub at : clause_at nodes codes ≡ lits

-- these clauses are put last
pub record Adds (net : AigPair) (old : Flat) (clauses : List Named) (t : Table) (new : Flat) : Type 0 where
  pub numbered : IsNumbered net t new
  pub named : named_of new ≡ named_of old ++ clauses
