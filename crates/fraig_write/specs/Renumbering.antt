-- What the new numbers of a reduced circuit are found by.
use Rattle.std.specs.Prelude.{◌≡◌, ◌+◌, ◌<◌, ◌≤◌, ◌==◌, ℕ, ⊤, false, Some, List, ◌∷◌, length, slice_get}
use Rattle.std.specs.Option.{IsSome}
use Rattle.lits.specs.Clause.{has}
use Rattle.lits.specs.declared.node.Side.TheVariants.{A}
use Rattle.lits.specs.declared.node.Node.{Node}
use Rattle.lits.specs.declared.node.Node.TheVariants.{Const, Input, Gate}
use Rattle.netlist.specs.declared.gate.And.{And}
use Rattle.netlist.specs.Place.{place_of}
use Rattle.netlist.specs.Circuit.{Aig, gate_vars, most}
use Rattle.netlist.specs.Net.{lit_named}
use Rattle.netlist.specs.VariableTable.{IsTable, Places}
use Rattle.lemma_book.specs.declared.entry.Entry.{Entry}
use Rattle.lemma_book.specs.Root.{root_of}

-- how many inputs there are, and the gates that stay
pub record Numbering : Type 0 where
  pub inputs : ℕ
  pub staying : List And

-- the table finds the gates that stay; none of them has the constant's variable, and there are few of them
pub record IsNumbering (n : Numbering) (table : Places) : Type 0 where
  pub table_is : IsTable table (0 ∷ gate_vars n.staying)
  pub no_constant : has ◌==◌ (gate_vars n.staying) 0 ≡ false
  pub few : n.inputs + length n.staying ≤ most

-- the node has a new number: it is the constant, an input or a gate that stays
abbrev pub HasNumber : Numbering → Node → Type 0
HasNumber numbering Const = ⊤
HasNumber numbering (Input k) = k < numbering.inputs
HasNumber numbering (Gate side v) = IsSome (place_of (λ g. g.var == v) numbering.staying)
HasNumber numbering n = ⊥

-- the root of an AIGER literal of A has one
abbrev pub RootHasNumber : Aig → List Entry → Numbering → ℕ → Type 0
RootHasNumber a entries numbering lit = HasNumber numbering (root_of entries (lit_named A a lit)).node

-- a gate of A has one, and so have the roots of its fanins
pub record GateHasNumbers (a : Aig) (entries : List Entry) (numbering : Numbering) (g : And) : Type 0 where
  pub place : ℕ
  pub at : slice_get a.gates place ≡ Some g
  pub own : HasNumber numbering (Gate A g.var)
  pub left : RootHasNumber a entries numbering g.left
  pub right : RootHasNumber a entries numbering g.right
