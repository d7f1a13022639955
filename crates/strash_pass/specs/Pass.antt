-- What the pass keeps from gate to gate, and what it asks of a merge.
use Rattle.std.specs.Prelude.{◌≡◌, ◌<◌, ◌+◌, ◌⊎◌, ℕ, Bool, true, false, List, [], ◌∷◌, map, length, slice_get, Some}
use Rattle.std.specs.Option.{IsSome}
use Rattle.std.specs.List.{AllByRecursion}
use Rattle.lits.specs.declared.node.Node.TheVariants.{Xor}
use Rattle.lits.specs.declared.node.Side.{Side}
use Rattle.lits.specs.declared.node.Side.TheVariants.{A, B}
use Rattle.lits.specs.declared.node.Node.{Node}
use Rattle.lits.specs.declared.literal.Lit.{Lit}
use Rattle.lits.specs.declared.step.Named.{Named}
use Rattle.lits.specs.declared.step.Step.{Step}
use Rattle.lits.specs.Clause.{has}
use Rattle.lits.specs.Same.{same_lit, same_node, opposite}
use Rattle.netlist.specs.declared.gate.Definition.{Definition}
use Rattle.netlist.specs.Net.{AigPair, definitions, position_of}
use Rattle.netlist.specs.Miter.{positive, negative}
use Rattle.unit_prop.specs.Closure.{IsOpen}
use Rattle.unit_prop.specs.Log.{base_clause, base_clauses}
use Rattle.unit_prop.specs.Step.{IsStep}
use Rattle.lemma_book.specs.declared.entry.Entry.{Entry}
use Rattle.lemma_book.specs.declared.entry.Entry.TheVariants.{Merge}
use Rattle.lemma_book.specs.Entry.{Entries, with_last}
use Rattle.lemma_book.specs.Root.{passed_by, root_of, IsRoot}
use Rattle.lemma_book.specs.Cone.{Covers, clauses_on, nodes_in}
use Rattle.strash_pass.specs.Codes.{code_of}
use Rattle.strash_pass.specs.Twins.{Noted, Table}
use Rattle.strash_pass.specs.Strash.{ArePlainBelow, AreScanned, AreTwins}

-- the note has the codes of two literals, in either order
abbrev pub AreCodes : AigPair → Noted → Lit → Lit → Type 0
AreCodes net note a b =
    ((code_of net a ≡ Some note.low) × (code_of net b ≡ Some note.high))
    ⊎ ((code_of net a ≡ Some note.high) × (code_of net b ≡ Some note.low))

-- the note is of one of the first n gates, which isn't merged, and has its fanins' roots
pub record IsSeen (net : AigPair) (entries : List Entry) (n : ℕ) (note : Noted) : Type 0 where
  pub place : ℕ
  pub gate : Definition
  pub below : place < n
  pub at : slice_get (definitions net) place ≡ Some gate
  pub position : note.gate ≡ 1 + length net.a.inputs + place
  pub unmerged : IsRoot entries gate.node
  pub codes : AreCodes net note (root_of entries gate.left) (root_of entries gate.right)

-- the table has a note of the two literals
pub record IsListed (net : AigPair) (table : Table) (a b : Lit) : Type 0 where
  pub place : ℕ
  pub note : Noted
  pub at : slice_get table.notes place ≡ Some note
  pub codes : AreCodes net note a b

-- the first n gates are plain, and the table has those of them that aren't merged by their roots
pub record IsPass (net : AigPair) (entries : List Entry) (table : Table) (n : ℕ) : Type 0 where
  pub plain : ArePlainBelow net entries n
  pub sound : (i : ℕ) (note : Noted) → slice_get table.notes i ≡ Some note → IsSeen net entries n note
  pub whole : (k : ℕ) (c : Definition) → k < n → slice_get (definitions net) k ≡ Some c → IsRoot entries c.node
      → IsListed net table (root_of entries c.left) (root_of entries c.right)

-- the nodes have a gate, which isn't merged, and those that are merged on its fanins' ways to their roots
pub record Reaches (entries : List Entry) (nodes : List Node) (d : Definition) : Type 0 where
  pub inside : has same_node nodes d.node ≡ true
  pub unmerged : IsRoot entries d.node
  pub left : Covers nodes (passed_by entries d.left)
  pub right : Covers nodes (passed_by entries d.right)

-- so do the literals, and each of them has a position
pub record IsWay (net : AigPair) (entries : List Entry) (way : List Lit) (d : Definition) : Type 0 where
  pub placed : AllByRecursion (λ l. IsSome (position_of net l.node)) way
  pub reaches : Reaches entries (nodes_in way) d

-- it is one of the net's gates
pub record HasGate (net : AigPair) (d : Definition) : Type 0 where
  pub place : ℕ
  pub at : slice_get (definitions net) place ≡ Some d

-- c is an earlier gate that isn't merged, over the same two roots
pub record IsTwin (net : AigPair) (entries : List Entry) (c d : Definition) : Type 0 where
  pub first : ℕ
  pub second : ℕ
  pub earlier : first < second
  pub at_first : slice_get (definitions net) first ≡ Some c
  pub at_second : slice_get (definitions net) second ≡ Some d
  pub unmerged : IsRoot entries c.node
  pub twins : AreTwins entries c d

-- unit propagation over these clauses shows the clause of the two literals
abbrev pub ShowsOver : List (List Lit) → Lit → Lit → Type 0
ShowsOver clauses a b = ¬ IsOpen same_lit opposite clauses (map opposite (a ∷ b ∷ []))

-- so it does over the clauses of these nodes alone
abbrev pub Shows : AigPair → List Entry → List Lit → Lit → Lit → Type 0
Shows net entries way a b = ShowsOver (base_clauses (clauses_on net entries (nodes_in way))) a b

-- and so both clauses of a merge
pub record ShowsMerge (net : AigPair) (entries : List Entry) (way : List Lit) (node : Node) (target : Lit) : Type 0 where
  pub below : Shows net entries way (negative node) target
  pub above : Shows net entries way (positive node) (opposite target)

-- one step over the base for each of the two clauses of a merge
abbrev pub AreSteps : List Named → Node → Lit → List Step → Type 0
AreSteps base node target (below ∷ above ∷ []) =
    ((below.clause ≡ negative node ∷ target ∷ []) × IsStep same_lit opposite (base_clause base) below.clause below.hints)
    × ((above.clause ≡ positive node ∷ opposite target ∷ []) × IsStep same_lit opposite (base_clause base) above.clause above.hints)
AreSteps base node target _ = ⊥

-- the book has one more entry, which merges the node by the steps that scanning the clauses of the way gives
pub record Merges (net : AigPair) (old new : Entries) (way : List Lit) (node : Node) (target : Lit) : Type 0 where
  pub steps : List Step
  pub last : new ≡ with_last old (Merge node target steps)
  pub scanned : AreScanned (clauses_on net old.entries (nodes_in way)) node target steps

-- none of the nodes is an XOR
abbrev pub is_xor : Node → Bool
is_xor (Xor j) = true
is_xor _ = false

abbrev pub AreNotXors : List Lit → Type 0
AreNotXors lits = AllByRecursion (λ l. is_xor l.node ≡ false) lits

-- how many gates stand before those of a side
abbrev pub gates_before : AigPair → Side → ℕ
gates_before net A = 0
gates_before net B = length net.a.gates
