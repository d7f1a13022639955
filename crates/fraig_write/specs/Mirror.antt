-- The book that shows a circuit and its reduced circuit equal: each gate of the reduced circuit was made from one of the circuit, whose
-- fanins have the same roots, so the two are merged as structural twins; then both sides of each output have one root.
use Rattle.std.specs.Prelude.{◌≡◌, ℕ, ◌≤◌, Bool, true, false, List, ◌++◌, length, take, slice_get, Some}
use Rattle.std.specs.List.{AllByRecursion}
use Rattle.lits.specs.declared.node.Side.TheVariants.{A, B}
use Rattle.lits.specs.declared.node.Node.{Node}
use Rattle.lits.specs.declared.node.Node.TheVariants.{Const, Input, Gate, Xor}
use Rattle.lits.specs.declared.step.Step.{Step}
use Rattle.netlist.specs.declared.gate.And.{And}
use Rattle.netlist.specs.Net.{AigPair, definition_of}
use Rattle.netlist.specs.Miter.{positive}
use Rattle.lemma_book.specs.declared.entry.Entry.{Entry}
use Rattle.lemma_book.specs.declared.entry.Entry.TheVariants.{Merge, Out}
use Rattle.lemma_book.specs.Entry.{Entries, Question, OfPair, OfOutput, question_of}
use Rattle.lemma_book.specs.Cone.{clauses_on, nodes_in}
use Rattle.strash_pass.specs.Strash.{AreScanned, way_of}
use Rattle.fraig_write.specs.Reduced.{AreStaying}

-- ---- books about circuit A alone

-- the constant, an input, or a gate of A
abbrev pub is_of_a : Node → Bool
is_of_a Const = true
is_of_a (Input k) = true
is_of_a (Gate A v) = true
is_of_a (Gate B v) = false
is_of_a (Xor j) = false

abbrev pub AsksOfA : Question → Type 0
AsksOfA (OfPair node lit) = is_of_a node ≡ true
AsksOfA (OfOutput j) = ⊥

-- the entry is about a pair whose node isn't of B, and so about no output
abbrev pub IsOfA : Entry → Type 0
IsOfA e = AsksOfA (question_of e)

-- each entry is
abbrev pub AreOfA : List Entry → Type 0
AreOfA entries = AllByRecursion IsOfA entries

-- ---- the book

-- the entry merges gate k of B to the gate of A that it was made from, by the steps that scanning the clauses of both gates' ways
-- gives, as the structural pass does for two gates over the same roots
pub record IsMirrored (net : AigPair) (staying : List And) (entries : List Entry) (k : ℕ) (e : Entry) : Type 0 where
  pub gate : And
  pub original : And
  pub of_b : slice_get net.b.gates k ≡ Some gate
  pub of_a : slice_get staying k ≡ Some original
  pub steps : List Step
  pub entry : e ≡ Merge (Gate B gate.var) (positive (Gate A original.var)) steps
  pub scanned : AreScanned
      (clauses_on net entries (nodes_in (way_of entries (definition_of B net.b gate) ++ way_of entries (definition_of A net.a original))))
      (Gate B gate.var) (positive (Gate A original.var)) steps

-- the entries do so gate by gate from the first on, each over those before it
abbrev pub AreMirrored : AigPair → List And → List Entry → List Entry → Type 0
AreMirrored net staying entries merges =
    (k : ℕ) (e : Entry) → slice_get merges k ≡ Some e → IsMirrored net staying (entries ++ take k merges) k e

-- the entry shows the output equal in two steps at most
abbrev pub ShowsOutput : ℕ → Entry → Type 0
ShowsOutput j (Out i steps) = (i ≡ j) × (length steps ≤ 2)
ShowsOutput j _ = ⊥

-- the entries do so output by output from the first on
abbrev pub ShowOutputs : List Entry → Type 0
ShowOutputs outs = (j : ℕ) (e : Entry) → slice_get outs j ≡ Some e → ShowsOutput j e

-- the book that shows A and its reduced circuit B equal: behind the entries of a book about A stand the merges of B's gates, and
-- then an entry for each output
pub record IsMirror (net : AigPair) (old new : Entries) : Type 0 where
  pub staying : List And
  pub are_staying : AreStaying net.a old.entries staying
  pub merges : List Entry
  pub outs : List Entry
  pub entries : new.entries ≡ (old.entries ++ merges) ++ outs
  pub sweep : new.sweep_budget ≡ old.sweep_budget
  pub out : new.out_budget ≡ old.out_budget
  pub merge_count : length merges ≡ length net.b.gates
  pub mirrored : AreMirrored net staying old.entries merges
  pub out_count : length outs ≡ length net.a.outputs
  pub shown : ShowOutputs outs
