-- How the book of a reduced circuit is made: what stands once the first gates of B are merged, and once the first outputs are shown.
use Rattle.std.specs.Prelude.{◌≡◌, ℕ, ◌+◌, ◌<◌, ◌≤◌, true, None, Some, List, ◌++◌, length, slice_get}
use Rattle.lits.specs.declared.node.Side.TheVariants.{A, B}
use Rattle.lits.specs.declared.node.Node.TheVariants.{Gate}
use Rattle.lits.specs.declared.literal.Lit.{Lit}
use Rattle.netlist.specs.declared.gate.And.{And}
use Rattle.netlist.specs.Net.{AigPair, IsNet, position_of}
use Rattle.netlist.specs.Miter.{positive}
use Rattle.lemma_book.specs.declared.entry.Entry.{Entry}
use Rattle.lemma_book.specs.Entry.{Entries, about, has_out}
use Rattle.lemma_book.specs.Root.{root_of, IsRoot}
use Rattle.lemma_book.specs.Book.{IsLegal}
use Rattle.fraig_write.specs.Reduced.{AreStaying, reduced_to}
use Rattle.fraig_write.specs.Mirror.{AreMirrored, AreOfA, ShowOutputs}

-- B is made from A by a legal book about A; these gates of A stay
pub record IsAsked (net : AigPair) (given : Entries) (staying : List And) : Type 0 where
  pub net_is : IsNet net
  pub legal : IsLegal net given
  pub of_a : AreOfA given.entries
  pub are_staying : AreStaying net.a given.entries staying
  pub circuit : net.b ≡ reduced_to net.a given.entries staying

-- the literal is over a node that stands before the gates of B
pub record StandsInA (net : AigPair) (l : Lit) : Type 0 where
  pub place : ℕ
  pub at : position_of net l.node ≡ Some place
  pub below : place < 1 + length net.a.inputs + length net.a.gates

-- the books have one root for each such literal
abbrev pub KeepsRoots : AigPair → Entries → Entries → Type 0
KeepsRoots net old new = (l : Lit) → StandsInA net l → root_of new.entries l ≡ root_of old.entries l

-- behind the given entries the first k gates of B are merged, so that the root of each is its original, and no later one is
pub record IsUpToGate (net : AigPair) (given : Entries) (staying : List And) (k : ℕ) (book : Entries) : Type 0 where
  pub legal : IsLegal net book
  pub merges : List Entry
  pub entries : book.entries ≡ given.entries ++ merges
  pub sweep : book.sweep_budget ≡ given.sweep_budget
  pub out : book.out_budget ≡ given.out_budget
  pub count : length merges ≡ k
  pub mirrored : AreMirrored net staying given.entries merges
  pub keeps : KeepsRoots net given book
  pub merged : (m : ℕ) (g o : And) → m < k → slice_get net.b.gates m ≡ Some g → slice_get staying m ≡ Some o
      → root_of book.entries (positive (Gate B g.var)) ≡ positive (Gate A o.var)
  pub open_gates : (m : ℕ) (g : And) → k ≤ m → slice_get net.b.gates m ≡ Some g → IsRoot book.entries (Gate B g.var)
  pub open_outputs : (j : ℕ) → about book.entries j ≡ None

-- behind the merges the first k outputs are shown, and no later one is; the literals of all outputs have the roots that they had
pub record IsUpToOutput (net : AigPair) (merged : Entries) (k : ℕ) (book : Entries) : Type 0 where
  pub legal : IsLegal net book
  pub outs : List Entry
  pub entries : book.entries ≡ merged.entries ++ outs
  pub sweep : book.sweep_budget ≡ merged.sweep_budget
  pub out : book.out_budget ≡ merged.out_budget
  pub count : length outs ≡ k
  pub shown : ShowOutputs outs
  pub roots : (l : Lit) (p : ℕ) → position_of net l.node ≡ Some p → root_of book.entries l ≡ root_of merged.entries l
  pub closed : (j : ℕ) → j < k → has_out book.entries j ≡ true
  pub open_outputs : (j : ℕ) → k ≤ j → about book.entries j ≡ None

-- all gates of B are merged to those that they were made from
pub record IsMerged (net : AigPair) (book : Entries) : Type 0 where
  pub given : Entries
  pub staying : List And
  pub asked : IsAsked net given staying
  pub up : IsUpToGate net given staying (length net.b.gates) book
