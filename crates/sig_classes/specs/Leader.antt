-- Candidates of SAT sweeping by FRAIGs (Mishchenko, Chatterjee, Jiang and Brayton 2005): nodes that no pattern tells apart,
-- up to complement, share a class, and each class is led by its least root.
use Rattle.std.specs.Prelude.{◌≡◌, ◌⊎◌, ℕ, Bool, true, false, ⊤, List, [], ◌∷◌}
use Rattle.std.specs.List.{AllByRecursion}
use Rattle.std.specs.Option.{IsSome}
use Rattle.lits.specs.declared.node.Side.{Side}
use Rattle.lits.specs.declared.node.Node.{Node}
use Rattle.lits.specs.declared.node.Node.TheVariants.{Gate}
use Rattle.lits.specs.declared.literal.Lit.{Lit}
use Rattle.netlist.specs.Net.{AigPair, position_of, value_of, lit_holds}
use Rattle.lemma_book.specs.declared.entry.Entry.{Entry}
use Rattle.lemma_book.specs.declared.entry.Task.{Task}
use Rattle.lemma_book.specs.Entry.{has_spent_on}
use Rattle.lemma_book.specs.Root.{IsRoot}
use Rattle.lemma_book.specs.Good.{IsEarlier}
use Rattle.lemma_book.specs.Agreement.{HasValueOf}

-- the node has the literal's value on each of the patterns
abbrev pub IsAlike : AigPair → List (List Bool) → Node → Lit → Type 0
IsAlike net patterns n lit = AllByRecursion (λ bits. value_of net bits n ≡ lit_holds (value_of net bits) lit) patterns

-- the literal is over a root that no pattern tells apart from the node
pub record IsCandidate (net : AigPair) (entries : List Entry) (patterns : List (List Bool)) (n : Node) (lit : Lit) : Type 0 where
  pub there : IsSome (position_of net lit.node)
  pub root : IsRoot entries lit.node
  pub alike : IsAlike net patterns n lit

-- the leader of a node: of those candidates that which is least in position
pub record IsLeader (net : AigPair) (entries : List Entry) (patterns : List (List Bool)) (n : Node) (lit : Lit) : Type 0 where
  pub candidate : IsCandidate net entries patterns n lit
  pub least : (m : Lit) → IsEarlier net lit.node m → ¬ IsCandidate net entries patterns n m

-- a gate that is its own root
pub record IsOpenGate (net : AigPair) (entries : List Entry) (n : Node) : Type 0 where
  pub side : Side
  pub var : ℕ
  pub gate : n ≡ Gate side var
  pub there : IsSome (position_of net n)
  pub root : IsRoot entries n

-- the pair is to be asked for: the node is such a gate, the literal is its leader, is over another node, and no query of the
-- two has spent its budget
pub record IsDue (net : AigPair) (entries : List Entry) (patterns : List (List Bool)) (task : Task) : Type 0 where
  pub gate : IsOpenGate net entries task.node
  pub leader : IsLeader net entries patterns task.node task.lit
  pub earlier : IsEarlier net task.node task.lit
  pub unspent : has_spent_on entries task.node task.lit ≡ false

-- the tasks stand in order of position, so no node comes twice
abbrev pub AreRising : AigPair → List Task → Type 0
AreRising net [] = ⊤
AreRising net (t ∷ ts) = AllByRecursion (λ u. IsEarlier net u.node (record { node = t.node; neg = false })) ts × AreRising net ts

abbrev pub IsIn : Task → List Task → Type 0
IsIn t [] = ⊥
IsIn t (u ∷ us) = (t ≡ u) ⊎ IsIn t us

-- the tasks are the pairs that are due, in order of position
pub record AreTasks (net : AigPair) (entries : List Entry) (patterns : List (List Bool)) (tasks : List Task) : Type 0 where
  pub due : AllByRecursion (IsDue net entries patterns) tasks
  pub rising : AreRising net tasks
  pub whole : (t : Task) → IsDue net entries patterns t → IsIn t tasks

-- each gate that is its own root leads its class, or a query of it and its leader spent its budget
abbrev pub IsReduced : AigPair → List Entry → List (List Bool) → Type 0
IsReduced net entries patterns = (t : Task) → IsOpenGate net entries t.node → IsLeader net entries patterns t.node t.lit
    → IsEarlier net t.node t.lit → has_spent_on entries t.node t.lit ≡ true

-- a query of the node and some literal spent its budget
pub record HasSpent (entries : List Entry) (n : Node) : Type 0 where
  pub lit : Lit
  pub spent : has_spent_on entries n lit ≡ true

-- no earlier root has the node's value, or its complement, on every input
abbrev pub IsLone : AigPair → List Entry → Node → Type 0
IsLone net entries n = (m : Lit) → IsEarlier net n m → IsRoot entries m.node → ¬ HasValueOf net n m

-- each gate that is its own root has no earlier equal, or a query of it spent its budget
abbrev pub IsSwept : AigPair → List Entry → Type 0
IsSwept net entries = (n : Node) → IsOpenGate net entries n → HasSpent entries n ⊎ IsLone net entries n
