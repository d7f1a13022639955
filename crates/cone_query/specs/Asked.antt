-- What is known while a pair is asked about, and what an answer settles.
use Rattle.std.specs.Prelude.{◌≡◌, ℕ, true, ◌+◌, ◌≤◌, ◌⊎◌, ⊤, Some, List, [], ◌∷◌, ◌++◌, length, take}
use Rattle.std.specs.List.{AllByRecursion}
use Rattle.lits.specs.declared.node.Node.{Node}
use Rattle.lits.specs.declared.node.Node.TheVariants.{Input}
use Rattle.lits.specs.declared.literal.Lit.{Lit}
use Rattle.lits.specs.declared.step.Named.{Named}
use Rattle.lits.specs.declared.step.Step.{Step}
use Rattle.lits.specs.Same.{same_lit, opposite}
use Rattle.netlist.specs.Net.{AigPair, IsNet}
use Rattle.netlist.specs.Miter.{positive, negative}
use Rattle.unit_prop.specs.Log.{base_clause, with_own, IsLog}
use Rattle.unit_prop.specs.Refuter.{is_over, IsOver}
use Rattle.unit_prop.specs.Step.{IsStep}
use Rattle.lemma_book.specs.declared.entry.Task.{Task}
use Rattle.lemma_book.specs.declared.entry.Entry.{Entry}
use Rattle.lemma_book.specs.Agreement.{IsTrue}
use Rattle.lemma_book.specs.Book.{IsLegal}
use Rattle.lemma_book.specs.Cone.{IsCone}
use Rattle.lemma_book.specs.Entry.{Entries}
use Rattle.lemma_book.specs.Good.{OfCone, IsGood, IsEarlier}
use Rattle.lemma_book.specs.Root.{IsRoot}
use Rattle.cone_query.specs.Query.{task_of, SeesAll, IsFalseOutside, IsWithin, IsBuilt}
use Rattle.cone_query.specs.declared.pair_query.Asked.{Asked}
use Rattle.cone_query.specs.declared.pair_query.Asked.TheVariants.{Shown, Settled}

-- the pair may be asked about: its node isn't merged, and its literal is over an earlier node
pub record IsPair (net : AigPair) (book : Entries) (task : Task) : Type 0 where
  pub net_is : IsNet net
  pub legal : IsLegal net book
  pub all_true : AllByRecursion (IsTrue net) book.entries
  pub root : IsRoot book.entries task.node
  pub earlier : IsEarlier net task.node task.lit

-- the nodes of its query
abbrev pub seeds_of : Task → List Node
seeds_of task = task.node ∷ task.lit.node ∷ []

-- the base is the cone of both nodes over the whole book
abbrev pub IsBaseOf : AigPair → Entries → Task → List Named → Type 0
IsBaseOf net book task base = IsCone net (take (length book.entries) book.entries) (seeds_of task) base

-- an input whose literal it is is named by a clause of the node's cone
abbrev pub IsNamedInput : AigPair → List Entry → Task → Type 0
IsNamedInput net entries task =
    (k : ℕ) → task.lit.node ≡ Input k → OfCone net entries (task.node ∷ []) (λ own. is_over own task.lit ≡ true)

-- the two implications between node and literal, as clauses
abbrev pub forth : Task → List Lit
forth task = negative task.node ∷ task.lit ∷ []

abbrev pub back : Task → List Lit
back task = positive task.node ∷ opposite task.lit ∷ []

abbrev pub IsImplication : Task → List Lit → Type 0
IsImplication task clause = (clause ≡ forth task) ⊎ (clause ≡ back task)

-- a query of the pair goes on: the base is the cone of both nodes over the whole book, both occur in it, the steps so far
-- were learned over it, and each unit of the budget is left or was spent for one
pub record IsQuery (net : AigPair) (book : Entries) (task : Task) (base : List Named) (log : List Step) (left : ℕ) : Type 0 where
  pub cone : IsBaseOf net book task base
  pub over : IsOver base (forth task)
  pub learned : IsLog base log
  pub spends : left + length log ≡ book.sweep_budget

-- the entry settles the pair
pub record Settles (net : AigPair) (book : Entries) (task : Task) (e : Entry) : Type 0 where
  pub about : task_of e ≡ Some task
  pub good : IsGood net book e
  pub seen : SeesAll book e
  pub outside : IsFalseOutside net book.entries e
  pub within : IsWithin net book e

-- the step is one of the implication over the base and the log, which has grown
pub record IsShown (base : List Named) (log : List Step) (clause : List Lit) (log' : List Step) (left' : ℕ) (shown : Step) : Type 0 where
  pub rest : List Step
  pub grows : log' ≡ log ++ rest
  pub budget : 1 ≤ left'
  pub clause_is : shown.clause ≡ clause
  pub step : IsStep same_lit opposite (with_own (base_clause base) log') shown.clause shown.hints

-- what an answer shows of the pair
abbrev pub IsAsked : AigPair → Entries → Task → List Named → List Step → List Lit → List Step → ℕ → Asked → Type 0
IsAsked net book task base log clause log' left' (Shown step) = IsShown base log clause log' left' step
IsAsked net book task base log clause log' left' (Settled e) = Settles net book task e

-- an entry that settles the pair is built of the log
abbrev pub IsBuiltAsked : List Step → Asked → Type 0
IsBuiltAsked log (Shown step) = ⊤
IsBuiltAsked log (Settled e) = IsBuilt log e
