-- Good entries are built of chains of steps and of logs, and these are found in them.
use Rattle.std.proofs.Common.{◌≡◌, ℕ, ◌+◌, ◌<◌, ◌≤◌, Bool, List, [], ◌∷◌, length, take, Option, None, refl}
use Rattle.lits.specs.declared.node.Node.{Node}
use Rattle.lits.specs.declared.literal.Lit.{Lit}
use Rattle.lits.specs.declared.step.Ref.{Ref}
use Rattle.lits.specs.declared.step.Step.{Step}
use Rattle.lits.specs.declared.step.Named.{Named}
use Rattle.netlist.specs.Net.{AigPair, DiffersOn}
use Rattle.unit_prop.specs.Refuter.{IsUndecided, StaysUndecided}
use Rattle.unit_prop.specs.Log.{base_clause, IsStepAfter, IsChain, IsLearned, IsLog, IsBudgetLog}
use Rattle.lemma_book.specs.declared.entry.Entry.{Entry}
use Rattle.lemma_book.specs.declared.entry.Entry.TheVariants.{Merge, Apart, Spent, Out, OutApart, OutSpent}
use Rattle.lemma_book.specs.Entry.{Entries, settled_at, merge_clauses, equal_clause}
use Rattle.lemma_book.specs.Cone.{IsCone, IsOutputCone}
use Rattle.lemma_book.specs.Good.{NoNode, Already, NotEarlier, NotApart, Shape, Count, Seen, NoStep, NotNew, AreOver, ArePlaced, IsEarlier, IsApart, EndsIn, out_clause, node_clause, IsStepAt, IsNewAt, IsUndecidedAt, IsGood}
use Rattle.lemma_book.proofs.InTurn.{in_turn-at, in_turn-each}

-- the entry is good over those before it, in a book with these budgets
abbrev pub IsGoodAfter : AigPair → ℕ → ℕ → List Entry → Entry → Type 0
IsGoodAfter net sweep out before e = IsGood net (record { sweep_budget = sweep; out_budget = out; entries = before }) e

-- a chain of steps is one at each place, and the other way round
pub chain-step : (find : Ref → Option (List Lit)) (steps : List Step) (k : ℕ) → IsChain find steps → IsStepAt find steps k
chain-step find steps k chain s at = in_turn-at (IsStepAfter find) [] steps k s chain at

pub steps-chain : (find : Ref → Option (List Lit)) (steps : List Step) → ((k : ℕ) → IsStepAt find steps k) → IsChain find steps
steps-chain find steps each = in_turn-each (IsStepAfter find) [] steps each

-- so is a log
pub log-step : (cone : List Named) (log : List Step) (k : ℕ) → IsLog cone log → IsStepAt (base_clause cone) log k
log-step cone log k learned s at = (in_turn-at (IsLearned cone) [] log k s learned at).step

pub log-new : (cone : List Named) (log : List Step) (k : ℕ) → IsLog cone log → IsNewAt cone log k
log-new cone log k learned s at = (in_turn-at (IsLearned cone) [] log k s learned at).new

pub log-undecided : (cone : List Named) (j : ℕ) (log : List Step) (k : ℕ) → StaysUndecided cone (equal_clause j) [] log → IsUndecidedAt cone j log k
log-undecided cone j log k open_all s at = in_turn-at (λ l _. IsUndecided cone (equal_clause j) l) [] log k s open_all at

module _ (net : AigPair) (book : Entries) where
  -- a merge is good whose chain of steps ends in its two clauses
  pub good-merge : (node : Node) (lit : Lit) (steps : List Step) → ArePlaced net node lit → AreOver net steps
      → settled_at book.entries (Merge node lit steps) ≡ None → IsEarlier net node lit → EndsIn (merge_clauses node lit) steps
      → length steps ≤ book.sweep_budget + 2 → IsChain (node_clause net book.entries) steps → IsGood net book (Merge node lit steps)
  good-merge node lit steps placed over new earlier ends count chain NoNode = (placed, over)
  good-merge node lit steps placed over new earlier ends count chain Already = new
  good-merge node lit steps placed over new earlier ends count chain NotEarlier = earlier
  good-merge node lit steps placed over new earlier ends count chain NotApart = tt
  good-merge node lit steps placed over new earlier ends count chain Shape = ends
  good-merge node lit steps placed over new earlier ends count chain Count = count
  good-merge node lit steps placed over new earlier ends count chain Seen = tt
  good-merge node lit steps placed over new earlier ends count chain (NoStep k) = chain-step (node_clause net book.entries) steps k chain
  good-merge node lit steps placed over new earlier ends count chain (NotNew k) = tt

  -- an input on which the two differ
  pub good-apart : (node : Node) (lit : Lit) (input : List Bool) → ArePlaced net node lit → IsEarlier net node lit → IsApart net node lit input
      → IsGood net book (Apart node lit input)
  good-apart node lit input placed earlier apart NoNode = placed
  good-apart node lit input placed earlier apart Already = refl
  good-apart node lit input placed earlier apart NotEarlier = earlier
  good-apart node lit input placed earlier apart NotApart = apart
  good-apart node lit input placed earlier apart Shape = tt
  good-apart node lit input placed earlier apart Count = tt
  good-apart node lit input placed earlier apart Seen = tt
  good-apart node lit input placed earlier apart (NoStep k) = tt
  good-apart node lit input placed earlier apart (NotNew k) = tt

  -- the log of a whole budget over the cone of the two
  pub good-spent : (node : Node) (lit : Lit) (seen : ℕ) (log : List Step) (cone : List Named) → ArePlaced net node lit → AreOver net log
      → IsEarlier net node lit → seen ≤ length book.entries → IsCone net (take seen book.entries) (node ∷ lit.node ∷ []) cone
      → IsBudgetLog cone book.sweep_budget log → IsGood net book (Spent node lit seen log)
  good-spent node lit seen log cone placed over earlier within is_cone spent NoNode = (placed, over)
  good-spent node lit seen log cone placed over earlier within is_cone spent Already = refl
  good-spent node lit seen log cone placed over earlier within is_cone spent NotEarlier = earlier
  good-spent node lit seen log cone placed over earlier within is_cone spent NotApart = tt
  good-spent node lit seen log cone placed over earlier within is_cone spent Shape = tt
  good-spent node lit seen log cone placed over earlier within is_cone spent Count = spent.whole
  good-spent node lit seen log cone placed over earlier within is_cone spent Seen = within
  good-spent node lit seen log cone placed over earlier within is_cone spent (NoStep k) =
      record { cone = cone; is_cone = is_cone; holds = log-step cone log k spent.learned }
  good-spent node lit seen log cone placed over earlier within is_cone spent (NotNew k) =
      record { cone = cone; is_cone = is_cone; holds = log-new cone log k spent.learned }

  -- an output's chain of steps ends in its unit
  pub good-out : (j : ℕ) (steps : List Step) → j < length net.a.outputs → AreOver net steps → settled_at book.entries (Out j steps) ≡ None
      → EndsIn (equal_clause j ∷ []) steps → length steps ≤ book.out_budget + 2 → IsChain (out_clause net book.entries) steps
      → IsGood net book (Out j steps)
  good-out j steps below over new ends count chain NoNode = (below, over)
  good-out j steps below over new ends count chain Already = new
  good-out j steps below over new ends count chain NotEarlier = tt
  good-out j steps below over new ends count chain NotApart = tt
  good-out j steps below over new ends count chain Shape = ends
  good-out j steps below over new ends count chain Count = count
  good-out j steps below over new ends count chain Seen = tt
  good-out j steps below over new ends count chain (NoStep k) = chain-step (out_clause net book.entries) steps k chain
  good-out j steps below over new ends count chain (NotNew k) = tt

  -- an input on which the output differs
  pub good-out_apart : (j : ℕ) (input : List Bool) → j < length net.a.outputs → settled_at book.entries (OutApart j input) ≡ None
      → DiffersOn net j input → IsGood net book (OutApart j input)
  good-out_apart j input below new apart NoNode = below
  good-out_apart j input below new apart Already = new
  good-out_apart j input below new apart NotEarlier = tt
  good-out_apart j input below new apart NotApart = apart
  good-out_apart j input below new apart Shape = tt
  good-out_apart j input below new apart Count = tt
  good-out_apart j input below new apart Seen = tt
  good-out_apart j input below new apart (NoStep k) = tt
  good-out_apart j input below new apart (NotNew k) = tt

  -- the log of a whole budget over the output's cone, before each of whose clauses the output is undecided
  pub good-out_spent : (j seen : ℕ) (log : List Step) (cone : List Named) → j < length net.a.outputs → AreOver net log
      → settled_at book.entries (OutSpent j seen log) ≡ None → seen ≤ length book.entries → IsOutputCone net (take seen book.entries) j cone
      → IsBudgetLog cone book.out_budget log → StaysUndecided cone (equal_clause j) [] log → IsGood net book (OutSpent j seen log)
  good-out_spent j seen log cone below over new within is_cone spent undecided NoNode = (below, over)
  good-out_spent j seen log cone below over new within is_cone spent undecided Already = new
  good-out_spent j seen log cone below over new within is_cone spent undecided NotEarlier = tt
  good-out_spent j seen log cone below over new within is_cone spent undecided NotApart = tt
  good-out_spent j seen log cone below over new within is_cone spent undecided Shape = tt
  good-out_spent j seen log cone below over new within is_cone spent undecided Count = spent.whole
  good-out_spent j seen log cone below over new within is_cone spent undecided Seen = within
  good-out_spent j seen log cone below over new within is_cone spent undecided (NoStep k) =
      record { cone = cone; is_cone = is_cone; holds = log-step cone log k spent.learned }
  good-out_spent j seen log cone below over new within is_cone spent undecided (NotNew k) =
      record { cone = cone; is_cone = is_cone; holds = (log-new cone log k spent.learned, log-undecided cone j log k undecided) }

  -- the steps of a good merge are a chain, and so are those of a good Out
  pub merge-chain : (node : Node) (lit : Lit) (steps : List Step) → IsGood net book (Merge node lit steps)
      → IsChain (node_clause net book.entries) steps
  merge-chain node lit steps good = steps-chain (node_clause net book.entries) steps (λ k. good (NoStep k))

  pub out-chain : (j : ℕ) (steps : List Step) → IsGood net book (Out j steps) → IsChain (out_clause net book.entries) steps
  out-chain j steps good = steps-chain (out_clause net book.entries) steps (λ k. good (NoStep k))
