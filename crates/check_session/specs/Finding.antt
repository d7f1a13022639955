-- What a check finds, as the entries of its book show it, and what that means for the circuits.
use Rattle.std.specs.Prelude.{◌≡◌, ◌≢◌, ◌↔◌, ℕ, ◌<◌, Bool, true, false, ⊤, List, [], drop, filter, length, Some}
use Rattle.std.specs.List.{list_any, AllByRecursion}
use Rattle.lits.specs.Assignment.{IsSatisfiable}
use Rattle.lits.specs.Same.{opposite_dim}
use Rattle.netlist.specs.Net.{AigPair, DiffersOn, AgreesOn, Agree, Differ}
use Rattle.netlist.specs.Miter.{miter_of}
use Rattle.lemma_book.specs.declared.entry.Entry.{Entry}
use Rattle.lemma_book.specs.declared.entry.Entry.TheVariants.{OutApart}
use Rattle.sweep_workers.specs.Answered.{OpensTwoRoots}
use Rattle.lemma_book.specs.Entry.{Question, OfOutput, Answer, Open, question_of, answer_of, about, has_out, has_spent, has_apart, is_merge, outputs_of}

pub data Finding : Type 0 where
  -- the circuits agree on every admitted input
  Equivalent : Finding
  -- this output differs on this admitted input
  Different : ℕ → List Bool → Finding
  -- no output differs as far as is known, and the queries of some spent their budgets
  Undecided : Finding

-- an open output's query saw all the entries that say that two nodes have one value
abbrev pub HasSeen : List Entry → Question → Answer → Type 0
HasSeen entries (OfOutput j) (Open seen log) = list_any is_merge (drop seen entries) ≡ false
HasSeen entries q a = ⊤

abbrev pub SeesMerges : List Entry → Entry → Type 0
SeesMerges entries e = HasSeen entries (question_of e) (answer_of e)

-- the outputs whose queries spent their budgets, in order of outputs
abbrev pub open_outputs : AigPair → List Entry → List ℕ
open_outputs net entries = filter (has_spent entries) (outputs_of net)

-- some output is open, and each other output is shown equal; an open one's query saw all merges, and over them its two literals have
-- two roots
pub record FindsOpen (net : AigPair) (entries : List Entry) : Type 0 where
  pub some_open : open_outputs net entries ≢ []
  pub others : (j : ℕ) → j < length net.a.outputs → has_spent entries j ≡ false → has_out entries j ≡ true
  pub seen : AllByRecursion (SeesMerges entries) entries
  pub roots : AllByRecursion (OpensTwoRoots net entries) entries

-- The entries show the finding, in whatever order they stand: all outputs are shown equal; or an output has an input on
-- which it differs, and no smaller output has one; or some are open, and each other output is shown equal.
abbrev pub Finds : AigPair → List Entry → Finding → Type 0
Finds net entries Equivalent = (j : ℕ) → j < length net.a.outputs → has_out entries j ≡ true
Finds net entries (Different j input) =
    (about entries j ≡ Some (OutApart j input)) × ((k : ℕ) → k < j → has_apart entries k ≡ false)
Finds net entries Undecided = FindsOpen net entries

-- the circuits agree on every admitted input, and the CNF of their miter has a model exactly if they differ on some
pub record IsAgreed (net : AigPair) : Type 0 where
  pub agree : Agree net
  pub exact : IsSatisfiable opposite_dim (miter_of net) ↔ Differ net

-- output j is there, and differs on the input, which is admitted and has one truth value for each of the circuits' inputs
abbrev pub DiffersAt : AigPair → ℕ → List Bool → Type 0
DiffersAt net j input = DiffersOn net j input

-- what a finding means for the circuits; where outputs are open, for those that aren't
abbrev pub Means : AigPair → List Entry → Finding → Type 0
Means net entries Equivalent = IsAgreed net
Means net entries (Different j input) = DiffersAt net j input
Means net entries Undecided = (j : ℕ) → j < length net.a.outputs → has_spent entries j ≡ false → AgreesOn net j
