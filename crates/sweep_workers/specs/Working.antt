-- What a worker's pass shows of the round between two of its tasks, and when it has come to the end.
use Rattle.std.specs.Prelude.{◌≡◌, ℕ, ◌≤◌, true, Option, None, Some, List, [], ◌∷◌, ◌++◌, length, map, slice_get}
use Rattle.std.specs.List.{AllByRecursion, list_all}
use Rattle.netlist.specs.Net.{AigPair}
use Rattle.lemma_book.specs.declared.entry.Entry.{Entry}
use Rattle.lemma_book.specs.declared.refused.Offered.{Offered}
use Rattle.lemma_book.specs.Entry.{Question, question_of}
use Rattle.lemma_book.specs.Book.{IsLegal, StartsWith}
use Rattle.cone_query.specs.Query.{SeesAll}
use Rattle.board_lock.specs.declared.view.Said.{Said}
use Rattle.board_lock.specs.declared.view.Said.TheVariants.{At, Already, Known}
use Rattle.board_lock.specs.declared.view.Note.{Note}
use Rattle.board_lock.specs.Totals.{times}
use Rattle.board_lock.specs.Pass.{Held, OfferedOne, Post, share_of}
use Rattle.sweep_workers.specs.declared.asked.Asked.{Asked}
use Rattle.sweep_workers.specs.Asked.{IsAskable}
use Rattle.sweep_workers.specs.Answered.{OpensTwoRoots, sees_first}

-- the question of a number, if there is one, and those behind it
abbrev pub with_question : Option Question → List Question → List Question
with_question None rest = rest
with_question (Some q) rest = q ∷ rest

-- the questions of the numbers that were drawn, in that order
abbrev pub drawn_of : List Question → List ℕ → List Question
drawn_of asked [] = []
drawn_of asked (n ∷ ns) = with_question (slice_get asked n) (drawn_of asked ns)

-- the entry that was offered, if one was, and those behind it
abbrev pub with_offer : Said → List Entry → List Entry
with_offer (At i e) rest = e ∷ rest
with_offer (Already i e) rest = e ∷ rest
with_offer (Known n) rest = rest

-- the entries that were offered, in order
abbrev pub offers : List Note → List Entry
offers [] = []
offers (n ∷ ns) = with_offer n.said (offers ns)

-- the board is over this net and has these tasks, each of which may be asked
pub record IsRound (net : AigPair) (board : Post) (tasks : List Asked) : Type 0 where
  pub net_is : net ≡ board.root.net
  pub count : length tasks ≡ board.tasks
  pub askable : AllByRecursion (IsAskable net) tasks

-- The pass is of this board. It knows a legal book that begins with the opening one; it has offered an entry about each
-- question that it drew, in this order, and those that it took over so did too; what spent a budget saw the opening book, and
-- an output's has two roots over that.
pub record Works (board : Post) (asked : List Question) (h : Held) : Type 0 where
  pub own : h.table ≡ board.table
  pub legal : IsLegal board.root.net h.known
  pub begins : StartsWith h.known board.root.opening
  pub offered : map question_of (offers h.notes) ≡ drawn_of asked h.draws
  pub seen : list_all (sees_first (length board.root.opening.entries)) (offers h.notes) ≡ true
  pub roots : AllByRecursion (OpensTwoRoots board.root.net board.root.opening.entries) (offers h.notes)

-- a number was drawn behind all tasks
pub record IsAtEnd (tasks : ℕ) (h : Held) : Type 0 where
  pub number : ℕ
  pub behind : tasks ≤ number
  pub drawn : 1 ≤ times number h.draws

-- the pass has come to the end of the tasks, with the turns that it was given or has taken over
pub record HasWorked (board : Post) (asked : List Question) (old new : Held) : Type 0 where
  pub works : Works board asked new
  pub end : IsAtEnd (length asked) new
  pub share : share_of new ≡ share_of old

-- the same right after a question was drawn, before its entry is offered
pub record Owes (board : Post) (asked : List Question) (q : Question) (h : Held) : Type 0 where
  pub own : h.table ≡ board.table
  pub legal : IsLegal board.root.net h.known
  pub begins : StartsWith h.known board.root.opening
  pub offered : map question_of (offers h.notes) ++ q ∷ [] ≡ drawn_of asked h.draws
  pub seen : list_all (sees_first (length board.root.opening.entries)) (offers h.notes) ≡ true
  pub roots : AllByRecursion (OpensTwoRoots board.root.net board.root.opening.entries) (offers h.notes)

-- an entry about the question was offered, or told to be settled in what the pass knows; what spent a budget saw all of that, and
-- an output's has two roots over it
pub record Told (net : AigPair) (q : Question) (old new : Held) : Type 0 where
  pub entry : Entry
  pub answer : Offered
  pub about : question_of entry ≡ q
  pub seen : SeesAll old.known entry
  pub roots : OpensTwoRoots net old.known.entries entry
  pub offered : OfferedOne entry old new answer
