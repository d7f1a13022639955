-- The book machine: what several workers do to one book, one event after another (a sequential history, as in Herlihy
-- and Wing's linearizability, 1990). Each worker knows the first entries of the book, and a draw gives each number once.
use Rattle.std.specs.Prelude.{◌≡◌, ℕ, ◌+◌, ◌<◌, nat_lt, Option, None, Some, List, [], ◌∷◌, length, replicate, slice_get, slice_set, if◌then◌else◌}
use Rattle.netlist.specs.Net.{AigPair}
use Rattle.lemma_book.specs.declared.entry.Entry.{Entry}
use Rattle.lemma_book.specs.declared.turn.What.{What}
use Rattle.lemma_book.specs.declared.turn.What.TheVariants.{At, Already, Known}
use Rattle.lemma_book.specs.declared.turn.Turn.{Turn}
use Rattle.lemma_book.specs.declared.refused.Offered.{Offered}
use Rattle.lemma_book.specs.Entry.{Entries, first_entries}
use Rattle.lemma_book.specs.Good.{IsGood}
use Rattle.lemma_book.specs.Book.{answer_to, book_after, StartsWith}

-- the machine's state: the book, the number of the next draw, and how many entries each worker knows
pub record Machine : Type 0 where
  pub book : Entries
  pub next : ℕ
  pub known : List ℕ

-- at the start each worker knows the opening book, and nothing was drawn
abbrev pub opened : Entries → ℕ → Machine
opened book workers = record { book = book; next = 0; known = replicate workers (length book.entries) }

-- a worker draws a number of the tasks, none where all were drawn
pub record IsDraw (tasks : ℕ) (old new : Machine) (reply : Option ℕ) : Type 0 where
  pub reply_is : reply ≡ (if nat_lt old.next tasks then Some old.next else None)
  pub new_is : new ≡ record { book = old.book; next = old.next + 1; known = old.known }

-- worker w gets to know the whole book, and its length is the reply
pub record IsRefresh (w : ℕ) (old new : Machine) (reply : ℕ) : Type 0 where
  pub reply_is : reply ≡ length old.book.entries
  pub new_is : new ≡ record { book = old.book; next = old.next; known = slice_set old.known w reply }

-- the entry is good over what worker w knows
pub record MayOffer (net : AigPair) (state : Machine) (w : ℕ) (e : Entry) : Type 0 where
  pub known : ℕ
  pub known_is : slice_get state.known w ≡ Some known
  pub good : IsGood net (first_entries known state.book) e

-- a worker offers the entry: it is the last one from then on, unless an entry of the book settles it
pub record IsOffer (e : Entry) (old new : Machine) (reply : Offered) : Type 0 where
  pub reply_is : reply ≡ answer_to old.book e
  pub new_is : new ≡ record { book = book_after old.book e; next = old.next; known = old.known }

-- the turn may come where the book has m entries
abbrev pub MayFollow : ℕ → What → Type 0
MayFollow m (At i) = i ≡ m
MayFollow m (Already i) = i < m
MayFollow m (Known n) = n ≡ m

-- how many entries the book has after it
abbrev pub length_after : ℕ → What → ℕ
length_after m (At i) = m + 1
length_after m (Already i) = m
length_after m (Known n) = m

-- the turns lead from a book of m entries to one of n
abbrev pub IsReplay : ℕ → List Turn → ℕ → Type 0
IsReplay m [] n = m ≡ n
IsReplay m (t ∷ ts) n = MayFollow m t.what × IsReplay (length_after m t.what) ts n

-- the turns lead from the opening book to this one
pub record Replays (opening : Entries) (turns : List Turn) (book : Entries) : Type 0 where
  pub begins : StartsWith book opening
  pub run : IsReplay (length opening.entries) turns (length book.entries)
