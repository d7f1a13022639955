-- What lies in the lock's slot, and what one turn makes of it. A turn is an event of the book machine.
use Rattle.std.specs.Prelude.{◌≡◌, ℕ, ◌+◌, ◌≤◌, ◌==◌, Some, List, [], ◌∷◌, ◌++◌, length, filter, slice_get}
use Rattle.netlist.specs.Net.{AigPair}
use Rattle.lemma_book.specs.declared.entry.Entry.{Entry}
use Rattle.lemma_book.specs.declared.turn.What.{What}
use Rattle.lemma_book.specs.declared.turn.What.TheVariants as what
use Rattle.lemma_book.specs.declared.turn.Turn.{Turn}
use Rattle.lemma_book.specs.declared.refused.Offered.{Offered}
use Rattle.lemma_book.specs.declared.refused.Offered.TheVariants as offered
use Rattle.lemma_book.specs.Entry.{Entries, settled_at, with_last}
use Rattle.lemma_book.specs.Good.{IsGood}
use Rattle.board_lock.specs.declared.view.Said.{Said}
use Rattle.board_lock.specs.declared.view.Said.TheVariants.{At, Already, Known}
use Rattle.board_lock.specs.declared.view.Note.{Note}

-- the book, the turns that made it of the opening one, and how many turns were missed
pub record Story : Type 0 where
  pub book : Entries
  pub turns : List Turn
  pub missed : ℕ

-- what a board is about: its net, and the book that it was opened with
pub record Root : Type 0 where
  pub net : AigPair
  pub opening : Entries

-- an answer with the entry that was offered
abbrev pub said_of : Entry → Offered → Said
said_of e (offered.At i) = At i e
said_of e (offered.Already i) = Already i e

abbrev pub note_of : ℕ → Said → Note
note_of pass said = record { pass = pass; said = said }

-- an answer without it
abbrev pub what_of : Said → What
what_of (At i e) = what.At i
what_of (Already i e) = what.Already i
what_of (Known n) = what.Known n

abbrev pub turn_of : Note → Turn
turn_of n = record { pass = n.pass; what = what_of n.said }

-- the turns of one pass
abbrev pub under : ℕ → List Turn → List Turn
under p turns = filter (λ t. t.pass == p) turns

-- the answer is the book machine's over this book: the entry is good and goes last, or the first entry that settles it is
-- told; or all of the book is known
abbrev pub IsAnswer : AigPair → Entries → Said → Type 0
IsAnswer net book (At i e) = (i ≡ length book.entries) × IsGood net book e
IsAnswer net book (Already i e) = settled_at book.entries e ≡ Some i
IsAnswer net book (Known n) = n ≡ length book.entries

-- what was answered is so in the book: the entry stands at its number, or is settled by the entry of that number
abbrev pub IsSo : Entries → Said → Type 0
IsSo book (At i e) = slice_get book.entries i ≡ Some e
IsSo book (Already i e) = settled_at book.entries e ≡ Some i
IsSo book (Known n) = n ≤ length book.entries

abbrev pub AreSo : Entries → List Note → Type 0
AreSo book [] = Unit {0}
AreSo book (n ∷ ns) = IsSo book n.said × AreSo book ns

-- the book after an answer
abbrev pub book_after : Entries → Said → Entries
book_after book (At i e) = with_last book e
book_after book (Already i e) = book
book_after book (Known n) = book

-- the story after a turn, and after a missed one
abbrev pub story_after : Story → Note → Story
story_after h n = record { book = book_after h.book n.said; turns = h.turns ++ turn_of n ∷ []; missed = h.missed }

abbrev pub story_missed : Story → Story
story_missed h = record { book = h.book; turns = h.turns; missed = h.missed + 1 }

-- what lies there while a pass is at its turn
abbrev pub no_book : Entries
no_book = record { sweep_budget = 1; out_budget = 1; entries = [] }

abbrev pub no_story : Story
no_story = record { book = no_book; turns = []; missed = 0 }
