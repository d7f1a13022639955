-- What a board and a pass are to those who use them, and what each call of a pass comes to.
use Rattle.std.specs.Prelude.{◌≡◌, ℕ, ◌+◌, ◌-◌, ◌^◌, nat_lt, Option, Some, None, List, [], ◌∷◌, ◌++◌, length, if◌then◌else◌}
use Rattle.atomic_table.specs.Seated.{TableId}
use Rattle.netlist.specs.Net.{AigPair}
use Rattle.lemma_book.specs.declared.entry.Entry.{Entry}
use Rattle.lemma_book.specs.declared.refused.Offered.{Offered}
use Rattle.lemma_book.specs.Entry.{Entries}
use Rattle.lemma_book.specs.Book.{IsLegal, StartsWith, answer_to}
use Rattle.board_lock.specs.declared.view.Said.{Said}
use Rattle.board_lock.specs.declared.view.Said.TheVariants.{Known}
use Rattle.board_lock.specs.declared.view.Note.{Note}
use Rattle.ticket_lock.specs.Views.{IsIdle}
use Rattle.board_lock.specs.Totals.{AllBelow}
use Rattle.board_lock.specs.Story.{Root, AreSo, said_of, note_of}
use Rattle.board_lock.specs.Views.{View, longer, opener}
use Rattle.board_lock.specs.Plays.{Place}

-- a pass: the table that it belongs to, its number, the book as it knows it, the turns it has left, the numbers that it has
-- (its own and those taken over), all that it drew, how many splits it made and how many turns it missed, and its answers
pub record Held : Type 0 where
  pub table : TableId
  pub number : ℕ
  pub known : Entries
  pub left : ℕ
  pub numbers : List ℕ
  pub draws : List ℕ
  pub splits : ℕ
  pub missed : ℕ
  pub notes : List Note

abbrev pub held_of : TableId → View → Held
held_of t v = record {
  table = t;
  number = v.number;
  known = v.own.known;
  left = v.left;
  numbers = v.numbers;
  draws = v.own.draws;
  splits = v.splits;
  missed = v.own.missed;
  notes = v.own.notes;
}

-- a board: its table, what it is about, and how many tasks there are to be drawn
pub record Post : Type 0 where
  pub table : TableId
  pub root : Root
  pub tasks : ℕ

-- a pass between two calls
pub record IsPass (me : Place) (number : ℕ) (seen : Entries) (left : ℕ) : Type 0 where
  pub number_is : number ≡ me.0.number
  pub idle : IsIdle me.0
  pub free : me.1 ≡ []
  pub seen_is : seen ≡ me.0.own.known
  pub left_is : left ≡ me.0.left

-- ---- the calls

-- the first pass of a board
abbrev pub opened : Post → Held
opened b = held_of b.table (opener b.root)

-- a number was drawn that is above all that the pass drew or took over; it is answered where there is such a task
pub record DrewOne (tasks : ℕ) (old new : Held) (result : Option ℕ) : Type 0 where
  pub number : ℕ
  pub above : AllBelow number old.draws
  pub result_is : result ≡ (if nat_lt number tasks then Some number else None)
  pub new_is : new ≡ record old { left = old.left - 1; draws = old.draws ++ number ∷ [] }

-- a pass that took in another
abbrev pub joined : Held → Held → Held
joined a b = record {
  table = a.table;
  number = a.number;
  known = longer a.known b.known;
  left = a.left + b.left;
  numbers = a.numbers ++ b.numbers;
  draws = a.draws ++ b.draws;
  splits = a.splits + b.splits;
  missed = a.missed + b.missed;
  notes = a.notes ++ b.notes;
}

-- a turn was noted, and the pass knows this book from then on
abbrev pub noted_one : Held → Entries → Said → Held
noted_one old known said = record old { left = old.left - 1; known = known; notes = old.notes ++ note_of old.number said ∷ [] }

-- a turn was missed: it is one less, and nothing else changes
abbrev pub missed_one : Held → Held
missed_one old = record old { left = old.left - 1; missed = old.missed + 1 }

-- the book was seen: it is legal over the net and begins with all that was known, all that was answered is so in it, and its
-- length is the result
pub record Refreshed (net : AigPair) (old new : Held) (result : ℕ) : Type 0 where
  pub book : Entries
  pub legal : IsLegal net book
  pub begins : StartsWith book old.known
  pub so : AreSo book new.notes
  pub result_is : result ≡ length book.entries
  pub new_is : new ≡ noted_one old book (Known result)

-- the entry was offered to a book that begins with all that was known, and the result is the book machine's answer
pub record OfferedOne (entry : Entry) (old new : Held) (result : Offered) : Type 0 where
  pub book : Entries
  pub begins : StartsWith book old.known
  pub answer : result ≡ answer_to book entry
  pub new_is : new ≡ noted_one old old.known (said_of entry result)

-- a new pass has so many of the turns, a number of its own and all that the old one knows; the split took one turn more
pub record SplitOff (turns : ℕ) (old new result : Held) : Type 0 where
  pub number : ℕ
  pub new_is : new ≡ record old { left = old.left - 1 - turns; splits = old.splits + 1 }
  pub result_is : result ≡ record {
    table = old.table;
    number = number;
    known = old.known;
    left = turns;
    numbers = number ∷ [];
    draws = [];
    splits = 0;
    missed = 0;
    notes = [];
  }

-- ---- the turns that a pass accounts for

-- the offers, refreshes, draws and splits that it made or took over
abbrev pub made_by : Held → ℕ
made_by h = ((length h.notes + h.missed) + length h.draws) + h.splits

-- with the turns left
abbrev pub share_of : Held → ℕ
share_of h = h.left + made_by h

-- no turn is left to another pass, nor under way
abbrev pub IsWholePass : Held → Type 0
IsWholePass h = share_of h ≡ 2 ^ 62

-- a call took one turn
pub record Spends (old new : Held) : Type 0 where
  pub table : new.table ≡ old.table
  pub left : new.left + 1 ≡ old.left
  pub share : share_of new ≡ share_of old

-- a pass was cut off
pub record Shares (turns : ℕ) (old new result : Held) : Type 0 where
  pub tables : (new.table ≡ old.table) × (result.table ≡ old.table)
  pub lefts : (new.left + (turns + 1) ≡ old.left) × (result.left ≡ turns)
  pub shares : share_of new + share_of result ≡ share_of old

-- a pass was taken in
pub record Gains (old other new : Held) : Type 0 where
  pub table : new.table ≡ old.table
  pub left : new.left ≡ old.left + other.left
  pub share : share_of new ≡ share_of old + share_of other
