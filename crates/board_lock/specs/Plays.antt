-- What the board's passes learn by their steps.
use Rattle.std.specs.Prelude.{◌≡◌, ℕ, ◌^◌, ◌<◌, [], ◌∷◌, ◌++◌}
use Rattle.netlist.specs.Circuit.{no_parts}
use Rattle.netlist.specs.Net.{AigPair}
use Rattle.lemma_book.specs.declared.entry.Entry.{Entry}
use Rattle.lemma_book.specs.declared.refused.Offered.{Offered}
use Rattle.lemma_book.specs.Book.{IsLegal, StartsWith}
use Rattle.ticket_lock.specs.Totals.{AllBelow}
use Rattle.ticket_lock.specs.Plays.{Sat}
use Rattle.board_lock.specs.declared.view.Note.{Note}
use Rattle.board_lock.specs.declared.view.Said.TheVariants.{Known}
use Rattle.board_lock.specs.declared.view.Own.{Own}
use Rattle.board_lock.specs.Story.{Story, AreSo, IsAnswer, book_after, story_after, note_of, said_of}
use Rattle.board_lock.specs.Views.{View, Party, noting, missing, drew}

-- a pass's view, and what it holds of the table
abbrev pub Place : Type 0
Place = Sat Story Own

-- who comes in finds a book that is legal over the net, and begins with all that the pass knows
pub record Sees (net : AigPair) (m : Party) (h : Story) : Type 0 where
  pub few : h.missed < 2 ^ 62
  pub legal : IsLegal net h.book
  pub begins : StartsWith h.book m.own.known

-- a turn that is noted: all that the pass noted is so in the book
abbrev pub noted_by : Note → Party → Story → Own
noted_by note m h = noting m.own h note

abbrev pub AreNoted : Note → Party → Story → Type 0
AreNoted note m h = AreSo (book_after h.book note.said) (m.own.notes ++ note ∷ []) × StartsWith h.book m.own.known

-- a turn that is missed
abbrev pub missed_by : Party → Story → Own
missed_by m h = missing m.own

-- a number that is drawn is above all that the pass drew or took over
abbrev pub drew_by : Party → ℕ → Own
drew_by m n = drew m.own n

abbrev pub IsAbove : Party → ℕ → Type 0
IsAbove m n = AllBelow n m.own.draws

-- what a turn is noted as
abbrev pub known_note : View → ℕ → Note
known_note v n = note_of v.number (Known n)

abbrev pub offered_note : View → Entry → Offered → Note
offered_note v e o = note_of v.number (said_of e o)

abbrev pub no_note : Note
no_note = note_of 0 (Known 0)

-- what has to hold of the story that is put back after a turn
pub record Tells (net : AigPair) (v : View) (n : Note) (now : Story) : Type 0 where
  pub pass : n.pass ≡ v.number
  pub answer : IsAnswer net v.taken.book n.said
  pub now_is : now ≡ story_after v.taken n

-- a net with no input, no gate and no output
abbrev pub no_net : AigPair
no_net =
    record { a = no_parts; b = no_parts }
