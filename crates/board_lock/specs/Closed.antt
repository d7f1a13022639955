-- The record of a board that was closed.
use Rattle.std.specs.Prelude.{◌≡◌, ℕ, ◌≤◌, List, map}
use Rattle.lemma_book.specs.declared.turn.Turn.{Turn}
use Rattle.lemma_book.specs.Entry.{Entries}
use Rattle.lemma_book.specs.Book.{IsLegal, StartsWith}
use Rattle.lemma_book.specs.Machine.{Replays}
use Rattle.board_lock.specs.Totals.{times, once_below}
use Rattle.board_lock.specs.Story.{Root, under, turn_of, AreSo}
use Rattle.board_lock.specs.Pass.{Held}

-- one legal history: the book is legal, the turns lead to it from the opening book, and it begins with all that the pass
-- knows; the turns under each pass's number are in order what the pass noted under it, and what it noted is so in the book;
-- the draws are the numbers below `drawn`, each once, and so many turns were missed
pub record IsClosed (root : Root) (pass : Held) (book : Entries) (turns : List Turn) (missed drawn : ℕ) : Type 0 where
  pub legal : IsLegal root.net book
  pub replays : Replays root.opening turns book
  pub known : StartsWith book pass.known
  pub so : AreSo book pass.notes
  pub each : (p : ℕ) → under p turns ≡ under p (map turn_of pass.notes)
  pub draws : (x : ℕ) → times x pass.draws ≡ once_below x drawn
  pub missed_is : missed ≡ pass.missed
  pub numbers : (p : ℕ) → times p pass.numbers ≤ 1
