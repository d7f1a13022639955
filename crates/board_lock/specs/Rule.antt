-- What a board claims of its lock, in three groups: the counts; the story and what passes know of it; the draws and the
-- answers. Each count is a total over all passes.
use Rattle.std.specs.Prelude.{◌≡◌, ℕ, ◌+◌, ◌≤◌, List, [], length, map}
use Rattle.std.specs.List.{flat_map}
use Rattle.lemma_book.specs.declared.turn.Turn.{Turn}
use Rattle.lemma_book.specs.Book.{IsLegal, StartsWith}
use Rattle.lemma_book.specs.Machine.{Replays}
use Rattle.ticket_lock.specs.Totals.{total, Each, times, once_below}
use Rattle.ticket_lock.specs.Claims.{Account}
use Rattle.board_lock.specs.declared.view.Own.{Own}
use Rattle.board_lock.specs.Story.{Story, Root, turn_of, under, AreSo}
use Rattle.board_lock.specs.Views.{Party}

-- ---- what is counted of a pass

-- the turns that it ended, the answered ones and the missed ones
abbrev pub turns : Party → ℕ
turns m = length m.own.notes + m.own.missed

abbrev pub drawn : Party → ℕ
drawn m = length m.own.draws

abbrev pub missed : Party → ℕ
missed m = m.own.missed

abbrev pub draws_of : ℕ → Party → ℕ
draws_of x m = times x m.own.draws

-- all that took a turn of it, except splits
abbrev pub made : Own → ℕ
made o = (length o.notes + o.missed) + length o.draws

-- the turns that it notes under a pass's number
abbrev pub noted : ℕ → Party → List Turn
noted p m = under p (map turn_of m.own.notes)

-- ---- group 1: the counts

-- the passes note just the turns that were served, and drew just the numbers that were drawn
pub record Counts (served draws : ℕ) (passes : List Party) : Type 0 where
  pub turns : total turns passes ≡ served
  pub drawn : total drawn passes ≡ draws

-- ---- group 2: the story, and what passes know of it

-- the book is legal, it replays, and each turn that was served is noted or counted as missed
pub record Tale (root : Root) (served : ℕ) (h : Story) : Type 0 where
  pub legal : IsLegal root.net h.book
  pub replays : Replays root.opening h.turns h.book
  pub count : length h.turns + h.missed ≡ served

-- what a pass knows is a first part of the book (one that `join` ended knows nothing), and what it noted is so in the book
pub record Knows (h : Story) (m : Party) : Type 0 where
  pub known : 1 ≤ length m.numbers → StartsWith h.book m.own.known
  pub so : AreSo h.book m.own.notes

-- ---- group 3: draws, and the turns under each number

-- the draws are the numbers below `draws`, each once; the turns under each pass's number are, in order, what one pass notes
-- under it; the missed turns of all passes are the story's
pub record Answers (draws : ℕ) (h : Story) (passes : List Party) : Type 0 where
  pub once : (x : ℕ) → total (draws_of x) passes ≡ once_below x draws
  pub missed : total missed passes ≡ h.missed
  pub under : (p : ℕ) → under p h.turns ≡ flat_map (noted p) passes
  pub own : Each (λ m. (p : ℕ) → times p m.numbers ≡ 0 → noted p m ≡ []) passes

-- ---- the claim

pub record Claimed (root : Root) (a : Account Story Own) : Type 0 where
  pub counts : Counts a.served a.drawn a.passes
  pub tale : Tale root a.served a.slot
  pub knows : Each (Knows a.slot) a.passes
  pub answers : Answers a.drawn a.slot a.passes
