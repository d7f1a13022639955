-- One event of the book machine, whatever its kind: when it may come, what it does, and what it keeps.
use Rattle.std.specs.Prelude.{◌≡◌, ℕ, ◌<◌, ◌≤◌, Some, List, length, slice_get}
use Rattle.std.specs.List.{AllByRecursion}
use Rattle.netlist.specs.Net.{AigPair}
use Rattle.lemma_book.specs.Entry.{Entries}
use Rattle.lemma_book.specs.Book.{StartsWith}
use Rattle.lemma_book.specs.Machine.{Machine, MayOffer, IsDraw, IsRefresh, IsOffer}
use Rattle.sweep_core.specs.declared.event.Event.{Event}
use Rattle.sweep_core.specs.declared.event.Event.TheVariants.{Draw, Refresh, Offer}
use Rattle.sweep_core.specs.declared.event.Reply.{Reply}
use Rattle.sweep_core.specs.declared.event.Reply.TheVariants.{Task, Known, Offered}

-- the machine, and how many tasks there are to be drawn
pub record Core : Type 0 where
  pub tasks : ℕ
  pub machine : Machine

-- there is such a worker, and what it offers is good over what it knows
abbrev pub MayCome : AigPair → Event → Machine → Type 0
MayCome net (Draw w) state = w < length state.known
MayCome net (Refresh w) state = w < length state.known
MayCome net (Offer w e) state = MayOffer net state w e

-- what the event does to the machine, and its reply
abbrev pub IsEvent : ℕ → Event → Machine → Machine → Reply → Type 0
IsEvent tasks (Draw w) old new (Task number) = IsDraw tasks old new number
IsEvent tasks (Refresh w) old new (Known n) = IsRefresh w old new n
IsEvent tasks (Offer w e) old new (Offered answer) = IsOffer e old new answer
IsEvent tasks _ old new _ = ⊥

-- the same of the core: the number of tasks stays
pub record IsStep (event : Event) (old new : Core) (reply : Reply) : Type 0 where
  pub tasks : new.tasks ≡ old.tasks
  pub does : IsEvent old.tasks event old.machine new.machine reply

-- each worker knows no more entries than there are
abbrev pub AreWithin : Entries → List ℕ → Type 0
AreWithin book known = AllByRecursion (λ n. n ≤ length book.entries) known

-- worker w knows so many entries, or more
pub record KnowsFrom (n w : ℕ) (state : Machine) : Type 0 where
  pub known : ℕ
  pub known_is : slice_get state.known w ≡ Some known
  pub from : n ≤ known

-- the book begins as before, each worker knows a first part of it, and no worker knows less than before
pub record Keeps (old new : Machine) : Type 0 where
  pub begins : StartsWith new.book old.book
  pub within : AreWithin new.book new.known
  pub workers : length new.known ≡ length old.known
  pub known : (w n : ℕ) → slice_get old.known w ≡ Some n → KnowsFrom n w new
