-- A list of events, one after the other.
use Rattle.std.specs.Prelude.{◌≡◌, ℕ, ⊤, ◌≤◌, List, [], ◌∷◌, ◌++◌, length, take}
use Rattle.netlist.specs.Net.{AigPair}
use Rattle.lemma_book.specs.declared.refused.Offered.{Offered}
use Rattle.lemma_book.specs.declared.refused.Offered.TheVariants.{At, Already}
use Rattle.lemma_book.specs.declared.turn.Turn.{Turn}
use Rattle.lemma_book.specs.declared.turn.What.{What}
use Rattle.lemma_book.specs.declared.turn.What.TheVariants as what
use Rattle.sweep_core.specs.declared.event.Event.{Event}
use Rattle.sweep_core.specs.declared.event.Event.TheVariants.{Refresh, Offer}
use Rattle.sweep_core.specs.declared.event.Reply.{Reply}
use Rattle.sweep_core.specs.declared.event.Reply.TheVariants.{Known, Offered as Answer}
use Rattle.sweep_core.specs.Event.{Core, MayCome, IsStep}

-- whatever the event comes to, this holds after it
abbrev pub HoldsAfter : Event → Core → (Core → Type 0) → Type 0
HoldsAfter e core P = (next : Core) (reply : Reply) → IsStep e core next reply → P next

-- each event may come after those before it
abbrev pub MayRun : AigPair → List Event → Core → Type 0
MayRun net [] core = ⊤
MayRun net (e ∷ es) core = MayCome net e core.machine × HoldsAfter e core (MayRun net es)

-- there is a core between the two
pub record Through (First Rest : Core → Type 0) : Type 0 where
  pub between : Core
  pub first : First between
  pub rest : Rest between

-- the events lead from one core to the other, with these replies
abbrev pub IsRun : List Event → Core → Core → List Reply → Type 0
IsRun [] old new [] = new ≡ old
IsRun [] old new (r ∷ rs) = ⊥
IsRun (e ∷ es) old new [] = ⊥
IsRun (e ∷ es) old new (r ∷ rs) =
    Through (λ core. IsStep e old core r) (λ core. IsRun es core new rs)

-- the first of the events were done, the others weren't
pub record HasRunFirst (events : List Event) (old new : Core) : Type 0 where
  pub done : ℕ
  pub replies : List Reply
  pub within : done ≤ length events
  pub run : IsRun (take done events) old new replies

-- what the answer to an offer says of the book
abbrev pub what_of : Offered → What
what_of (At i) = what.At i
what_of (Already i) = what.Already i

-- the turn at the book that an event was, by its worker's number; a draw is none
abbrev pub turn_of : Event → Reply → List Turn
turn_of (Refresh w) (Known n) = record { pass = w; what = what.Known n } ∷ []
turn_of (Offer w e) (Answer o) = record { pass = w; what = what_of o } ∷ []
turn_of _ _ = []

-- the turns at the book, in order
abbrev pub turns_of : List Event → List Reply → List Turn
turns_of [] rs = []
turns_of (e ∷ es) [] = []
turns_of (e ∷ es) (r ∷ rs) = turn_of e r ++ turns_of es rs
