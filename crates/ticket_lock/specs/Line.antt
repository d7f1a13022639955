-- The line at a ticket lock (Reed and Kanodia 1979; Mellor-Crummey and Scott 1991): who waits has a ticket, and holds the
-- lock when its ticket is served. Nothing here depends on what else a view has.
use Rattle.std.specs.Prelude.{◌≡◌, ℕ, ◌+◌, ◌<◌, ◌≤◌, Bool, true, cond, List}
use mathlib.Core.Option.{some}
use lib.ListN.{get_elem?}
use Rattle.ticket_lock.specs.Totals.{total, Each}

-- how a view stands in the line, and how many turns it has left
pub record Stand : Type 0 where
  pub waits : Bool
  pub holds : Bool
  pub ticket : ℕ
  pub left : ℕ

-- 1 where the view waits, or holds what is locked
abbrev pub waiting : {V : Type 0} → (V → Stand) → V → ℕ
waiting stand v = cond (stand v).waits 1 0

abbrev pub holding : {V : Type 0} → (V → Stand) → V → ℕ
holding stand v = cond (stand v).holds 1 0

-- a ticket lies from the one that is served to below the next one that is given, and only the one that is served holds
pub record InLine (served given : ℕ) (s : Stand) : Type 0 where
  pub from : s.waits ≡ true → served ≤ s.ticket
  pub below : s.waits ≡ true → s.ticket < given
  pub turn : s.waits ≡ true → 1 ≤ s.left
  pub waits : s.holds ≡ true → s.waits ≡ true
  pub first : s.holds ≡ true → s.ticket ≡ served

-- so many wait as tickets were given and not served yet, and no two have one ticket
pub record Line {V : Type 0} (stand : V → Stand) (served given : ℕ) (views : List V) : Type 0 where
  pub tickets : served + total (waiting stand) views ≡ given
  pub each : Each (λ v. InLine served given (stand v)) views
  pub apart : (i j : ℕ) (u v : V) → get_elem? views i ≡ some u → get_elem? views j ≡ some v
      → (stand u).waits ≡ true → (stand v).waits ≡ true → (stand u).ticket ≡ (stand v).ticket → i ≡ j
