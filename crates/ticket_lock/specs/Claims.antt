-- What a user's claim is about, and what the user has to show of it for each call: whatever the others do meanwhile, the
-- call keeps the claim, and tells its pass what it should.
use Rattle.std.specs.Prelude.{◌≡◌, ◌≢◌, ℕ, ◌+◌, ◌^◌, ◌<◌, ◌≤◌, List, [], ◌∷◌, ◌++◌, set}
use mathlib.Core.Option.{some}
use lib.ListN.{get_elem?}
use Rattle.ticket_lock.specs.Views.{Member, member, owning}
use Rattle.ticket_lock.specs.Totals.{total, times}

-- how many turns were ended, how many numbers drawn, what lies in the slot, and all passes
pub record Account (S U : Type 0) : Type 0 where
  pub served : ℕ
  pub drawn : ℕ
  pub slot : S
  pub passes : List (Member U)

abbrev pub account : {S U : Type 0} → ℕ → ℕ → S → List (Member U) → Account S U
account served drawn slot passes = record { served = served; drawn = drawn; slot = slot; passes = passes }

-- each number is one pass's, and there once
abbrev pub AreApart : {U : Type 0} → List (Member U) → Type 0
AreApart {U} passes = (p : ℕ) → total (λ (m : Member U). times p m.numbers) passes ≤ 1

module _ {S U : Type 0} (claim : Account S U → Type 0) where
  -- the lock may be made with this in the slot
  abbrev pub Begins : S → U → Type 0
  Begins slot u = claim (account 0 0 slot (member 0 (0 ∷ []) u ∷ []))

  -- a pass that comes in learns a fact of what lies in the slot
  abbrev pub Learns : Member U → (S → Type 0) → Type 0
  Learns m fact = (id served drawn : ℕ) (slot : S) (passes : List (Member U)) → get_elem? passes id ≡ some m
      → AreApart passes → served < 2 ^ 62 → claim (account served drawn slot passes) → fact slot

  -- a turn is over in which a pass found `old` in the slot and left `new`, and after which the user keeps u of it
  abbrev pub Ends : Member U → S → S → U → Type 0 → Type 0
  Ends m old new u told = (id served drawn : ℕ) (passes : List (Member U)) → get_elem? passes id ≡ some m
      → AreApart passes → claim (account served drawn old passes)
      → claim (account (served + 1) drawn new (set passes id (owning m u))) × told

  -- a pass drew the next number
  abbrev pub Draws : Member U → (ℕ → U) → (ℕ → Type 0) → Type 0
  Draws m after told = (id served drawn : ℕ) (slot : S) (passes : List (Member U)) → get_elem? passes id ≡ some m
      → AreApart passes → claim (account served drawn slot passes)
      → claim (account served (drawn + 1) slot (set passes id (owning m (after drawn)))) × told drawn

  -- a pass was cut in two, and the new one has a number of its own
  abbrev pub Parts : Member U → (U → U) → (U → U) → Type 0
  Parts m keep give = (id served drawn n : ℕ) (slot : S) (passes : List (Member U)) → get_elem? passes id ≡ some m
      → AreApart passes → claim (account served drawn slot passes)
      → claim (account served drawn slot (set passes id (owning m (keep m.own)) ++ member n (n ∷ []) (give m.own) ∷ []))

  -- a pass took in another, of which u is left
  abbrev pub Merges : Member U → Member U → (U → U → U) → U → Type 0
  Merges m k join u = (id other served drawn : ℕ) (slot : S) (passes : List (Member U)) → get_elem? passes id ≡ some m
      → get_elem? passes other ≡ some k → other ≢ id → AreApart passes → claim (account served drawn slot passes)
      → claim (account served drawn slot
      (set (set passes id (member m.number (m.numbers ++ k.numbers) (join m.own k.own))) other (member 0 [] u)))

  -- the passes account for all turns that were ended and all numbers that were drawn
  abbrev pub Sums : (U → ℕ) → Type 0
  Sums made = (a : Account S U) → claim a → total (λ (m : Member U). made m.own) a.passes ≡ a.served + a.drawn

  -- the lock at its end: no other pass has made anything
  pub record Ended (made : U → ℕ) (m : Member U) (slot : S) (drawn : ℕ) : Type 0 where
    pub id : ℕ
    pub served : ℕ
    pub passes : List (Member U)
    pub at : get_elem? passes id ≡ some m
    pub apart : AreApart passes
    pub claimed : claim (account served drawn slot passes)
    pub others : (j : ℕ) (k : Member U) → j ≢ id → get_elem? passes j ≡ some k → made k.own ≡ 0
