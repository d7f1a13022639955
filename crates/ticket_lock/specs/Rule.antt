-- The rule of the lock's table: the line, the turns, the numbers of passes, and the user's claim. Each count is a total
-- over the views of all passes.
use Rattle.std.specs.Prelude.{◌≡◌, ℕ, zero, suc, ◌+◌, ◌^◌, true, List, [], ◌∷◌, map}
use mathlib.Core.Option.{Option, none, some}
use Rattle.atomic_table.specs.Table.{State}
use Rattle.ticket_lock.specs.declared.view.View.{View}
use Rattle.ticket_lock.specs.Totals.{total, Each, times, once_below}
use Rattle.ticket_lock.specs.Line.{Stand, Line, holding}
use Rattle.ticket_lock.specs.Views.{member_of}
use Rattle.ticket_lock.specs.Claims.{Account, account}

module _ {S U : Type 0} where
  abbrev pub stand_of : View S U → Stand
  stand_of v = record { waits = v.waits; holds = v.holds; ticket = v.ticket; left = v.left }

  abbrev pub left : View S U → ℕ
  left v = v.left

  abbrev pub splits : View S U → ℕ
  splits v = v.splits

  -- how often it has the pass's number, its own, taken over, or held for a new pass
  abbrev pub numbered : ℕ → View S U → ℕ
  numbered p v = times p v.numbers + times p v.held

  -- the turns left, and those that were served, drawn and split, make 2^62
  pub record Turns (served drawn split : ℕ) (views : List (View S U)) : Type 0 where
    pub left : total left views + ((served + drawn) + split) ≡ 2 ^ 62
    pub splits : total splits views ≡ split

  -- the numbers of passes are those to `split`, each once
  pub record Numbers (split : ℕ) (views : List (View S U)) : Type 0 where
    pub once : (p : ℕ) → total (numbered p) views ≡ once_below p (split + 1)

-- what lies in the slot is at home where nobody holds it
abbrev pub shelf : {S : Type 0} → ℕ → S → List (Option S)
shelf zero h = some h ∷ []
shelf (suc n) h = none ∷ []

pub record Kept {S U : Type 0} (claim : Account S U → Type 0) (s : State S (View S U)) : Type 0 where
  pub served : ℕ
  pub given : ℕ
  pub drawn : ℕ
  pub split : ℕ
  pub slot : S
  pub words : s.words ≡ served ∷ given ∷ drawn ∷ split ∷ []
  pub home : s.homes ≡ shelf (total (holding stand_of) s.views) slot
  pub line : Line stand_of served given s.views
  pub turns : Turns served drawn split s.views
  pub numbers : Numbers split s.views
  pub taken : Each (λ v. v.holds ≡ true → v.taken ≡ slot) s.views
  pub claimed : claim (account served drawn slot (map member_of s.views))
