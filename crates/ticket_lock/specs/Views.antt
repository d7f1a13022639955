-- A pass's view after each kind of step, and what the lock's user sees of it.
use Rattle.std.specs.Prelude.{◌≡◌, ℕ, ◌+◌, ◌-◌, ◌≤◌, true, false, List, [], ◌∷◌, ◌++◌}
use Rattle.ticket_lock.specs.declared.view.View.{View}
use Rattle.ticket_lock.specs.Totals.{times}

-- a pass as the user sees it: its number, the numbers that it has, its own and those taken over, and what the user keeps
pub record Member (U : Type 0) : Type 0 where
  pub number : ℕ
  pub numbers : List ℕ
  pub own : U

abbrev pub member : {U : Type 0} → ℕ → List ℕ → U → Member U
member n ns u = record { number = n; numbers = ns; own = u }

-- the same pass where the user keeps something else of it
abbrev pub owning : {U : Type 0} → Member U → U → Member U
owning m u = member m.number m.numbers u

abbrev pub first_of : List ℕ → ℕ
first_of [] = 0
first_of (x ∷ xs) = x

module _ {S U : Type 0} where
  abbrev pub member_of : View S U → Member U
  member_of v = member v.number v.numbers v.own

  -- it waits in line
  abbrev pub in_line : View S U → ℕ → View S U
  in_line v ticket = record v { waits = true; ticket = ticket }

  -- it holds the slot, with what lay in it
  abbrev pub inside : View S U → ℕ → S → View S U
  inside v ticket slot = record v { waits = true; holds = true; ticket = ticket; taken = slot }

  -- its turn is over
  abbrev pub past : View S U → U → View S U
  past v u = record v { waits = false; holds = false; left = v.left - 1; own = u }

  -- it drew a number, outside the lock
  abbrev pub drew : View S U → U → View S U
  drew v u = record v { left = v.left - 1; own = u }

  -- it holds a number for a new pass; the split is counted here
  abbrev pub numbering : View S U → ℕ → View S U
  numbering v n = record v { left = v.left - 1; splits = v.splits + 1; held = n ∷ [] }

  -- a pass that goes on after a split, and the new one
  abbrev pub kept_of : (U → U) → ℕ → View S U → View S U
  kept_of keep turns v = record v { left = v.left - turns; held = []; own = keep v.own }

  abbrev pub cut_of : (U → U) → ℕ → View S U → View S U
  cut_of give turns v = record v { left = turns; number = first_of v.held; numbers = v.held; held = []; splits = 0; own = give v.own }

  -- a pass that took in another, and what is left of that one
  abbrev pub both_of : (U → U → U) → View S U → View S U → View S U
  both_of join v u = record v { left = v.left + u.left; numbers = v.numbers ++ u.numbers; held = v.held ++ u.held; splits = v.splits + u.splits; own = join v.own u.own }

  abbrev pub spent : S → U → View S U
  spent blank u = record { waits = false; holds = false; ticket = 0; taken = blank; left = 0; number = 0; numbers = []; held = []; splits = 0; own = u }

  -- the first pass: its number is 0, and it has 2^62 turns
  abbrev pub opener : S → U → View S U
  opener blank u = record (spent blank u) { left = 4611686018427387904; numbers = 0 ∷ [] }

  -- a pass that has no call under way
  pub record IsIdle (v : View S U) : Type 0 where
    pub waits : v.waits ≡ false
    pub holds : v.holds ≡ false
    pub held : v.held ≡ []
    pub own : 1 ≤ times v.number v.numbers

  -- a pass that holds the slot
  pub record IsIn (v : View S U) : Type 0 where
    pub waits : v.waits ≡ true
    pub holds : v.holds ≡ true
    pub held : v.held ≡ []
    pub own : 1 ≤ times v.number v.numbers
