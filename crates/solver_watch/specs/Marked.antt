-- Which places of a trail a conflict's analysis has met.
use Rattle.std.specs.Prelude.{◌≡◌, ℕ, ◌+◌, ◌<◌, ◌≤◌, ◌⊎◌, map, Bool, true, false, ◌&&◌, zero, suc, List, [], nat_eq, length, Option, Some, None, if◌then◌else◌, slice_index_or}
use Rattle.std.specs.List.{AllByRecursion}
use Rattle.lits.specs.Clause.{has, no_repeat}
use Rattle.lits.specs.Same.{same_lit, opposite}
use Rattle.lits.specs.declared.literal.Lit.{Lit}
use Rattle.watch_lists.specs.Trail.{TrailState, put_at, clause_at, lits_of}
use Rattle.watch_lists.specs.declared.put.Put.{Put}
use Rattle.solver_watch.specs.Assuming.{IsChosen}
use Rattle.solver_watch.specs.declared.cut.Cut.{Cut}

-- the place is marked
abbrev pub is_marked : List Bool → ℕ → Bool
is_marked marks k = slice_index_or marks k false

-- the literal's place is marked, if it has one
abbrev pub IsMet : List Put → List Bool → Lit → Type 0
IsMet puts marks lit = (k : ℕ) → k < length puts → (put_at puts k).lit ≡ lit → is_marked marks k ≡ true

-- the negations of the clause's literals are met
abbrev pub AreMet : List Put → List Bool → List Lit → Type 0
AreMet puts marks clause = (l : Lit) → has same_lit clause l ≡ true → IsMet puts marks (opposite l)

-- the put at the place was forced by a clause of which everything is met
pub record IsResolved (t : TrailState) (marks : List Bool) (k : ℕ) : Type 0 where
  pub by : ℕ
  pub forced : (put_at t.puts k).by ≡ Some by
  pub met : AreMet t.puts marks (clause_at t.clauses by)

-- how many places below n are marked and of that level
abbrev pub open_below : List Put → ℕ → List Bool → ℕ → ℕ
open_below puts level marks zero = 0
open_below puts level marks (suc n) =
    open_below puts level marks n + (if is_marked marks n && nat_eq (put_at puts n).level level then 1 else 0)

-- `below` has the marked places of other levels, each once, and `count` tells those of that level
pub record IsCounted (puts : List Put) (level : ℕ) (cut : Cut) : Type 0 where
  pub room : length puts ≤ length cut.marks
  pub all : (k : ℕ) → k < length puts → is_marked cut.marks k ≡ true → nat_eq (put_at puts k).level level ≡ false
      → has nat_eq cut.below.items k ≡ true
  pub only : (k : ℕ) → has nat_eq cut.below.items k ≡ true
      → (k < length puts) × (is_marked cut.marks k ≡ true) × (nat_eq (put_at puts k).level level ≡ false)
  pub once : no_repeat nat_eq cut.below.items ≡ true
  pub count : cut.count ≡ open_below puts level cut.marks (length puts)

-- nothing is met yet, and there is room for so many places
pub record IsBlank (count : ℕ) (cut : Cut) : Type 0 where
  pub room : count ≤ length cut.marks
  pub none : (k : ℕ) → is_marked cut.marks k ≡ false
  pub below : cut.below.items ≡ []
  pub open_none : cut.count ≡ 0

-- what was marked still is
abbrev pub Keeps : List Bool → List Bool → Type 0
Keeps old new = (k : ℕ) → is_marked old k ≡ true → is_marked new k ≡ true

-- the place is marked too, and no other one
pub record MarksOne (old : List Bool) (place : ℕ) (new : List Bool) : Type 0 where
  pub here : is_marked new place ≡ true
  pub keeps : Keeps old new
  pub fresh : (k : ℕ) → is_marked new k ≡ true → (is_marked old k ≡ true) ⊎ (k ≡ place)

-- the negations of the clause's literals are met too, and no other places
pub record IsMarking (t : TrailState) (clause : List Lit) (old new : Cut) : Type 0 where
  pub counted : IsCounted t.puts t.last new
  pub met : AreMet t.puts new.marks clause
  pub keeps : Keeps old.marks new.marks
  pub fresh : (k : ℕ) → k < length t.puts → is_marked new.marks k ≡ true
      → (is_marked old.marks k ≡ true) ⊎ (has same_lit clause (opposite (put_at t.puts k).lit) ≡ true)

-- the place is resolved; the new marks are before it
pub record IsTraced (t : TrailState) (place : ℕ) (old new : Cut) : Type 0 where
  pub counted : IsCounted t.puts t.last new
  pub resolved : IsResolved t new.marks place
  pub keeps : Keeps old.marks new.marks
  pub fresh : (k : ℕ) → k < length t.puts → is_marked new.marks k ≡ true → (is_marked old.marks k ≡ true) ⊎ (k < place)

-- behind the point each marked place is resolved; before it the marked places are of earlier levels, those of `below`
pub record IsCut (t : TrailState) (point : ℕ) (cut : Cut) : Type 0 where
  pub room : length t.puts ≤ length cut.marks
  pub within : point < length t.puts
  pub marked : is_marked cut.marks point ≡ true
  pub at_last : (put_at t.puts point).level ≡ t.last
  pub resolved : (k : ℕ) → point < k → k < length t.puts → is_marked cut.marks k ≡ true → IsResolved t cut.marks k
  pub lower : (k : ℕ) → k < point → is_marked cut.marks k ≡ true → has nat_eq cut.below.items k ≡ true
  pub only : (k : ℕ) → has nat_eq cut.below.items k ≡ true → (k < length t.puts) × ((put_at t.puts k).level < t.last)
  pub once : no_repeat nat_eq cut.below.items ≡ true

-- from the place on each marked place is resolved, so many of the last level; before it others of that level are marked
pub record IsWalking (t : TrailState) (passed place : ℕ) (cut : Cut) : Type 0 where
  pub counted : IsCounted t.puts t.last cut
  pub resolved : (k : ℕ) → place ≤ k → k < length t.puts → is_marked cut.marks k ≡ true → IsResolved t cut.marks k
  pub count : cut.count ≡ open_below t.puts t.last cut.marks place + passed
  pub left : 1 ≤ open_below t.puts t.last cut.marks place

-- the clause is wholly negated where the target is false, and the decisions are of the target's negations
pub record IsRefuted (t : TrailState) (target : List Lit) (conflict : ℕ) : Type 0 where
  pub number : conflict < length t.clauses
  pub negated : (l : Lit) → has same_lit (clause_at t.clauses conflict) l ≡ true
      → (has same_lit target l ≡ true) ⊎ (has same_lit (lits_of t.puts) (opposite l) ≡ true)
  pub chosen : AllByRecursion (IsChosen target t.last) t.puts

-- the places are of the trail
abbrev pub AreWithin : List Put → List ℕ → Type 0
AreWithin puts places = (k : ℕ) → has nat_eq places k ≡ true → k < length puts

-- the negations of the literals at these places
abbrev pub negations_at : List Put → List ℕ → List Lit
negations_at puts places = map (λ k. opposite (put_at puts k).lit) places

-- the level of one of the places, or 0 where there is none
abbrev pub IsSecond : List Put → List ℕ → ℕ → Type 0
IsSecond puts below level =
    (level ≡ 0) ⊎ ((k : ℕ) × (has nat_eq below k ≡ true) × ((put_at puts k).level ≡ level))

-- what makes the reasons at the marked places from `from` on, and then the conflict's clause, show the goal; `shown`
-- tells which of these places the goal negates
pub record IsSupported (t : TrailState) (marks : List Bool) (from : ℕ) (shown goal : List Lit) (conflict : ℕ) : Type 0 where
  pub room : length t.puts ≤ length marks
  pub below : (k : ℕ) → k < from → k < length t.puts → is_marked marks k ≡ true → has same_lit goal (opposite (put_at t.puts k).lit) ≡ true
  pub resolved : (k : ℕ) → from ≤ k → k < length t.puts → is_marked marks k ≡ true
      → has same_lit shown (opposite (put_at t.puts k).lit) ≡ false → IsResolved t marks k
  pub goal_is : (k : ℕ) → from ≤ k → k < length t.puts → is_marked marks k ≡ true
      → has same_lit goal (opposite (put_at t.puts k).lit) ≡ has same_lit shown (opposite (put_at t.puts k).lit)
  pub ends : (k : ℕ) → from ≤ k → k < length t.puts → is_marked marks k ≡ true
      → has same_lit goal (put_at t.puts k).lit ≡ has same_lit shown (put_at t.puts k).lit
  pub number : conflict < length t.clauses
  pub negated : (l : Lit) → has same_lit (clause_at t.clauses conflict) l ≡ true
      → (has same_lit goal l ≡ true)
      ⊎ ((has same_lit (lits_of t.puts) (opposite l) ≡ true) × IsMet t.puts marks (opposite l))

-- the clause by which the literal at the place is shown, if it is marked and `shown` doesn't negate it
abbrev pub IsReason : TrailState → List Bool → List Lit → ℕ → Option ℕ → Type 0
IsReason t marks shown k (Some by) =
    (is_marked marks k ≡ true) × (has same_lit shown (opposite (put_at t.puts k).lit) ≡ false)
    × ((put_at t.puts k).by ≡ Some by) × (by < length t.clauses)
IsReason t marks shown k None =
    (is_marked marks k ≡ false) ⊎ ((is_marked marks k ≡ true) × (has same_lit shown (opposite (put_at t.puts k).lit) ≡ true))
