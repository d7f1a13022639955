-- What holds of the engine between its steps, over codes.
use Rattle.std.specs.Prelude.{◌≡◌, ℕ, ◌+◌, ◌%◌, ◌<◌, ◌≤◌, ◌^◌, Bool, true, false, ◌||◌, ◌⊎◌, nat_eq, List, [], ◌∷◌, ◌++◌, slice_set, take, suc, if◌then◌else◌, length, is_none, Option, Some, None, slice_index_or}
use Rattle.std.specs.List.{list_any, All, IsDistinct}
use Rattle.lits.specs.Clause.{has}
use Rattle.unit_prop.specs.Closure.{forces, is_negated}
use Rattle.unit_prop.specs.Propagation.{IsSettled}
use Rattle.watch_lists.specs.Codes.{flip}
use Rattle.watch_lists.specs.Guard.{IsGuarded}
use Rattle.watch_lists.specs.declared.lists.Watch.{Watch}
use Rattle.watch_lists.specs.declared.attach.Lead.{Lead}
use Rattle.watch_lists.specs.declared.engine.Pair.{Pair}
use Rattle.watch_lists.specs.declared.engine.Level.{Level}
use Rattle.watch_lists.specs.declared.engine.Engine.{Engine}
use Rattle.watch_lists.specs.declared.engine.Visit.{Visit}
use Rattle.watch_lists.specs.declared.engine.Visit.TheVariants.{Next, Gone, Conflict}

-- how long the literal isn't false: the place of its negation, or the end of the trail
abbrev pub height : List ℕ → ℕ → ℕ
height [] l = 0
height (x ∷ xs) l = if nat_eq x (flip l) then 0 else suc (height xs l)

abbrev pub no_pair : Pair
no_pair = record { first = 0; second = 0 }

abbrev pub no_watch : Watch
no_watch = record { clause = 0; blocker = 0; is_two = false }

abbrev pub no_level : Level
no_level = record { start = 0; head = 0 }

abbrev pub codes_at : List (List ℕ) → ℕ → List ℕ
codes_at clauses i = slice_index_or clauses i []

abbrev pub pair_at : List Pair → ℕ → Pair
pair_at pairs i = slice_index_or pairs i no_pair

abbrev pub list_at : List (List Watch) → ℕ → List Watch
list_at lists l = slice_index_or lists l []

abbrev pub watch_at : List Watch → ℕ → Watch
watch_at list k = slice_index_or list k no_watch

abbrev pub level_at : List Level → ℕ → Level
level_at levels i = slice_index_or levels i no_level

-- the lists with one more watch of the literal
abbrev pub pushed : List (List Watch) → ℕ → Watch → List (List Watch)
pushed lists l w = slice_set lists l (list_at lists l ++ w ∷ [])

-- the list where the watch at that place has this blocker, and its clause is read again
abbrev pub blocked : List Watch → ℕ → ℕ → List Watch
blocked list at blocker = slice_set list at (record { clause = (watch_at list at).clause; blocker = blocker; is_two = false })

-- from that place on the list has a watch of the clause
pub record HasWatch (list : List Watch) (from clause : ℕ) : Type 0 where
  pub place : ℕ
  pub after : from ≤ place
  pub before : place < length list
  pub is : (watch_at list place).clause ≡ clause

-- some literal of the clause is in the list
abbrev pub is_met : List ℕ → List ℕ → Bool
is_met trail clause = list_any (has nat_eq trail) clause

-- the pair guards the clause
abbrev pub Guards : List ℕ → List ℕ → List ℕ → Pair → Type 0
Guards past now clause pair = IsGuarded nat_eq flip (has nat_eq past) (has nat_eq now) clause pair.first pair.second

-- the pairs guard the first clauses
abbrev pub AreGuards : List (List ℕ) → List Pair → List ℕ → List ℕ → Type 0
AreGuards clauses pairs past now = (i : ℕ) → i < length pairs → Guards past now (codes_at clauses i) (pair_at pairs i)

-- the pair's literals have a watch of the clause
pub record IsLinked (lists : List (List Watch)) (clause : ℕ) (pair : Pair) : Type 0 where
  pub first : HasWatch (list_at lists pair.first) 0 clause
  pub second : HasWatch (list_at lists pair.second) 0 clause

abbrev pub AreLinked : List Pair → List (List Watch) → Type 0
AreLinked pairs lists = (i : ℕ) → i < length pairs → IsLinked lists i (pair_at pairs i)

-- the watch of the literal is of a guarded clause and its blocker a literal of it; where it says that the clause has two
-- literals, these two are all
pub record IsWatch (clauses : List (List ℕ)) (count lit : ℕ) (watch : Watch) : Type 0 where
  pub guarded : watch.clause < count
  pub inside : has nat_eq (codes_at clauses watch.clause) watch.blocker ≡ true
  pub only : watch.is_two ≡ true → (l : ℕ) → has nat_eq (codes_at clauses watch.clause) l ≡ true → (l ≡ lit) ⊎ (l ≡ watch.blocker)

abbrev pub AreWatches : List (List ℕ) → ℕ → List (List Watch) → Type 0
AreWatches clauses count lists = (l : ℕ) → All (IsWatch clauses count l) (list_at lists l)

-- the literal is a decision, or the only one of its clause that the ones before don't negate
abbrev pub IsJustified : List (List ℕ) → List ℕ → ℕ → Option ℕ → Type 0
IsJustified clauses before lit None = Unit {0}
IsJustified clauses before lit (Some by) =
    (by < length clauses) × (has nat_eq (codes_at clauses by) lit ≡ true)
    × (forces nat_eq flip (has nat_eq before) (codes_at clauses by) lit ≡ true)

-- the literals that have no reason
abbrev pub decisions : List ℕ → List (Option ℕ) → List ℕ
decisions [] reasons = []
decisions (l ∷ ls) [] = []
decisions (l ∷ ls) (None ∷ rs) = l ∷ decisions ls rs
decisions (l ∷ ls) (Some by ∷ rs) = decisions ls rs

-- the clause neither clashes with the literals nor forces another one
abbrev pub AsksNothing : List ℕ → List ℕ → Type 0
AsksNothing set clause = (is_negated flip (has nat_eq set) clause ≡ false) × IsSettled nat_eq flip set clause

-- at the levels below the last no clause asks for anything
abbrev pub AreSettled : List (List ℕ) → List ℕ → List Level → Type 0
AreSettled clauses trail levels =
    (i : ℕ) → i < length clauses → All (λ v. AsksNothing (take v.start trail) (codes_at clauses i)) levels

-- the watches: each clause that has a pair is guarded, at the head and at each level's start
pub record AreWatched (clauses : List (List ℕ)) (pairs : List Pair) (lists : List (List Watch)) (trail : List ℕ) (levels : List Level) (head : ℕ) : Type 0 where
  pub most : length pairs ≤ length clauses
  pub linked : AreLinked pairs lists
  pub watches : AreWatches clauses (length pairs) lists
  pub guards : AreGuards clauses pairs (take head trail) trail
  pub bounds : All (λ v. AreGuards clauses pairs (take v.head trail) (take v.start trail)) levels

-- the levels' starts rise, and their decisions are the literals without a reason
pub record AreLevels (levels : List Level) (reasons : List (Option ℕ)) : Type 0 where
  pub heads : All (λ v. v.head ≤ v.start) levels
  pub within : All (λ v. v.start < length reasons) levels
  pub rising : (i j : ℕ) → i < j → j < length levels → (level_at levels i).start < (level_at levels j).start
  pub decided : All (λ v. slice_index_or reasons v.start None ≡ None) levels
  pub start_of : (k : ℕ) → k < length reasons → slice_index_or reasons k None ≡ None
      → (i : ℕ) × (i < length levels) × ((level_at levels i).start ≡ k)

-- the trail, with the marks of its literals
pub record IsMarked (clauses : List (List ℕ)) (truth : List Bool) (places trail : List ℕ) (reasons : List (Option ℕ)) (levels : List Level) (head : ℕ) : Type 0 where
  pub reasons_all : length reasons ≡ length trail
  pub head_most : head ≤ length trail
  pub levels_are : AreLevels levels reasons
  pub within : (i l : ℕ) → has nat_eq (codes_at clauses i) l ≡ true → l < length truth
  pub even : length truth % 2 ≡ 0
  pub marks : (l : ℕ) → slice_index_or truth l false ≡ has nat_eq trail l
  pub distinct : IsDistinct nat_eq trail
  pub apart : (l : ℕ) → has nat_eq trail l ≡ true → has nat_eq trail (flip l) ≡ false
  pub places_all : length places ≡ length truth
  pub placed : (k : ℕ) → k < length trail → slice_index_or places (slice_index_or trail k 0) 0 ≡ k
  pub justified : (k : ℕ) → k < length trail →
      IsJustified clauses (take k trail) (slice_index_or trail k 0) (slice_index_or reasons k None)

-- the pair has the literals of the clause that aren't false for longest; it has one literal alone if the clause does
pub record IsBest (trail clause : List ℕ) (pair : Pair) : Type 0 where
  pub first_in : has nat_eq clause pair.first ≡ true
  pub second_in : has nat_eq clause pair.second ≡ true
  pub rest : (m : ℕ) → has nat_eq clause m ≡ true → (m ≡ pair.first) ⊎ (height trail m ≤ height trail pair.second)
  pub order : height trail pair.second ≤ height trail pair.first
  pub alone : pair.first ≡ pair.second → (m : ℕ) → has nat_eq clause m ≡ true → m ≡ pair.first

-- the two literals have those of the clause that aren't false for longest, and tell how long they aren't
pub record IsLed (trail clause : List ℕ) (lead : Lead) : Type 0 where
  pub best : IsBest trail clause (record { first = lead.first; second = lead.second })
  pub first_is : lead.first_height ≡ height trail lead.first
  pub second_is : lead.second_height ≡ height trail lead.second

pub record IsEngine (e : Engine) : Type 0 where
  pub lists : length e.lists ≡ length e.truth.items
  pub small : length e.truth.items ≤ 2 ^ 32
  pub few : length e.clauses ≤ 2 ^ 32
  pub settled : AreSettled e.clauses e.trail.items e.levels.items
  pub watched : AreWatched e.clauses (e.pairs.items) e.lists e.trail.items e.levels.items e.head
  pub trail : IsMarked e.clauses e.truth.items e.places.items e.trail.items e.reasons.items e.levels.items e.head

-- in the turn of a literal that is false now: each clause that watches it is met, or its watch is still to come
pub record AreTurned (clauses : List (List ℕ)) (pairs : List Pair) (trail : List ℕ) (list : List Watch) (lit at : ℕ) : Type 0 where
  pub each : (i : ℕ) → i < length pairs
      → (nat_eq (pair_at pairs i).first lit || nat_eq (pair_at pairs i).second lit) ≡ true
      → (is_met trail (codes_at clauses i) ≡ true) ⊎ HasWatch list at i

pub record IsTurn (e : Engine) (lit at : ℕ) : Type 0 where
  pub engine : IsEngine e
  pub next : e.head < length e.trail.items
  pub lit_in : lit < length e.truth.items
  pub is : flip lit ≡ slice_index_or e.trail.items e.head 0
  pub turned : AreTurned e.clauses (e.pairs.items) e.trail.items (list_at e.lists lit) lit at

-- what a visit of one watch makes of the turn
abbrev pub IsVisited : Engine → Engine → ℕ → ℕ → Visit → Type 0
IsVisited old new lit at Next = IsTurn new lit (at + 1) × (length (list_at new.lists lit) ≡ length (list_at old.lists lit))
IsVisited old new lit at Gone = IsTurn new lit at × (length (list_at new.lists lit) + 1 ≡ length (list_at old.lists lit))
IsVisited old new lit at (Conflict i) = IsEngine new × (i < length new.clauses) × (is_negated flip (has nat_eq new.trail.items) (codes_at new.clauses i) ≡ true)

-- literals are put behind those that stand, and none by decision
pub record Grows (old_trail new_trail : List ℕ) (old_reasons new_reasons : List (Option ℕ)) : Type 0 where
  pub trail : take (length old_trail) new_trail ≡ old_trail
  pub reasons : take (length old_reasons) new_reasons ≡ old_reasons
  pub forced : (k : ℕ) → length old_reasons ≤ k → k < length new_reasons → is_none (slice_index_or new_reasons k None) ≡ false

-- clauses, levels and what has been propagated stay
pub record Holds (old new : Engine) : Type 0 where
  pub clauses : new.clauses ≡ old.clauses
  pub levels : new.levels.items ≡ old.levels.items
  pub head : new.head ≡ old.head
  pub size : length new.truth.items ≡ length old.truth.items
  pub pairs : length old.pairs.items ≤ length new.pairs.items
  pub grows : Grows old.trail.items new.trail.items old.reasons.items new.reasons.items

-- the same, but for what has been propagated
pub record Stays (old new : Engine) : Type 0 where
  pub clauses : new.clauses ≡ old.clauses
  pub levels : new.levels.items ≡ old.levels.items
  pub size : length new.truth.items ≡ length old.truth.items
  pub pairs : length old.pairs.items ≤ length new.pairs.items
  pub grows : Grows old.trail.items new.trail.items old.reasons.items new.reasons.items

-- the clause is wholly negated
abbrev pub IsStuck : Engine → ℕ → Type 0
IsStuck e i = IsEngine e × (i < length e.clauses) × (is_negated flip (has nat_eq e.trail.items) (codes_at e.clauses i) ≡ true)

abbrev pub IsTurnEnd : Engine → ℕ → Option ℕ → Type 0
IsTurnEnd e lit None = IsTurn e lit (length (list_at e.lists lit))
IsTurnEnd e lit (Some i) = IsStuck e i

abbrev pub IsPropagated : Engine → Option ℕ → Type 0
IsPropagated e None = IsEngine e × (e.head ≡ length e.trail.items)
IsPropagated e (Some i) = IsStuck e i

-- one of the pair is the literal, the other that one
pub record IsOther (pair : Pair) (lit other : ℕ) : Type 0 where
  pub either : ((pair.first ≡ lit) × (pair.second ≡ other)) ⊎ ((pair.second ≡ lit) × (pair.first ≡ other))
