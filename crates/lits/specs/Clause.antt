-- What a clause is: its list of literals, without repeats and without a complementary pair.
-- `eq` is the literals' `==`, `opposite` their negation.
use Rattle.std.specs.Prelude.{◌≡◌, Bool, true, false, not, ◌&&◌, ◌||◌, List, [], ◌∷◌, ◌++◌, filter, if◌then◌else◌}
use Rattle.std.specs.List.{list_any}

-- x is in the list
abbrev pub has : {L : Type 0} → (L → L → Bool) → List L → L → Bool
has eq xs x = list_any (λ y. eq y x) xs

-- the first of each repeated literal, in order
abbrev pub firsts : {L : Type 0} → (L → L → Bool) → List L → List L
firsts eq [] = []
firsts eq (x ∷ xs) = x ∷ filter (λ y. not (eq x y)) (firsts eq xs)

-- no literal stands twice
abbrev pub no_repeat : {L : Type 0} → (L → L → Bool) → List L → Bool
no_repeat eq [] = true
no_repeat eq (x ∷ xs) = not (has eq xs x) && no_repeat eq xs

-- some literal stands beside its negation: the clause is a tautology
abbrev pub has_pair : {L : Type 0} → (L → L → Bool) → (L → L) → List L → Bool
has_pair eq opposite [] = false
has_pair eq opposite (x ∷ xs) = has eq xs (opposite x) || has_pair eq opposite xs

-- the list is a clause
pub record IsClause {L : Type 0} (eq : L → L → Bool) (opposite : L → L) (lits : List L) : Type 0 where
  pub once : no_repeat eq lits ≡ true
  pub apart : has_pair eq opposite lits ≡ false

-- new is the clause so far with x last, unless x is there; the negation of x isn't there
pub record Adds {L : Type 0} (eq : L → L → Bool) (opposite : L → L) (old : List L) (x : L) (new : List L) : Type 0 where
  pub apart : has eq old (opposite x) ≡ false
  pub kept : new ≡ (if has eq old x then old else old ++ x ∷ [])
