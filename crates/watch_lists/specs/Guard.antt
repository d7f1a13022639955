-- When the two watched literals of a clause guard it.
use Rattle.std.specs.Prelude.{◌≡◌, Bool, true, List}
use Rattle.std.specs.List.{list_any}
use Rattle.lits.specs.Clause.{has}

-- two literals of the clause, each of which is not negated in `past` unless `now` has some literal of the clause; a
-- clause with one watch alone has a literal that `now` has
pub record IsGuarded {L : Type 0} (eq : L → L → Bool) (opposite : L → L) (past now : L → Bool) (clause : List L) (first second : L) : Type 0 where
  pub first_in : has eq clause first ≡ true
  pub second_in : has eq clause second ≡ true
  pub first_kept : past (opposite first) ≡ true → list_any now clause ≡ true
  pub second_kept : past (opposite second) ≡ true → list_any now clause ≡ true
  pub alone : eq first second ≡ true → list_any now clause ≡ true
