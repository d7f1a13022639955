-- The levels at which a target's negations are assumed.
use Rattle.std.specs.Prelude.{◌≡◌, ℕ, ◌<◌, ◌≤◌, true, List, None}
use Rattle.std.specs.List.{AllByRecursion}
use Rattle.lits.specs.Clause.{has}
use Rattle.lits.specs.Same.{same_lit, opposite}
use Rattle.lits.specs.declared.literal.Lit.{Lit}
use Rattle.watch_lists.specs.Trail.{TrailState, lits_of, up_to}
use Rattle.watch_lists.specs.declared.put.Put.{Put}

-- the put is no decision at one of the first levels but of a negation of the target's
abbrev pub IsChosen : List Lit → ℕ → Put → Type 0
IsChosen target assumed put = put.by ≡ None → put.level ≤ assumed → has same_lit target (opposite put.lit) ≡ true

-- the first levels are those of the target's negations; where there are more, they have them all
pub record IsAssuming (target : List Lit) (t : TrailState) (assumed : ℕ) : Type 0 where
  pub most : assumed ≤ t.last
  pub chosen : AllByRecursion (IsChosen target assumed) t.puts
  pub whole : assumed < t.last → (l : Lit) → has same_lit target l ≡ true
      → has same_lit (lits_of (up_to assumed t.puts)) (opposite l) ≡ true
