-- What the parts of a step check do.
use Rattle.std.specs.Prelude.{◌≡◌, Bool, false, List, [], ◌∷◌, ◌++◌, if◌then◌else◌}
use Rattle.lits.specs.Clause.{has}
use Rattle.unit_prop.specs.declared.step_check.OpenPart.{OpenPart}
use Rattle.unit_prop.specs.declared.step_check.OpenPart.TheVariants.{Nothing, One, More}

-- the list has no, one or more literals, as the answer says
abbrev pub IsOpenPart : {L : Type 0} → List L → OpenPart L → Type 0
IsOpenPart lits Nothing = lits ≡ []
IsOpenPart lits (One l) = lits ≡ l ∷ []
IsOpenPart {L} lits More = (l m : L) × (ls : List L) × (lits ≡ l ∷ m ∷ ls)

-- new is the set so far with the negation of x last, unless it is there; x isn't there
pub record Assumes {L : Type 0} (eq : L → L → Bool) (opposite : L → L) (old : List L) (x : L) (new : List L) : Type 0 where
  pub apart : has eq old x ≡ false
  pub kept : new ≡ (if has eq old (opposite x) then old else old ++ opposite x ∷ [])
