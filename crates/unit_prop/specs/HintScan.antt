-- The hints that are found by scanning a list of clauses again and again: each next one is the first clause of the
-- list that asks for one (reverse unit propagation in the list's order; Goldberg and Novikov 2003).
use Rattle.std.specs.Prelude.{◌≡◌, Bool, true, false, not, List, [], ◌∷◌, ◌++◌, Some}
use Rattle.std.specs.List.{find, AllByRecursion}
use Rattle.lits.specs.Clause.{has}
use Rattle.lits.specs.Same.{same_lit, opposite}
use Rattle.lits.specs.declared.literal.Lit.{Lit}
use Rattle.lits.specs.declared.step.Named.{Named}
use Rattle.lits.specs.declared.step.Ref.{Ref}
use Rattle.unit_prop.specs.Step.{open_in}
use Rattle.unit_prop.specs.Log.{base_clause}

-- clauses of one name are the same clause
abbrev pub IsNamed : List Named → Type 0
IsNamed base = AllByRecursion (λ n. base_clause base n.by ≡ Some n.clause) base

-- there is no literal that isn't negated, or one, and this one is free
abbrev pub is_asking : List Lit → List Lit → Bool
is_asking set [] = true
is_asking set (l ∷ []) = not (has same_lit set l)
is_asking set (l ∷ m ∷ ls) = false

-- the clause is wholly negated in the set, or has one literal that isn't negated, and this one is free
abbrev pub asks : List Lit → List Lit → Bool
asks set clause = is_asking set (open_in same_lit opposite set clause)

-- the hints that scanning gives from the set on: each names the first clause that asks for a hint; the one literal
-- that this clause leaves joins the set, and where it leaves none the hints end
pub data ScansTo (base : List Named) : List Lit → List Ref → Type 0 where
  last : (set : List Lit) (n : Named) → find (λ m. asks set m.clause) base ≡ Some n
      → open_in same_lit opposite set n.clause ≡ [] → ScansTo base set (n.by ∷ [])
  next : (set : List Lit) (n : Named) (l : Lit) (hints : List Ref) → find (λ m. asks set m.clause) base ≡ Some n
      → open_in same_lit opposite set n.clause ≡ l ∷ [] → ScansTo base (set ++ l ∷ []) hints
      → ScansTo base set (n.by ∷ hints)
