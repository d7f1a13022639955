-- The step that adds the empty clause: units that make literals true one after the other, and then the clause of their
-- negations.
use Rattle.std.proofs.Common.{◌≡◌, ℕ, ◌+◌, Bool, true, false, not, Option, Some, None, Ok, List, [], ◌∷◌, ◌++◌, map, refl, sym, subst, append_assoc}
use Rattle.std.specs.Prelude.{filter}
use Rattle.std.specs.List.{AllByRecursion}
use Rattle.std.proofs.lemmas.List.{append-nil}
use Rattle.lits.specs.Clause.{has}
use Rattle.unit_prop.specs.Step.{State, is_satisfied, after_hint, fault_from, IsStep}

-- the literals and their negations aren't in the set or before in the list
abbrev pub AreFresh : {L : Type 0} → (L → L → Bool) → (L → L) → List L → List L → Type 0
AreFresh eq opposite set [] = Unit {0}
AreFresh eq opposite set (x ∷ xs) =
    (has eq set x ≡ false) × (has eq set (opposite x) ≡ false) × AreFresh eq opposite (set ++ x ∷ []) xs

module _ {L N K : Type 0} (eq : L → L → Bool) (opposite : L → L) (find : N → Option (List L)) (name : K → N) (lit : K → L) where
  -- each name is that of the unit of its literal
  abbrev pub AreUnits : List K → Type 0
  AreUnits ks = AllByRecursion (λ k. find (name k) ≡ Some (lit k ∷ [])) ks

  abbrev state : List L → State L
  state set = record { set = set; clashed = false }

  -- after the hint of a unit its literal is in the set too
  unit-hint : (set : List L) (x : L) → has eq set x ≡ false → has eq set (opposite x) ≡ false
      → after_hint eq opposite (state set) (x ∷ []) ≡ Ok (state (set ++ x ∷ []))
  unit-hint set x e f = rw (e, f) refl

  units-hints : (ks : List K) (set : List L) (place : ℕ) (rest : List N) → AreFresh eq opposite set (map lit ks) → AreUnits ks
      → ((p : ℕ) → fault_from eq opposite find p (state (set ++ map lit ks)) rest ≡ None)
      → fault_from eq opposite find place (state set) (map name ks ++ rest) ≡ None
  units-hints [] set place rest fresh units cont =
      subst (λ (s : List L). fault_from eq opposite find place (state s) rest ≡ None) (append-nil set) (cont place)
  units-hints (k ∷ ks) set place rest fresh units cont =
      rw (units.0, unit-hint set (lit k) fresh.0 fresh.1)
      (units-hints ks (set ++ lit k ∷ []) (place + 1) rest fresh.2 units.1
      (λ p. subst (λ (s : List L). fault_from eq opposite find p (state s) rest ≡ None) (sym (append_assoc set (lit k ∷ []) (map lit ks))) (cont p)))

  -- no literal of the last clause is true
  unsatisfied : (set ys : List L) → AllByRecursion (λ y. has eq set (opposite y) ≡ false) ys → is_satisfied eq set (map opposite ys) ≡ false
  unsatisfied set [] apart = refl
  unsatisfied set (y ∷ ys) apart = rw (apart.0, unsatisfied set ys apart.1) refl

  -- and each is false
  closed : (set ys : List L) → AllByRecursion (λ y. has eq set (opposite (opposite y)) ≡ true) ys
      → filter (λ l. not (has eq set (opposite l))) (map opposite ys) ≡ []
  closed set [] inside = refl
  closed set (y ∷ ys) inside = rw (inside.0, closed set ys inside.1) refl

  last-hint : (set : List L) → AllByRecursion (λ y. has eq set (opposite y) ≡ false) set
      → AllByRecursion (λ y. has eq set (opposite (opposite y)) ≡ true) set
      → after_hint eq opposite (state set) (map opposite set) ≡ Ok (record { set = set; clashed = true })
  last-hint set apart inside = rw (unsatisfied set set apart, closed set set inside) refl

  -- what makes the empty clause a step: fresh units, and a clause of their negations
  pub record IsWhole (ks : List K) (last : N) : Type 0 where
    pub fresh : AreFresh eq opposite [] (map lit ks)
    pub units : AreUnits ks
    pub negations : find last ≡ Some (map opposite (map lit ks))
    pub apart : AllByRecursion (λ y. has eq (map lit ks) (opposite y) ≡ false) (map lit ks)
    pub inside : AllByRecursion (λ y. has eq (map lit ks) (opposite (opposite y)) ≡ true) (map lit ks)

  pub empty-step : (ks : List K) (last : N) → IsWhole ks last → IsStep eq opposite find [] (map name ks ++ last ∷ [])
  empty-step ks last whole =
      units-hints ks [] 1 (last ∷ []) whole.fresh whole.units
      (λ p. rw (whole.negations, last-hint (map lit ks) whole.apart whole.inside) refl)
