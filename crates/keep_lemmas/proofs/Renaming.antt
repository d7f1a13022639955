-- A step is one still where its hints have other names for the same clauses.
use Rattle.std.proofs.Common.{◌≡◌, ℕ, ◌+◌, Bool, true, false, List, [], ◌∷◌, map, Option, Some, None, Result, Ok, Err, refl, sym}
use Rattle.std.specs.List.{AllByRecursion}
use Rattle.std.proofs.lemmas.Option.{none-some}
use Rattle.lits.specs.Clause.{has_pair}
use Rattle.unit_prop.specs.declared.why.Why.{Why}
use Rattle.unit_prop.specs.declared.why.Why.TheVariants.{Tautology, NoClause}
use Rattle.unit_prop.specs.declared.why.BadStep.{BadStep}
use Rattle.unit_prop.specs.Step.{State, IsStep, start_of, after_hint, fault_from}

-- a fault at that place
abbrev bad : ℕ → Why → BadStep
bad place why = record { hint = place; why = why }

module _ {N L : Type 0} (eq : L → L → Bool) (opposite : L → L) (find more : N → Option (List L)) (name : N → N) where
  -- the clause of the hint has the other name too
  abbrev pub IsNamed : N → Type 0
  IsNamed n = (c : List L) → find n ≡ Some c → more (name n) ≡ Some c

  -- the hints with their other names show the clause
  pub step-renamed : (clause : List L) (hints : List N) → AllByRecursion IsNamed hints → IsStep eq opposite find clause hints
      → IsStep eq opposite more clause (map name hints)
  step-renamed clause hints named step = start (has_pair eq opposite clause) refl
    where
      faults : (place : ℕ) (s : State L) (ns : List N) → AllByRecursion IsNamed ns → fault_from eq opposite find place s ns ≡ None
          → fault_from eq opposite more place s (map name ns) ≡ None
      faults place s [] all e = e
      faults place s (n ∷ ns) all e = found (find n) refl (λ t. faults (place + 1) t ns all.1)
        where
          go : (c : List L) (r : Result (State L) Why) → find n ≡ Some c → after_hint eq opposite s c ≡ r
              → ((t : State L) → fault_from eq opposite find (place + 1) t ns ≡ None → fault_from eq opposite more (place + 1) t (map name ns) ≡ None)
              → fault_from eq opposite more place s (name n ∷ map name ns) ≡ None
          go c (Ok t) f g rest = rw (all.0 c f, g) (rest t (rw (f, g) at e))
          go c (Err why) f g rest = absurd (none-some (bad place why) (sym (rw (f, g) at e)))

          found : (o : Option (List L)) → find n ≡ o
              → ((t : State L) → fault_from eq opposite find (place + 1) t ns ≡ None → fault_from eq opposite more (place + 1) t (map name ns) ≡ None)
              → fault_from eq opposite more place s (name n ∷ map name ns) ≡ None
          found None f rest = absurd (none-some (bad place NoClause) (sym (rw f at e)))
          found (Some c) f rest = go c (after_hint eq opposite s c) f refl rest

      start : (b : Bool) → has_pair eq opposite clause ≡ b → IsStep eq opposite more clause (map name hints)
      start true f = absurd (none-some (bad 0 Tautology) (sym (rw f at step)))
      start false f = rw f (faults 1 (start_of eq opposite clause) hints named (rw f at step))
