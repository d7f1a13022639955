-- What closures and new clauses come to under assignments, and steps over more clauses.
use Rattle.std.proofs.Common.{◌≡◌, ℕ, ◌+◌, Bool, true, false, not, ◌||◌, List, [], ◌∷◌, Option, Some, None, Result, Ok, Err, refl, sym, ap, ◌∙◌, subst, inl, inr}
use Rattle.std.specs.Prelude.{filter}
use Rattle.std.specs.List.{AllByRecursion}
use Rattle.std.proofs.lemmas.Bool.{and_from, or_cases, or_left, or_right}
use Rattle.lits.specs.Clause.{has, has_pair}
use Rattle.lits.specs.Assignment.{IsAssignment, Holds, Meets}
use Rattle.lits.proofs.Facts.{IsLiteral}
use Rattle.unit_prop.specs.Closure.{forces, is_negated, IsClosed, Clashes, IsClosure, ClosureClashes, AllTrue}
use Rattle.unit_prop.specs.New.{IsNew, others_negated, SameLiterals}
use Rattle.unit_prop.specs.declared.why.Why.{Why}
use Rattle.unit_prop.specs.declared.why.Why.TheVariants.{Tautology, NoClause}
use Rattle.unit_prop.specs.Step.{State, IsStep, start_of, after_hint, fault_from}
use Rattle.unit_prop.proofs.LiteralLemmas.{contrary, has-head, has-filter, has-map-opposite, witness, all-at, all-true}
use Rattle.unit_prop.proofs.ClosureLemmas.{any-all}

module _ {L : Type 0} {eq : L → L → Bool} {opposite : L → L} (laws : IsLiteral eq opposite) (v : L → Bool)
    (assigns : IsAssignment opposite v) where
  -- a literal and its negation aren't and_from true
  pub one_true : (l : L) → v l ≡ true → v (opposite l) ≡ true → ⊥
  one_true l e f = let g = assigns.negates l in let h : not (v l) ≡ false = ap not e in cc

  -- what is true is closed, where the clauses hold and what is given is true
  pub true-closed : (clauses : List (List L)) (given : List L) → Meets v clauses → ((l : L) → has eq given l ≡ true → v l ≡ true)
      → IsClosed eq opposite clauses given v
  true-closed clauses given meets starts = record { starts = starts; units = units clauses meets }
    where
      unit : (c : List L) → Holds v c → (l : L) → has eq c l ≡ true → forces eq opposite v c l ≡ true → v l ≡ true
      unit c h l e f =
          let w = witness laws v c h in
          elim (or_cases (eq w.0 l) (v (opposite w.0)) (all-at laws (λ m. eq m l || v (opposite m)) c w.0 f w.1)) [
            | inl g ↦ subst (λ (z : L). v z ≡ true) (laws.exact w.0 l g) w.2
            | inr g ↦ absurd (one_true w.0 w.2 g)
          ]

      units : (cs : List (List L)) → Meets v cs
          → AllByRecursion (λ c. (l : L) → has eq c l ≡ true → forces eq opposite v c l ≡ true → v l ≡ true) cs
      units [] m = tt
      units (c ∷ cs) m = (unit c m.0, units cs m.1)

  pub true-apart : (clauses : List (List L)) → Meets v clauses → Clashes opposite clauses v → ⊥
  true-apart clauses meets (inl e) =
      let w = any-all (Holds v) (is_negated opposite v) clauses meets e in
      let m = witness laws v w.0 w.2 in
      one_true m.0 m.2 (all-at laws (λ l. v (opposite l)) w.0 m.0 w.1 m.1)
  true-apart clauses meets (inr w) = one_true w.0 w.1 w.2

  pub all_true-has : (lits : List L) → AllTrue v lits → (l : L) → has eq lits l ≡ true → v l ≡ true
  all_true-has [] all l e = cc
  all_true-has (x ∷ xs) all l e =
      elim (or_cases (eq x l) (has eq xs l) e) [
        | inl f ↦ subst (λ (z : L). v z ≡ true) (laws.exact x l f) all.0
        | inr f ↦ all_true-has xs all.1 l f
      ]

-- no clause among the clauses has the literals of a new one
pub new-differs : {L : Type 0} {eq : L → L → Bool} {opposite : L → L} (laws : IsLiteral eq opposite) (clauses : List (List L)) (clause : List L)
    → IsNew eq opposite clauses clause → AllByRecursion (λ c. ¬ SameLiterals eq c clause) clauses
new-differs {L} {eq} {opposite} laws clauses clause new = go clauses new.missed.closed.units
  where
    given : List L
    given = others_negated eq opposite clause new.lit

    each : (c : List L) → ((l : L) → has eq c l ≡ true → forces eq opposite new.missed.set c l ≡ true → new.missed.set l ≡ true)
        → ¬ SameLiterals eq c clause
    each c unit same =
        contrary _ (unit new.lit (same new.lit ∙ new.inside) (all-true laws (λ m. eq m new.lit || new.missed.set (opposite m)) c (λ m h. other m h (eq m new.lit) refl)))
        new.missed.lacks
      where
        other : (m : L) → has eq c m ≡ true → (b : Bool) → eq m new.lit ≡ b → (eq m new.lit || new.missed.set (opposite m)) ≡ true
        other m h true e = or_left _ _ e
        other m h false e = or_right (eq m new.lit) _ (new.missed.closed.starts (opposite m)
            (has-map-opposite laws (filter (λ k. not (eq k new.lit)) clause) (opposite m)
            ∙ (ap (has eq (filter (λ k. not (eq k new.lit)) clause)) (laws.twice m)
            ∙ (has-filter laws (λ k. not (eq k new.lit)) clause m ∙ and_from _ _ (sym (same m) ∙ h) (ap not e)))))

    go : (cs : List (List L)) → AllByRecursion (λ c. (l : L) → has eq c l ≡ true → forces eq opposite new.missed.set c l ≡ true → new.missed.set l ≡ true) cs
        → AllByRecursion (λ c. ¬ SameLiterals eq c clause) cs
    go [] all = tt
    go (c ∷ cs) all = (each c all.0, go cs all.1)

module _ {L : Type 0} {eq : L → L → Bool} {opposite : L → L} (laws : IsLiteral eq opposite) where
  -- what the closure adds is true where the clauses hold and what is given is true
  pub closure-true : (clauses : List (List L)) (given lits : List L) → IsClosure eq opposite clauses given lits → (v : L → Bool)
      → IsAssignment opposite v → Meets v clauses → AllTrue v given → AllTrue v lits
  closure-true clauses given lits closure v assigns meets all =
      has-all_true lits (closure.least v (true-closed laws v assigns clauses given meets (all_true-has laws v assigns given all)))
    where
      has-all_true : (ls : List L) → ((l : L) → has eq ls l ≡ true → v l ≡ true) → AllTrue v ls
      has-all_true [] f = tt
      has-all_true (x ∷ xs) f = (f x (has-head laws x xs), has-all_true xs (λ l h. f l (or_right (eq x l) _ h)))

  -- where the closure clashes no assignment meets the clauses and makes true what is given
  pub clash-false : (clauses : List (List L)) (given : List L) → ClosureClashes eq opposite clauses given → (v : L → Bool)
      → IsAssignment opposite v → Meets v clauses → AllTrue v given → ⊥
  clash-false clauses given clash v assigns meets all =
      true-apart laws v assigns clauses meets (clash v (true-closed laws v assigns clauses given meets (all_true-has laws v assigns given all)))

-- a step is one over more clauses too
pub step-more : {N L : Type 0} (eq : L → L → Bool) (opposite : L → L) (find more : N → Option (List L))
    → ((n : N) (c : List L) → find n ≡ Some c → more n ≡ Some c) → (clause : List L) (hints : List N)
    → IsStep eq opposite find clause hints → IsStep eq opposite more clause hints
step-more {N} {L} eq opposite find more within clause hints step = start (has_pair eq opposite clause) refl
  where
    faults : (place : ℕ) (s : State L) (ns : List N) → fault_from eq opposite find place s ns ≡ None → fault_from eq opposite more place s ns ≡ None
    faults place s [] e = e
    faults place s (n ∷ ns) e = found (find n) refl (λ t. faults (place + 1) t ns)
      where
        go : (c : List L) (r : Result (State L) Why) → find n ≡ Some c → after_hint eq opposite s c ≡ r
            → ((t : State L) → fault_from eq opposite find (place + 1) t ns ≡ None → fault_from eq opposite more (place + 1) t ns ≡ None)
            → fault_from eq opposite more place s (n ∷ ns) ≡ None
        go c (Ok t) f g rest = rw (within n c f, g) (rest t (rw (f, g) at e))
        go c (Err why) f g rest = let h : Some (record { hint = place; why = why }) ≡ None = rw (f, g) at e in cc

        found : (o : Option (List L)) → find n ≡ o
            → ((t : State L) → fault_from eq opposite find (place + 1) t ns ≡ None → fault_from eq opposite more (place + 1) t ns ≡ None)
            → fault_from eq opposite more place s (n ∷ ns) ≡ None
        found None f rest = let h : Some (record { hint = place; why = NoClause }) ≡ None = rw f at e in cc
        found (Some c) f rest = go c (after_hint eq opposite s c) f refl rest

    start : (b : Bool) → has_pair eq opposite clause ≡ b → IsStep eq opposite more clause hints
    start true f = let h : Some (record { hint = 0; why = Tautology }) ≡ None = rw f at step in cc
    start false f = rw f (faults 1 (start_of eq opposite clause) hints (rw f at step))
