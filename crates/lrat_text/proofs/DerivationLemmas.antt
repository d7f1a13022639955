-- What lines derive follows from the formula.
use Rattle.std.proofs.Common.{◌≡◌, ℕ, ◌-◌, Bool, true, false, eqb, List, [], ◌∷◌, ◌++◌, Some, None, refl, ◌∙◌, subst, inl, inr}
use Rattle.std.specs.List.{list_any}
use Rattle.std.proofs.lemmas.Bool.{or_cases}
use Rattle.std.proofs.lemmas.List.Folds.{list_any-append}
use Rattle.std.proofs.Math.Bool.{or-true}
use Rattle.lits.specs.Assignment.{IsAssignment, Holds, Meets, IsSatisfiable, Follows}
use Rattle.lits.specs.Dimacs.{DimacsLiteral}
use Rattle.lits.proofs.Facts.{dim_laws, all-slice_get}
use Rattle.unit_prop.proofs.Facts.{step-holds}
use Rattle.lrat_text.specs.declared.step.Line.{Line}
use Rattle.lrat_text.specs.declared.step.LratStep.{LratStep}
use Rattle.lrat_text.specs.declared.step.LratStep.TheVariants.{Add, Del}
use Rattle.lrat_text.specs.Derivation.{Live, formula_live, after_step, live_after, fault_over, DerivesFrom, Derives, adds_empty, Refutes}
use Rattle.lits.specs.Same.{opposite_dim}

-- each live clause holds under v
pub record AllHold (v : DimacsLiteral → Bool) (live : Live) : Type 0 where
  pub holds : (id : ℕ) (clause : List DimacsLiteral) → live id ≡ Some clause → Holds v clause

formula-holds : (v : DimacsLiteral → Bool) (formula : List (List DimacsLiteral)) → Meets v formula
    → AllHold v (formula_live formula)
formula-holds v formula meets = record { holds = λ id clause e. go id clause (eqb id 0) refl e }
  where
    go : (id : ℕ) (clause : List DimacsLiteral) (b : Bool) → eqb id 0 ≡ b
        → formula_live formula id ≡ Some clause → Holds v clause
    go id clause true f e = let g : None ≡ Some clause = rw f at e in cc
    go id clause false f e = all-slice_get (Holds v) formula (id - 1) clause meets (rw f at e)

module _ (v : DimacsLiteral → Bool) (assigns : IsAssignment opposite_dim v) where
  -- the clause of a step holds where the live ones do
  step-clause : (live : Live) (id : ℕ) (clause : List DimacsLiteral) (hints : List ℕ)
      → AllHold v live → fault_over live (Add id clause hints) ≡ None → Holds v clause
  step-clause live id clause hints all step =
      step-holds dim_laws v assigns live all.holds clause hints step

  step-keeps : (live : Live) (step : LratStep) → AllHold v live → fault_over live step ≡ None
      → AllHold v (after_step live step)
  step-keeps live (Add id clause hints) all step =
      record { holds = λ name c e. go name c (eqb name id) refl e }
    where
      go : (name : ℕ) (c : List DimacsLiteral) (b : Bool) → eqb name id ≡ b
          → after_step live (Add id clause hints) name ≡ Some c → Holds v c
      go name c true f e =
          let g : Some clause ≡ Some c = rw f at e in let h : clause ≡ c = cc in
          subst (λ (l : List DimacsLiteral). Holds v l) h
          (step-clause live id clause hints all step)
      go name c false f e = all.holds name c (rw f at e)
  step-keeps live (Del ids) all step =
      record { holds = λ name c e. go name c (list_any (λ id. eqb id name) ids) refl e }
    where
      go : (name : ℕ) (c : List DimacsLiteral) (b : Bool) → list_any (λ id. eqb id name) ids ≡ b
          → after_step live (Del ids) name ≡ Some c → Holds v c
      go name c true f e = let g : None ≡ Some c = rw f at e in cc
      go name c false f e = all.holds name c (rw f at e)

  lines-keep : (live : Live) (lines : List Line) → AllHold v live → DerivesFrom live lines
      → AllHold v (live_after live lines)
  lines-keep live [] all derives = all
  lines-keep live (line ∷ lines) all derives =
      lines-keep (after_step live line.step) lines
      (step-keeps live line.step all derives.0) derives.1

  -- no step adds the empty clause, which holds nowhere
  step-not_empty : (live : Live) (step : LratStep) → AllHold v live → fault_over live step ≡ None
      → adds_empty step ≡ true → ⊥
  step-not_empty live (Add id [] hints) all step e = let h =
      step-clause live id [] hints all step in cc
  step-not_empty live (Add id (l ∷ ls) hints) all step e = cc
  step-not_empty live (Del ids) all step e = cc

  lines-not_empty : (live : Live) (lines : List Line) → AllHold v live → DerivesFrom live lines
      → list_any (λ line. adds_empty line.step) lines ≡ true → ⊥
  lines-not_empty live [] all derives e = cc
  lines-not_empty live (line ∷ lines) all derives e =
      elim (or_cases (adds_empty line.step) (list_any (λ line. adds_empty line.step) lines) e) [
        | inl here ↦ step-not_empty live line.step all derives.0 here
        | inr there ↦ lines-not_empty (after_step live line.step) lines
            (step-keeps live line.step all derives.0) derives.1 there
      ]

pub refutes-unsatisfiable : (formula : List (List DimacsLiteral)) (lines : List Line)
    → Refutes formula lines → ¬ IsSatisfiable opposite_dim formula
refutes-unsatisfiable formula lines r s =
    lines-not_empty s.values s.assigns (formula_live formula) lines
    (formula-holds s.values formula s.meets) r.derives r.empty

pub live-follows : (formula : List (List DimacsLiteral)) (lines : List Line)
    → Derives formula lines → (id : ℕ) (clause : List DimacsLiteral)
    → live_after (formula_live formula) lines id ≡ Some clause → Follows opposite_dim formula clause
live-follows formula lines derives id clause e v assigns meets =
    (lines-keep v assigns (formula_live formula) lines
    (formula-holds v formula meets) derives).holds id clause e

-- one line more
pub live_after-push : (live : Live) (lines : List Line) (line : Line)
    → live_after live (lines ++ line ∷ []) ≡ after_step (live_after live lines) line.step
live_after-push live [] line = refl
live_after-push live (l ∷ lines) line = live_after-push (after_step live l.step) lines line

pub derives-push : (live : Live) (lines : List Line) (line : Line) → DerivesFrom live lines
    → fault_over (live_after live lines) line.step ≡ None → DerivesFrom live (lines ++ line ∷ [])
derives-push live [] line derives step = (step, tt)
derives-push live (l ∷ lines) line derives step =
    (derives.0, derives-push (after_step live l.step) lines line derives.1 step)

pub refutes-push : (formula : List (List DimacsLiteral)) (lines : List Line) (line : Line)
    → Derives formula lines
    → fault_over (live_after (formula_live formula) lines) line.step ≡ None
    → adds_empty line.step ≡ true → Refutes formula (lines ++ line ∷ [])
refutes-push formula lines line derives step e = record {
  derives = derives-push (formula_live formula) lines line derives step;
  empty = list_any-append (λ l. adds_empty l.step) lines (line ∷ [])
      ∙ rw e (or-true (list_any (λ l. adds_empty l.step) lines));
}
