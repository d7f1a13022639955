-- The steps of a query: each learned step joins the log for one unit.
use Rattle.std.proofs.Common.{◌≡◌, ℕ, ◌+◌, ◌-◌, ◌<◌, length, arith, length-append, List, [], ◌∷◌, ◌++◌, refl, sym, ◌∙◌, ap, subst, append_assoc}
use Rattle.std.proofs.lemmas.List.{append-nil}
use Rattle.lits.specs.declared.literal.Lit.{Lit}
use Rattle.lits.specs.declared.step.Named.{Named}
use Rattle.lits.specs.declared.step.Step.{Step}
use Rattle.unit_prop.specs.Log.{InTurn, IsLearned}
use Rattle.unit_prop.specs.Refuter.{IsUndecided, StaysUndecided}
use Rattle.unit_prop.proofs.Facts.{in_turn-append}
use Rattle.solver_plain.specs.Formula.{Clauses}
use Rattle.solver_plain.specs.Search.{IsLearnedFor}

-- what a query over the formula `first` with `left` units has made of formula and units so far
pub record IsUnderWay (first : Clauses) (target : List Lit) (left : ℕ) (now : Clauses) (left' : ℕ) : Type 0 where
  pub base : now.base ≡ first.base
  pub steps : List Step
  pub grows : now.log ≡ first.log ++ steps
  pub spends : left' + length steps ≡ left
  pub learned : InTurn (IsLearned first.base) first.log steps
  pub undecided : StaysUndecided first.base target first.log steps

pub way-start : (first : Clauses) (target : List Lit) (left : ℕ) → IsUnderWay first target left first left
way-start first target left = record {
  base = refl;
  steps = [];
  grows = sym (append-nil first.log);
  spends = omega arith;
  learned = tt;
  undecided = tt;
}

pub way-next : (first : Clauses) (target : List Lit) (left : ℕ) (now next : Clauses) (left' : ℕ) (step : Step) → 0 < left'
    → IsUnderWay first target left now left' → IsLearnedFor now target step
    → next ≡ record { base = now.base; log = now.log ++ step ∷ [] } → IsUnderWay first target left next (left' - 1)
way-next first target left now next left' step some way found e = record {
  base = ap (λ (f : Clauses). f.base) e ∙ way.base;
  steps = way.steps ++ step ∷ [];
  grows = ap (λ (f : Clauses). f.log) e ∙ rw way.grows (append_assoc first.log way.steps (step ∷ []));
  spends = let n = length-append way.steps (step ∷ []) in let s = way.spends in omega arith;
  learned = in_turn-append (IsLearned first.base) first.log way.steps (step ∷ []) way.learned (
    subst (λ (l : List Step). IsLearned first.base l step) way.grows
        (subst (λ (b : List Named). IsLearned b now.log step) way.base found.learned),
    tt,
  );
  undecided = in_turn-append (λ before _. IsUndecided first.base target before) first.log way.steps (step ∷ []) way.undecided (
    subst (λ (l : List Step). IsUndecided first.base target l) way.grows
        (subst (λ (b : List Named). IsUndecided b target now.log) way.base found.undecided),
    tt,
  );
}
