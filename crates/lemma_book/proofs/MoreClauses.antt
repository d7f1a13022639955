-- A chain of steps is one over more clauses too.
use Rattle.std.proofs.Common.{◌≡◌, List, Option, Some, []}
use Rattle.lits.specs.declared.literal.Lit.{Lit}
use Rattle.lits.specs.declared.step.Step.{Step}
use Rattle.lits.specs.declared.step.Ref.{Ref}
use Rattle.lits.specs.declared.step.Ref.TheVariants.{Axiom, Entry, Own, Bound}
use Rattle.lits.specs.Same.{same_lit, opposite}
use Rattle.unit_prop.specs.Step.{IsStep}
use Rattle.unit_prop.specs.Log.{with_own, IsStepAfter, IsChain}
use Rattle.unit_prop.proofs.Facts.{step-more}
use Rattle.unit_prop.proofs.Facts.{in_turn-map}

module _ (find more : Ref → Option (List Lit)) (within : (n : Ref) (c : List Lit) → find n ≡ Some c → more n ≡ Some c) where
  with_own-more : (steps : List Step) (n : Ref) (c : List Lit) → with_own find steps n ≡ Some c → with_own more steps n ≡ Some c
  with_own-more steps (Axiom node k) c e = within (Axiom node k) c e
  with_own-more steps (Entry entry k) c e = within (Entry entry k) c e
  with_own-more steps (Own k) c e = e
  with_own-more steps (Bound side k) c e = within (Bound side k) c e

  -- a step after others is one over more clauses too
  pub step_after-more : (before : List Step) (clause : List Lit) (hints : List Ref)
      → IsStep same_lit opposite (with_own find before) clause hints → IsStep same_lit opposite (with_own more before) clause hints
  step_after-more before clause hints step =
      step-more same_lit opposite (with_own find before) (with_own more before) (with_own-more before) clause hints step

  -- so is a chain of steps
  pub chain-more : (steps : List Step) → IsChain find steps → IsChain more steps
  chain-more steps chain = in_turn-map (IsStepAfter find) (IsStepAfter more) [] steps (λ before s step. step_after-more before s.clause s.hints step) chain
