-- An error tells the step's first fault, and after each hint the hints that are left tell it.
use Rattle.std.proofs.Common.{◌≡◌, ◌∙◌, ℕ, ◌+◌, suc, List, ◌∷◌, drop, ap, sym, refl, true, false, Option, Some, Result, Ok, Err, IfOk, arith}
use Rattle.std.specs.declared.alloc.AllocError.{AllocError}
use Rattle.std.specs.Prelude.{slice_get}
use Rattle.std.proofs.Math.Seq.{drop-cons}
use Rattle.std.proofs.lemmas.Option.{get_or_from_slice_get, slice_get_within}
use Rattle.lits.specs.Clause.{has_pair}
use Rattle.lits.specs.Same.{same_lit, opposite}
use Rattle.lits.specs.declared.literal.Lit.{Lit}
use Rattle.lits.specs.declared.step.Ref.{Ref}
use Rattle.unit_prop.specs.declared.why.BadStep.{BadStep}
use Rattle.unit_prop.specs.declared.why.StepErr.{StepErr}
use Rattle.unit_prop.specs.declared.why.StepErr.TheVariants.{Bad, NoMemory}
use Rattle.unit_prop.specs.declared.why.Why.TheVariants.{Tautology}
use Rattle.unit_prop.specs.Step.{State, after_found, fault_from, first_fault, start_of, IfBad}
use Rattle.unit_prop.specs.Log.{with_own}
use Rattle.lemma_book.specs.Judging.{IsFaultOf}
use Rattle.lemma_book.proofs.steps.fault_of.Goals as goal

told-is : (r : Result (Option BadStep) AllocError) (place : ℕ) (error : StepErr) (first : Option BadStep) → IfOk r (IsFaultOf place error)
    → IfBad error (λ w. first ≡ Some (record { hint = place; why = w })) → IfOk r (λ f. f ≡ first)
told-is (Ok f) place (Bad w) first told is = told ∙ sym is
told-is (Ok f) place NoMemory first told is = absurd told
told-is (Err e) place error first told is = tt

module _ (find : Ref → Option (List Lit)) where
  -- a clause that is a tautology
  tautology-first : (error : StepErr) (clause : List Lit) (hints : List Ref) → IfBad error (λ w. w ≡ Tautology)
      → IfBad error (λ w. has_pair same_lit opposite clause ≡ true)
      → IfBad error (λ w. first_fault same_lit opposite find clause hints ≡ Some (record { hint = 0; why = w }))
  tautology-first (Bad w) clause hints is pair = rw (pair, is) refl
  tautology-first NoMemory clause hints is pair = tt

  -- before any hint
  starts : (clause : List Lit) (hints : List Ref) (s : State Lit) → has_pair same_lit opposite clause ≡ false → s ≡ start_of same_lit opposite clause
      → first_fault same_lit opposite find clause hints ≡ fault_from same_lit opposite find 1 s hints
  starts clause hints s apart is = rw (apart, is) refl

  module _ (first : Option BadStep) (s : State Lit) (hints : List Ref) (i : ℕ) (so_far : first ≡ fault_from same_lit opposite find (i + 1) s (drop i hints))
      (name : Ref) (at : slice_get hints i ≡ Some name) where
    here : first ≡ fault_from same_lit opposite find (i + 1) s (name ∷ drop (suc i) hints)
    here =
        so_far
        ∙ ap (fault_from same_lit opposite find (i + 1) s)
        (drop-cons hints i name (slice_get_within hints i name at)
        ∙ ap (λ (n : Ref). n ∷ drop (suc i) hints) (get_or_from_slice_get hints i name name at))

    hint-bad : (error : StepErr) → IfBad error (λ w. after_found same_lit opposite s (find name) ≡ Err w)
        → IfBad error (λ w. first ≡ Some (record { hint = i + 1; why = w }))
    hint-bad (Bad w) is = here ∙ rw is refl
    hint-bad NoMemory is = tt

    hint-next : (t : State Lit) → after_found same_lit opposite s (find name) ≡ Ok t
        → first ≡ fault_from same_lit opposite find (i + 1 + 1) t (drop (i + 1) hints)
    hint-next t is = here ∙ rw is (ap (λ (n : ℕ). fault_from same_lit opposite find (i + 1 + 1) t (drop n hints)) (let e : suc i ≡ i + 1 = omega arith in e))

pub returns-in-Err : goal.returns-in-Err
returns-in-Err g c =
    told-is c.told.result 0 c.in-Err.error _ c.told.ensures
    (tautology-first (with_own (g.S.Sources.find c.args.sources.now) c.args.before.now) c.in-Err.error c.args.step.now.clause c.args.step.now.hints
    c.in-Err.ensures.bad (rw c.lits.ensures.lits at c.in-Err.ensures.tautology))

pub loop-i-init : goal.loop-i-init
loop-i-init g c =
    starts (with_own (g.S.Sources.find c.args.sources.now) c.args.before.now) c.args.step.now.clause c.args.step.now.hints c.begin.new.self
    (rw c.lits.ensures.lits at c.in_default.ensures.clause) (rw c.lits.ensures.lits at c.in_default.ensures.state)

pub loop-i-preserved : goal.loop-i-preserved
loop-i-preserved g c =
    hint-next (with_own (g.S.Sources.find c.args.sources.now) c.args.before.now) _ c.loop-i.check c.args.step.now.hints c.loop-i.i c.loop-i.invariant
    c.at.result c.at.ensures c.take_hint.new.check c.in_default-take_hint.ensures.ok

pub returns-in-Err-take_hint : goal.returns-in-Err-take_hint
returns-in-Err-take_hint g c =
    told-is c.told-in-Err-take_hint.result (c.loop-i.i + 1) c.in-Err-take_hint.error _ c.told-in-Err-take_hint.ensures
    (hint-bad (with_own (g.S.Sources.find c.args.sources.now) c.args.before.now) _ c.loop-i.check c.args.step.now.hints c.loop-i.i c.loop-i.invariant
    c.at.result c.at.ensures c.in-Err-take_hint.error c.in-Err-take_hint.ensures.bad)
