use Rattle.std.proofs.Common.{◌≡◌, ◌+◌, ◌-◌, ◌<◌, ◌++◌, ℕ, List, drop, length, sym, subst, arith, add-zero}
use Rattle.lits.specs.declared.step.Step.{Step}
use Rattle.lrat_text.specs.declared.step.LratStep.{LratStep}
use Rattle.proof_stitch.specs.Ids.{HasIds}
use Rattle.proof_stitch.specs.Steps.{additions_from}
use Rattle.proof_stitch.specs.Table.{HasMarks}
use Rattle.proof_stitch.specs.Trimmed.{reached}
use Rattle.proof_stitch.proofs.ReachLemmas.{shape-refl, shape-trans, step-at, steps-none}
use Rattle.proof_stitch.proofs.reach.reach_steps.Goals as goal

pub loop-place-init : goal.loop-place-init
loop-place-init c = record {
  within = omega arith;
  shape = shape-refl c.args.marks.now;
  marks = λ asked behind has.
      subst (λ (l : List LratStep). HasMarks asked (reached asked (l ++ behind)) c.args.marks.now)
      (sym (steps-none c.args.net.now c.args.shown.now c.args.first (c.args.first + length c.args.steps.now) c.args.steps.now (length c.args.steps.now)
      (omega arith))) has;
}

pub reach_step-requires-clause-ids : goal.reach_step-requires-clause-ids
reach_step-requires-clause-ids c =
    subst (λ (s : Step). HasIds c.args.net.now c.args.shown.now c.args.first s) (sym c.index-steps-place.is)
    (c.requires.ids (c.loop-place.place - 1) c.index-steps-place.result (omega (arith, c.loop-place.invariant.within, c.loop-place-test.true)))

pub reach_step-requires-clause-above : goal.reach_step-requires-clause-above
reach_step-requires-clause-above c = omega (arith, c.requires.above, c.loop-place.invariant.shape.clauses)

pub reach_step-requires-clause-room : goal.reach_step-requires-clause-room
reach_step-requires-clause-room c =
    omega (
      arith,
      c.requires.room,
      c.loop-place.invariant.within,
      c.loop-place.invariant.shape.clauses,
      c.loop-place.invariant.shape.steps,
      c.loop-place-test.true,
    )

pub loop-place-preserved : goal.loop-place-preserved
loop-place-preserved c =
    let k = c.loop-place.place - 1 in
    let next : c.loop-place.place ≡ k + 1 = omega (arith, c.loop-place-test.true) in
    let lt : k < length c.args.steps.now = omega (arith, c.loop-place.invariant.within, c.loop-place-test.true) in
    record {
      within = omega (arith, lt);
      shape = shape-trans c.args.marks.now c.loop-place.marks c.reach_step.new.marks c.loop-place.invariant.shape c.reach_step.ensures.shape;
      marks = λ asked behind has.
          subst (λ (l : List LratStep). HasMarks asked (reached asked (l ++ behind)) c.reach_step.new.marks)
          (sym (step-at c.args.net.now c.args.shown.now c.args.first c.args.steps.now k c.index-steps-place.result lt c.index-steps-place.is))
          (c.reach_step.ensures.marks asked
          (additions_from c.args.net.now c.args.shown.now c.args.first (c.args.first + (k + 1)) (drop (k + 1) c.args.steps.now) ++ behind)
          (subst (λ (n : ℕ). HasMarks asked
          (reached asked (additions_from c.args.net.now c.args.shown.now c.args.first (c.args.first + n) (drop n c.args.steps.now) ++ behind))
          c.loop-place.marks) next (c.loop-place.invariant.marks asked behind has)));
    }

pub returns-clause-marks : goal.returns-clause-marks
returns-clause-marks c = λ asked behind has.
    let none : c.loop-place.place ≡ 0 = omega (arith, c.loop-place-test.false) in
    subst (λ (n : ℕ). HasMarks asked (reached asked (additions_from c.args.net.now c.args.shown.now c.args.first n c.args.steps.now ++ behind)) c.loop-place.marks)
    (add-zero c.args.first)
    (subst (λ (n : ℕ). HasMarks asked
    (reached asked (additions_from c.args.net.now c.args.shown.now c.args.first (c.args.first + n) (drop n c.args.steps.now) ++ behind))
    c.loop-place.marks) none (c.loop-place.invariant.marks asked behind has))
