use Rattle.std.proofs.Common.{◌≡◌, ◌+◌, ◌∷◌, ◌++◌, [], ℕ, List, drop, map, arith, add-zero, subst, sym}
use Rattle.lits.specs.declared.step.Step.{Step}
use Rattle.lrat_text.specs.declared.step.LratStep.{LratStep}
use Rattle.proof_stitch.specs.Ids.{HasIds}
use Rattle.proof_stitch.specs.Steps.{additions_from, id_of}
use Rattle.proof_stitch.specs.Table.{AreMarked, always, named_ids}
use Rattle.proof_stitch.proofs.ReachLemmas.{marks-next, marks-nothing, shape-refl, shape-trans, step-at, steps-none}
use Rattle.proof_stitch.proofs.logs.ask_steps.Goals as goal

pub loop-step-init : goal.loop-step-init
loop-step-init c = record {
  id_is = omega arith;
  shape = shape-refl c.args.marks.now;
  marked = rw (add-zero c.args.first) (λ t marks. marks);
}

pub mark_hints-requires-clause-ids : goal.mark_hints-requires-clause-ids
mark_hints-requires-clause-ids c =
    let ids : HasIds c.args.net.now c.args.shown.now c.args.first c.step-item.result =
    subst (λ (s : Step). HasIds c.args.net.now c.args.shown.now c.args.first s) (sym c.step-item.is)
    (c.requires.ids c.loop-step.step-index c.step-item.result c.loop-step-test.true) in
    ids.hints

pub loop-step-preserved : goal.loop-step-preserved
loop-step-preserved c =
    let i = c.loop-step.step-index in
    let id : c.loop-step.id ≡ c.args.first + i = c.loop-step.invariant.id_is in
    let named = map (id_of c.args.net.now c.args.shown.now c.args.first) c.step-item.result.hints in
    let behind = additions_from c.args.net.now c.args.shown.now c.args.first (c.args.first + (i + 1)) (drop (i + 1) c.args.steps.now) in
    record {
      id_is = omega (arith, id);
      shape =
          shape-trans c.args.marks.now c.loop-step.marks c.mark_hints.new.marks c.loop-step.invariant.shape
          (shape-trans c.loop-step.marks c.mark.new.marks c.mark_hints.new.marks c.mark.ensures.shape c.mark_hints.ensures.shape);
      marked = λ t rest.
          c.loop-step.invariant.marked t
          (subst (λ (l : List LratStep). AreMarked (named_ids l) always c.loop-step.marks t)
          (sym (step-at c.args.net.now c.args.shown.now c.args.first c.args.steps.now i c.step-item.result c.loop-step-test.true c.step-item.is))
          (subst (λ (n : ℕ). AreMarked (n ∷ (named ++ named_ids behind)) always c.loop-step.marks t) id
          (marks-next c.loop-step.marks c.mark.new.marks t (c.loop-step.id ∷ []) (named ++ named_ids behind) always (omega arith)
          c.mark.ensures.shape c.mark.ensures.marked
          (marks-next c.mark.new.marks c.mark_hints.new.marks t named (named_ids behind) always (omega arith) c.mark_hints.ensures.shape c.mark_hints.ensures.marked rest))));
    }

pub returns-clause-marked : goal.returns-clause-marked
returns-clause-marked c =
    c.loop-step.invariant.marked c.loop-step.marks
    (subst (λ (l : List LratStep). AreMarked (named_ids l) always c.loop-step.marks c.loop-step.marks)
    (sym (steps-none c.args.net.now c.args.shown.now c.args.first (c.args.first + c.loop-step.step-index) c.args.steps.now c.loop-step.step-index c.loop-step-test.false))
    (marks-nothing c.loop-step.marks always))
