use Rattle.std.proofs.Common.{◌≡◌, ◌+◌, ◌++◌, ℕ, List, drop, length, arith, refl, sym, ap, subst, ◌∙◌}
use Rattle.std.proofs.lemmas.Result.{err_from_is_err_and}
use Rattle.lits.specs.declared.step.Step.{Step}
use Rattle.lrat_text.specs.declared.step.LratStep.{LratStep}
use Rattle.proof_stitch.specs.Ids.{HasIds}
use Rattle.proof_stitch.specs.Steps.{additions_from}
use Rattle.proof_stitch.proofs.PassLemmas.{goes-none, goes-stops, goes-then, same-goes, same-stops, steps-ahead}
use Rattle.proof_stitch.proofs.ReachLemmas.{shape-refl, shape-trans, steps-none}
use Rattle.proof_stitch.proofs.entries.push_steps.Goals as goal

pub loop-step-init : goal.loop-step-init
loop-step-init g c = record {
  id_is = omega arith;
  shape = shape-refl c.args.names.now;
  behind = c.requires.behind;
  started = refl;
  text = λ asked all left marks.
      goes-none c.args.marks.now.clauses asked all (additions_from c.args.net.now c.args.shown.now c.args.first c.args.first c.args.steps.now ++ left)
      c.args.first c.args.names.now c.args.proof.now (g.D.Desk.state c.args.desk.now) (g.D.Desk.sizes c.args.desk.now);
}

pub push_step-requires-clause-ids : goal.push_step-requires-clause-ids
push_step-requires-clause-ids g c =
    subst (λ (s : Step). HasIds c.args.net.now c.args.shown.now c.args.first s) (sym c.step-item.is)
    (c.requires.ids c.loop-step.step-index c.step-item.result c.loop-step-test.true)

pub push_step-requires-clause-is_step : goal.push_step-requires-clause-is_step
push_step-requires-clause-is_step g c = (
  omega (arith, c.requires.above, c.loop-step.invariant.id_is),
  omega (arith, c.requires.within, c.loop-step.invariant.id_is, c.loop-step-test.true),
)

pub push_step-requires-clause-alike : goal.push_step-requires-clause-alike
push_step-requires-clause-alike g c = shape-trans c.args.marks.now c.args.names.now c.loop-step.names c.requires.alike c.loop-step.invariant.shape

pub push_step-requires-clause-small : goal.push_step-requires-clause-small
push_step-requires-clause-small g c = omega (arith, c.requires.small, c.loop-step.invariant.id_is, c.loop-step-test.true)

pub loop-step-preserved : goal.loop-step-preserved
loop-step-preserved g c =
    let i = c.loop-step.step-index in
    let id : c.loop-step.id ≡ c.args.first + i = c.loop-step.invariant.id_is in
    let next : c.args.first + (i + 1) ≡ c.loop-step.id + 1 = omega (arith, id) in
    record {
      id_is = omega (arith, id);
      shape = shape-trans c.args.names.now c.loop-step.names c.push_step.new.names c.loop-step.invariant.shape c.push_step.ensures.shape;
      behind = omega (arith, c.in_ok-push_step.ensures.behind, c.loop-step.invariant.behind);
      started = c.push_step.ensures.started ∙ c.loop-step.invariant.started;
      text = λ asked all left marks.
          goes-then (c.loop-step.invariant.text asked all left marks)
          (same-goes refl
          (steps-ahead c.args.net.now c.args.shown.now c.args.first c.loop-step.id c.args.steps.now i c.step-item.result left id c.loop-step-test.true c.step-item.is)
          (ap (λ (n : ℕ). additions_from c.args.net.now c.args.shown.now c.args.first n (drop (i + 1) c.args.steps.now) ++ left) next) refl refl
          (c.in_ok-push_step.ensures.text asked all
          (additions_from c.args.net.now c.args.shown.now c.args.first (c.args.first + (i + 1)) (drop (i + 1) c.args.steps.now) ++ left) marks));
    }

pub returns-in_err-push_step-clause-text : goal.returns-in_err-push_step-clause-text
returns-in_err-push_step-clause-text g c =
    let p = err_from_is_err_and c.from_residual.result c.from_residual.ensures.1 in
    let i = c.loop-step.step-index in
    rw (p.1, p.2)
    (λ asked all left marks.
    goes-stops (c.loop-step.invariant.text asked all left marks) c.in_err-push_step.field-0.0
    (same-stops c.in_err-push_step.field-0.0 refl
    (steps-ahead c.args.net.now c.args.shown.now c.args.first c.loop-step.id c.args.steps.now i c.step-item.result left c.loop-step.invariant.id_is
    c.loop-step-test.true c.step-item.is) refl
    (c.in_err-push_step.ensures.text asked all
    (additions_from c.args.net.now c.args.shown.now c.args.first (c.args.first + (i + 1)) (drop (i + 1) c.args.steps.now) ++ left) marks)))

pub returns-clause-text : goal.returns-clause-text
returns-clause-text g c = λ asked all left marks.
    let i = c.loop-step.step-index in
    let past = c.loop-step-test.false in
    let count : c.loop-step.id ≡ c.args.first + length c.args.steps.now = omega (arith, c.loop-step.invariant.id_is, past, c.loop-step.auto.step-index-end) in
    same-goes refl refl
    (ap (λ (l : List LratStep). l ++ left) (steps-none c.args.net.now c.args.shown.now c.args.first c.loop-step.id c.args.steps.now i past)) refl count
    (c.loop-step.invariant.text asked all left marks)

pub returns-clause-behind : goal.returns-clause-behind
returns-clause-behind g c =
    omega (arith, c.loop-step.invariant.behind, c.loop-step.invariant.id_is, c.loop-step-test.false, c.loop-step.auto.step-index-end)
