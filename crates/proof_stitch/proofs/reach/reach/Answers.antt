use Rattle.std.proofs.Common.{◌≡◌, ◌+◌, ◌-◌, ◌<◌, ◌≤◌, ◌^◌, ◌++◌, ℕ, List, drop, length, map, ap, sym, subst, arith, All}
use Rattle.netlist.specs.Miter.{miter_of}
use Rattle.lits.specs.declared.step.Step.{Step}
use Rattle.lrat_text.specs.declared.step.LratStep.{LratStep}
use Rattle.proof_stitch.specs.Ids.{HasIds}
use Rattle.proof_stitch.specs.Steps.{additions, additions_from}
use Rattle.proof_stitch.specs.Table.{HasMarks}
use Rattle.proof_stitch.specs.Trimmed.{reached}
use Rattle.proof_stitch.specs.Written.{written_steps, shown_ids}
use Rattle.proof_stitch.proofs.BookLemmas.{legal-book, total}
use Rattle.proof_stitch.proofs.ReachLemmas.{entry-ids, lines-drop, lines-past, shape-refl, shape-trans, total-drop, total-past, total-rest}
use Rattle.proof_stitch.proofs.RefutationLemmas.{length-additions, total-few}
use Rattle.proof_stitch.proofs.WriterLemmas.{entry-there, entry-at}
use Rattle.proof_stitch.proofs.reach.reach.Goals as goal

pub loop-place-init : goal.loop-place-init
loop-place-init c =
    let past : length c.args.book.now.entries ≤ c.len-place.result = omega (arith, c.len-place.ensures) in
    record {
      within = omega (arith, c.len-place.ensures);
      first_is = omega (
        arith,
        c.requires.last,
        c.requires.clauses,
        c.requires.steps,
        length-additions c.args.net.now (shown_ids c.args.net.now c.args.book.now.entries) (length (miter_of c.args.net.now) + 1)
            (map written_steps c.args.book.now.entries),
        total-past c.args.book.now.entries c.len-place.result past,
      );
      shape = shape-refl c.args.marks.now;
      marks = λ asked behind has.
          subst (λ (l : List LratStep). HasMarks asked (reached asked l) c.args.marks.now)
          (sym (lines-past c.args.net.now c.args.shown.now (c.args.last + 1) c.args.book.now.entries c.len-place.result behind past)) has;
    }

pub unwrap-entry-requires : goal.unwrap-entry-requires
unwrap-entry-requires c =
    entry-there c.entry.result c.args.book.now.entries (c.loop-place.place - 1) c.entry.ensures
    (omega (arith, c.loop-place.invariant.within, c.loop-place-test.true))

pub overflow_sub-first : goal.overflow_sub-first
overflow_sub-first c =
    let k = c.loop-place.place - 1 in
    let next : c.loop-place.place ≡ k + 1 = omega (arith, c.loop-place-test.true) in
    let at = entry-at c.entry.result c.unwrap-entry.result c.args.book.now.entries k c.entry.ensures c.unwrap-entry.ensures in
    omega (
      arith,
      subst (λ (n : ℕ). c.loop-place.first + total (map written_steps (drop n c.args.book.now.entries))
          ≡ length (miter_of c.args.net.now) + 1 + total (map written_steps c.args.book.now.entries)) next c.loop-place.invariant.first_is,
      total-drop c.args.book.now.entries k c.unwrap-entry.result.now at,
      total-rest c.args.book.now.entries k,
      ap length c.written_steps-steps.ensures,
    )

pub reach_steps-requires-clause-ids : goal.reach_steps-requires-clause-ids
reach_steps-requires-clause-ids c =
    let book = legal-book c.args.net.now c.clauses.ensures.net c.args.book.now.sweep_budget c.args.book.now.out_budget
    (omega (arith, c.sweep_budget.ensures.budget, c.sweep_budget.ensures.range))
    (omega (arith, c.out_budget.ensures.budget, c.out_budget.ensures.range)) c.args.book.now.entries c.requires.legal in
    let few : length (miter_of c.args.net.now) < 2 ^ 32 = omega (arith, c.clauses.ensures.count) in
    let k = c.loop-place.place - 1 in
    let next : c.loop-place.place ≡ k + 1 = omega (arith, c.loop-place-test.true) in
    let at = entry-at c.entry.result c.unwrap-entry.result c.args.book.now.entries k c.entry.ensures c.unwrap-entry.ensures in
    let first = c.loop-place.first - length c.written_steps-steps.result.now in
    subst (λ (l : List Step). All (HasIds c.args.net.now c.args.shown.now first) l) (sym c.written_steps-steps.ensures)
    (entry-ids c.args.net.now c.args.book.now.out_budget c.args.book.now.entries book few c.args.shown.now c.requires.shown
    k c.unwrap-entry.result.now at first
    (omega (
      arith,
      few,
      subst (λ (n : ℕ). c.loop-place.first + total (map written_steps (drop n c.args.book.now.entries))
          ≡ length (miter_of c.args.net.now) + 1 + total (map written_steps c.args.book.now.entries)) next c.loop-place.invariant.first_is,
      total-drop c.args.book.now.entries k c.unwrap-entry.result.now at,
      total-rest c.args.book.now.entries k,
      ap length c.written_steps-steps.ensures,
      total-few c.args.net.now c.args.book.now.out_budget c.args.book.now.entries book,
    )))

pub reach_steps-requires-clause-above : goal.reach_steps-requires-clause-above
reach_steps-requires-clause-above c =
    let k = c.loop-place.place - 1 in
    let next : c.loop-place.place ≡ k + 1 = omega (arith, c.loop-place-test.true) in
    let at = entry-at c.entry.result c.unwrap-entry.result c.args.book.now.entries k c.entry.ensures c.unwrap-entry.ensures in
    omega (
      arith,
      subst (λ (n : ℕ). c.loop-place.first + total (map written_steps (drop n c.args.book.now.entries))
          ≡ length (miter_of c.args.net.now) + 1 + total (map written_steps c.args.book.now.entries)) next c.loop-place.invariant.first_is,
      total-drop c.args.book.now.entries k c.unwrap-entry.result.now at,
      total-rest c.args.book.now.entries k,
      ap length c.written_steps-steps.ensures,
      c.loop-place.invariant.shape.clauses,
      c.requires.clauses,
    )

pub reach_steps-requires-clause-room : goal.reach_steps-requires-clause-room
reach_steps-requires-clause-room c =
    let k = c.loop-place.place - 1 in
    let next : c.loop-place.place ≡ k + 1 = omega (arith, c.loop-place-test.true) in
    let at = entry-at c.entry.result c.unwrap-entry.result c.args.book.now.entries k c.entry.ensures c.unwrap-entry.ensures in
    omega (
      arith,
      subst (λ (n : ℕ). c.loop-place.first + total (map written_steps (drop n c.args.book.now.entries))
          ≡ length (miter_of c.args.net.now) + 1 + total (map written_steps c.args.book.now.entries)) next c.loop-place.invariant.first_is,
      total-drop c.args.book.now.entries k c.unwrap-entry.result.now at,
      total-rest c.args.book.now.entries k,
      ap length c.written_steps-steps.ensures,
      c.loop-place.invariant.shape.clauses,
      c.loop-place.invariant.shape.steps,
      c.requires.clauses,
      c.requires.steps,
      length-additions c.args.net.now (shown_ids c.args.net.now c.args.book.now.entries) (length (miter_of c.args.net.now) + 1)
          (map written_steps c.args.book.now.entries),
    )

pub reach_steps-requires-clause-small : goal.reach_steps-requires-clause-small
reach_steps-requires-clause-small c =
    let book = legal-book c.args.net.now c.clauses.ensures.net c.args.book.now.sweep_budget c.args.book.now.out_budget
    (omega (arith, c.sweep_budget.ensures.budget, c.sweep_budget.ensures.range))
    (omega (arith, c.out_budget.ensures.budget, c.out_budget.ensures.range)) c.args.book.now.entries c.requires.legal in
    let few : length (miter_of c.args.net.now) < 2 ^ 32 = omega (arith, c.clauses.ensures.count) in
    let k = c.loop-place.place - 1 in
    let next : c.loop-place.place ≡ k + 1 = omega (arith, c.loop-place-test.true) in
    let at = entry-at c.entry.result c.unwrap-entry.result c.args.book.now.entries k c.entry.ensures c.unwrap-entry.ensures in
    omega (
      arith,
      few,
      subst (λ (n : ℕ). c.loop-place.first + total (map written_steps (drop n c.args.book.now.entries))
          ≡ length (miter_of c.args.net.now) + 1 + total (map written_steps c.args.book.now.entries)) next c.loop-place.invariant.first_is,
      total-drop c.args.book.now.entries k c.unwrap-entry.result.now at,
      total-rest c.args.book.now.entries k,
      ap length c.written_steps-steps.ensures,
      total-few c.args.net.now c.args.book.now.out_budget c.args.book.now.entries book,
    )

pub loop-place-preserved : goal.loop-place-preserved
loop-place-preserved c =
    let k = c.loop-place.place - 1 in
    let next : c.loop-place.place ≡ k + 1 = omega (arith, c.loop-place-test.true) in
    let at = entry-at c.entry.result c.unwrap-entry.result c.args.book.now.entries k c.entry.ensures c.unwrap-entry.ensures in
    let steps : c.written_steps-steps.result.now ≡ written_steps c.unwrap-entry.result.now = c.written_steps-steps.ensures in
    let first = c.loop-place.first - length c.written_steps-steps.result.now in
    let sum = subst (λ (n : ℕ). c.loop-place.first + total (map written_steps (drop n c.args.book.now.entries))
    ≡ length (miter_of c.args.net.now) + 1 + total (map written_steps c.args.book.now.entries)) next c.loop-place.invariant.first_is in
    let back : first + length (written_steps c.unwrap-entry.result.now) ≡ c.loop-place.first =
    omega (
      arith,
      sum,
      total-drop c.args.book.now.entries k c.unwrap-entry.result.now at,
      total-rest c.args.book.now.entries k,
      ap length steps,
    ) in
    record {
      within = omega (arith, c.loop-place.invariant.within);
      first_is = omega (arith, sum, back, total-drop c.args.book.now.entries k c.unwrap-entry.result.now at);
      shape = shape-trans c.args.marks.now c.loop-place.marks c.reach_steps.new.marks c.loop-place.invariant.shape c.reach_steps.ensures.shape;
      marks = λ asked behind has.
          subst (λ (l : List LratStep). HasMarks asked (reached asked l) c.reach_steps.new.marks)
          (sym (lines-drop c.args.net.now c.args.shown.now first c.args.book.now.entries k c.unwrap-entry.result.now behind at))
          (subst (λ (l : List Step). HasMarks asked (reached asked (additions_from c.args.net.now c.args.shown.now first first l
          ++ (additions c.args.net.now c.args.shown.now (first + length (written_steps c.unwrap-entry.result.now)) (map written_steps (drop (k + 1) c.args.book.now.entries)) ++ behind)))
          c.reach_steps.new.marks) steps
          (c.reach_steps.ensures.marks asked
          (additions c.args.net.now c.args.shown.now (first + length (written_steps c.unwrap-entry.result.now)) (map written_steps (drop (k + 1) c.args.book.now.entries)) ++ behind)
          (subst (λ (n : ℕ). HasMarks asked (reached asked (additions c.args.net.now c.args.shown.now n (map written_steps (drop (k + 1) c.args.book.now.entries)) ++ behind)) c.loop-place.marks)
          (sym back)
          (subst (λ (n : ℕ). HasMarks asked (reached asked (additions c.args.net.now c.args.shown.now c.loop-place.first (map written_steps (drop n c.args.book.now.entries)) ++ behind)) c.loop-place.marks)
          next (c.loop-place.invariant.marks asked behind has)))));
    }

pub returns-clause-marks : goal.returns-clause-marks
returns-clause-marks c = λ asked behind has.
    let none : c.loop-place.place ≡ 0 = omega (arith, c.loop-place-test.false) in
    let sum = subst (λ (n : ℕ). c.loop-place.first + total (map written_steps (drop n c.args.book.now.entries))
    ≡ length (miter_of c.args.net.now) + 1 + total (map written_steps c.args.book.now.entries)) none c.loop-place.invariant.first_is in
    let first : c.loop-place.first ≡ length (miter_of c.args.net.now) + 1 = omega (arith, sum) in
    subst (λ (l : List ℕ). HasMarks asked (reached asked (additions c.args.net.now l (length (miter_of c.args.net.now) + 1) (map written_steps c.args.book.now.entries) ++ behind)) c.loop-place.marks)
    c.requires.shown
    (subst (λ (n : ℕ). HasMarks asked (reached asked (additions c.args.net.now c.args.shown.now n (map written_steps c.args.book.now.entries) ++ behind)) c.loop-place.marks)
    first
    (subst (λ (n : ℕ). HasMarks asked (reached asked (additions c.args.net.now c.args.shown.now c.loop-place.first (map written_steps (drop n c.args.book.now.entries)) ++ behind)) c.loop-place.marks)
    none (c.loop-place.invariant.marks asked behind has)))
