use Rattle.std.proofs.Common.{◌≡◌, ◌+◌, ◌-◌, ◌<◌, ◌^◌, ℕ, List, length, map, ap, arith, subst, sym, All}
use Rattle.std.specs.List.{range_with_len}
use Rattle.netlist.specs.Miter.{miter_of}
use Rattle.lits.specs.declared.step.Step.{Step}
use Rattle.proof_stitch.specs.Derivation.{spent_log}
use Rattle.proof_stitch.specs.Ids.{HasIds}
use Rattle.proof_stitch.specs.Steps.{additions_from}
use Rattle.proof_stitch.specs.Table.{AreMarked, always, named_ids}
use Rattle.proof_stitch.proofs.BookLemmas.{legal-book, total}
use Rattle.proof_stitch.proofs.LogLemmas.{asks-next, asks-none, logs-ids, logs-small, total-range}
use Rattle.proof_stitch.proofs.ReachLemmas.{shape-refl, shape-trans}
use Rattle.proof_stitch.proofs.logs.ask_logs.Goals as goal

pub loop-output-init : goal.loop-output-init
loop-output-init c =
    let whole : c.outputs-output-end.result - 0 ≡ length c.args.net.now.a.outputs = omega (arith, c.outputs-output-end.ensures.count) in
    record {
      next_is = ap (λ (n : ℕ). c.args.first + total (map (spent_log c.args.book.now.entries) (range_with_len 0 n))) whole;
      shape = shape-refl c.args.marks.now;
      marked = rw (whole, c.requires.first) (λ t marks. marks);
    }

pub ask_steps-requires-clause-ids : goal.ask_steps-requires-clause-ids
ask_steps-requires-clause-ids c =
    let book = legal-book c.args.net.now c.clauses.ensures.net c.args.book.now.sweep_budget c.args.book.now.out_budget
    (omega (arith, c.sweep_budget.ensures.budget, c.sweep_budget.ensures.range))
    (omega (arith, c.out_budget.ensures.budget, c.out_budget.ensures.range)) c.args.book.now.entries c.requires.legal in
    let few : length (miter_of c.args.net.now) < 2 ^ 32 = omega (arith, c.clauses.ensures.count) in
    let range = total-range c.args.book.now.entries c.loop-output.output c.outputs-output-end.result c.loop-output-test.true in
    subst (λ (l : List Step). All (HasIds c.args.net.now c.args.shown.now c.loop-output.next) l) (sym c.spent_log-log.ensures)
    (logs-ids c.args.net.now c.args.book.now.out_budget c.args.book.now.entries book few c.args.shown.now c.requires.shown
    c.loop-output.output c.loop-output.next
    (omega (
      arith,
      range,
      c.loop-output.invariant.next_is,
      c.requires.first,
      logs-small c.args.net.now c.args.book.now.out_budget c.args.book.now.entries book few,
    )))

pub ask_steps-requires-clause-small : goal.ask_steps-requires-clause-small
ask_steps-requires-clause-small c =
    let book = legal-book c.args.net.now c.clauses.ensures.net c.args.book.now.sweep_budget c.args.book.now.out_budget
    (omega (arith, c.sweep_budget.ensures.budget, c.sweep_budget.ensures.range))
    (omega (arith, c.out_budget.ensures.budget, c.out_budget.ensures.range)) c.args.book.now.entries c.requires.legal in
    let few : length (miter_of c.args.net.now) < 2 ^ 32 = omega (arith, c.clauses.ensures.count) in
    omega (
      arith,
      total-range c.args.book.now.entries c.loop-output.output c.outputs-output-end.result c.loop-output-test.true,
      c.loop-output.invariant.next_is,
      c.requires.first,
      ap length c.spent_log-log.ensures,
      logs-small c.args.net.now c.args.book.now.out_budget c.args.book.now.entries book few,
    )

pub overflow_add-next : goal.overflow_add-next
overflow_add-next c =
    let book = legal-book c.args.net.now c.clauses.ensures.net c.args.book.now.sweep_budget c.args.book.now.out_budget
    (omega (arith, c.sweep_budget.ensures.budget, c.sweep_budget.ensures.range))
    (omega (arith, c.out_budget.ensures.budget, c.out_budget.ensures.range)) c.args.book.now.entries c.requires.legal in
    let few : length (miter_of c.args.net.now) < 2 ^ 32 = omega (arith, c.clauses.ensures.count) in
    omega (
      arith,
      total-range c.args.book.now.entries c.loop-output.output c.outputs-output-end.result c.loop-output-test.true,
      c.loop-output.invariant.next_is,
      c.requires.first,
      ap length c.spent_log-log.ensures,
      logs-small c.args.net.now c.args.book.now.out_budget c.args.book.now.entries book few,
    )

pub loop-output-preserved : goal.loop-output-preserved
loop-output-preserved c = record {
  next_is = omega (
    arith,
    total-range c.args.book.now.entries c.loop-output.output c.outputs-output-end.result c.loop-output-test.true,
    c.loop-output.invariant.next_is,
    ap length c.spent_log-log.ensures,
  );
  shape = shape-trans c.args.marks.now c.loop-output.marks c.ask_steps.new.marks c.loop-output.invariant.shape c.ask_steps.ensures.shape;
  marked =
      rw (ap length c.spent_log-log.ensures)
      (asks-next c.args.net.now c.args.book.now.entries c.args.marks.now c.loop-output.marks c.ask_steps.new.marks c.loop-output.output
      c.outputs-output-end.result c.loop-output.next c.loop-output-test.true c.loop-output.invariant.marked c.ask_steps.ensures.shape
      (subst (λ (l : List ℕ). AreMarked (named_ids (additions_from c.args.net.now l c.loop-output.next c.loop-output.next (spent_log c.args.book.now.entries c.loop-output.output)))
      always c.loop-output.marks c.ask_steps.new.marks) c.requires.shown
      (subst (λ (l : List Step). AreMarked (named_ids (additions_from c.args.net.now c.args.shown.now c.loop-output.next c.loop-output.next l)) always
      c.loop-output.marks c.ask_steps.new.marks) c.spent_log-log.ensures c.ask_steps.ensures.marked)));
}

pub returns-clause-marked : goal.returns-clause-marked
returns-clause-marked c =
    asks-none c.args.net.now c.args.book.now.entries c.args.marks.now c.loop-output.marks c.loop-output.output c.outputs-output-end.result
    c.loop-output.next c.loop-output-test.false c.loop-output.invariant.marked
