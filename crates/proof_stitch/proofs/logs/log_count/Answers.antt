use Rattle.std.proofs.Common.{◌≡◌, ◌-◌, ℕ, length, map, ap, arith}
use Rattle.std.specs.List.{range_with_len}
use Rattle.proof_stitch.specs.Derivation.{spent_log}
use Rattle.proof_stitch.proofs.BookLemmas.{legal-book, total}
use Rattle.proof_stitch.proofs.DerivationLemmas.{length-log_lines, logs-few}
use Rattle.proof_stitch.proofs.LogLemmas.{total-none, total-range}
use Rattle.proof_stitch.proofs.logs.log_count.Goals as goal

pub loop-output-init : goal.loop-output-init
loop-output-init c =
    let whole : c.outputs-output-end.result - 0 ≡ length c.args.net.now.a.outputs = omega (arith, c.outputs-output-end.ensures.count) in
    omega (arith, ap (λ (n : ℕ). total (map (spent_log c.args.book.now.entries) (range_with_len 0 n))) whole)

pub overflow_add-count : goal.overflow_add-count
overflow_add-count c =
    let book = legal-book c.args.net.now c.clauses.ensures.net c.args.book.now.sweep_budget c.args.book.now.out_budget
    (omega (arith, c.sweep_budget.ensures.budget, c.sweep_budget.ensures.range))
    (omega (arith, c.out_budget.ensures.budget, c.out_budget.ensures.range)) c.args.book.now.entries c.requires in
    omega (
      arith,
      c.loop-output.invariant,
      total-range c.args.book.now.entries c.loop-output.output c.outputs-output-end.result c.loop-output-test.true,
      ap length c.spent_log.ensures,
      logs-few c.args.net.now c.args.book.now.out_budget c.args.book.now.entries book,
    )

pub loop-output-preserved : goal.loop-output-preserved
loop-output-preserved c =
    omega (
      arith,
      c.loop-output.invariant,
      total-range c.args.book.now.entries c.loop-output.output c.outputs-output-end.result c.loop-output-test.true,
      ap length c.spent_log.ensures,
    )

pub returns-clause-count : goal.returns-clause-count
returns-clause-count c =
    omega (
      arith,
      c.loop-output.invariant,
      total-none c.args.book.now.entries c.loop-output.output c.outputs-output-end.result c.loop-output-test.false,
      length-log_lines c.args.net.now c.args.book.now.entries,
    )

pub returns-clause-few : goal.returns-clause-few
returns-clause-few c =
    let book = legal-book c.args.net.now c.clauses.ensures.net c.args.book.now.sweep_budget c.args.book.now.out_budget
    (omega (arith, c.sweep_budget.ensures.budget, c.sweep_budget.ensures.range))
    (omega (arith, c.out_budget.ensures.budget, c.out_budget.ensures.range)) c.args.book.now.entries c.requires in
    omega (arith, c.loop-output.invariant, logs-few c.args.net.now c.args.book.now.out_budget c.args.book.now.entries book)
