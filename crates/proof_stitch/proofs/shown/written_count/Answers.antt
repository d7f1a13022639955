use Rattle.std.proofs.Common.{◌+◌, length, map, arith, ap}
use Rattle.netlist.specs.Miter.{miter_of}
use Rattle.proof_stitch.specs.Written.{written_steps, shown_ids}
use Rattle.proof_stitch.proofs.BookLemmas.{legal-book}
use Rattle.proof_stitch.proofs.ReachLemmas.{total-drop, total-past}
use Rattle.proof_stitch.proofs.RefutationLemmas.{length-additions, total-few}
use Rattle.proof_stitch.proofs.WriterLemmas.{entry-there, entry-at}
use Rattle.proof_stitch.proofs.shown.written_count.Goals as goal

pub unwrap-entry-requires : goal.unwrap-entry-requires
unwrap-entry-requires c =
    entry-there c.entry.result c.args.book.now.entries c.loop-place.place c.entry.ensures
    (omega (arith, c.loop-place-test.true, c.len-place-end.ensures))

pub overflow_add-count : goal.overflow_add-count
overflow_add-count c =
    let book = legal-book c.args.net.now c.clauses.ensures.net c.args.book.now.sweep_budget c.args.book.now.out_budget
    (omega (arith, c.sweep_budget.ensures.budget, c.sweep_budget.ensures.range))
    (omega (arith, c.out_budget.ensures.budget, c.out_budget.ensures.range)) c.args.book.now.entries c.requires in
    let at = entry-at c.entry.result c.unwrap-entry.result c.args.book.now.entries c.loop-place.place c.entry.ensures c.unwrap-entry.ensures in
    omega (
      arith,
      c.loop-place.invariant,
      total-drop c.args.book.now.entries c.loop-place.place c.unwrap-entry.result.now at,
      ap length c.written_steps.ensures,
      total-few c.args.net.now c.args.book.now.out_budget c.args.book.now.entries book,
    )

pub loop-place-preserved : goal.loop-place-preserved
loop-place-preserved c =
    let at = entry-at c.entry.result c.unwrap-entry.result c.args.book.now.entries c.loop-place.place c.entry.ensures c.unwrap-entry.ensures in
    omega (
      arith,
      c.loop-place.invariant,
      total-drop c.args.book.now.entries c.loop-place.place c.unwrap-entry.result.now at,
      ap length c.written_steps.ensures,
    )

pub returns-clause-count : goal.returns-clause-count
returns-clause-count c =
    omega (
      arith,
      c.loop-place.invariant,
      total-past c.args.book.now.entries c.loop-place.place (omega (arith, c.loop-place-test.false, c.len-place-end.ensures)),
      length-additions c.args.net.now (shown_ids c.args.net.now c.args.book.now.entries) (length (miter_of c.args.net.now) + 1)
          (map written_steps c.args.book.now.entries),
    )

pub returns-clause-few : goal.returns-clause-few
returns-clause-few c =
    let book = legal-book c.args.net.now c.clauses.ensures.net c.args.book.now.sweep_budget c.args.book.now.out_budget
    (omega (arith, c.sweep_budget.ensures.budget, c.sweep_budget.ensures.range))
    (omega (arith, c.out_budget.ensures.budget, c.out_budget.ensures.range)) c.args.book.now.entries c.requires in
    omega (
      arith,
      c.loop-place.invariant,
      total-few c.args.net.now c.args.book.now.out_budget c.args.book.now.entries book,
    )
