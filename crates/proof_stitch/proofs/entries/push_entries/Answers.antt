use Rattle.std.proofs.Common.{◌≡◌, ◌+◌, ◌<◌, ◌≤◌, ◌^◌, ◌++◌, ℕ, List, drop, length, map, arith, ap, refl, sym, subst, ◌∙◌, All}
use Rattle.std.proofs.lemmas.Result.{err_from_is_err_and}
use Rattle.netlist.specs.Miter.{miter_of}
use Rattle.lits.specs.declared.step.Step.{Step}
use Rattle.proof_stitch.specs.Ids.{HasIds}
use Rattle.proof_stitch.specs.Steps.{additions}
use Rattle.proof_stitch.specs.Written.{written_steps, shown_ids, book_additions}
use Rattle.proof_stitch.proofs.BookLemmas.{legal-book}
use Rattle.proof_stitch.proofs.PassLemmas.{entries-ahead, goes-none, goes-stops, goes-then, same-goes, same-stops}
use Rattle.proof_stitch.proofs.ReachLemmas.{entry-ids, lines-past, shape-refl, shape-trans, total-drop, total-past}
use Rattle.proof_stitch.proofs.RefutationLemmas.{length-additions, total-few}
use Rattle.proof_stitch.proofs.WriterLemmas.{entry-there, entry-at}
use Rattle.proof_stitch.proofs.entries.push_entries.Goals as goal

pub loop-place-init : goal.loop-place-init
loop-place-init g c = record {
  first_is = omega (arith, c.requires.start);
  above = omega (arith, c.requires.start);
  shape = shape-refl c.args.names.now;
  behind = omega arith;
  started = refl;
  text = λ asked all left marks.
      let m = length (miter_of c.args.net.now) in
      let next : m + 1 ≡ c.args.proof.now.last + 1 = ap (λ (n : ℕ). n + 1) (sym c.requires.start) in
      same-goes refl refl (ap (λ (n : ℕ). additions c.args.net.now c.args.shown.now n (map written_steps c.args.book.now.entries) ++ left) next) refl next
      (goes-none m asked all (additions c.args.net.now c.args.shown.now (m + 1) (map written_steps c.args.book.now.entries) ++ left) (m + 1)
      c.args.names.now c.args.proof.now (g.D.Desk.state c.args.desk.now) (g.D.Desk.sizes c.args.desk.now));
}

pub unwrap-entry-requires : goal.unwrap-entry-requires
unwrap-entry-requires g c =
    entry-there c.entry.result c.args.book.now.entries c.loop-place.place c.entry.ensures
    (omega (arith, c.loop-place-test.true, c.len-place-end.ensures))

pub push_steps-requires-clause-ids : goal.push_steps-requires-clause-ids
push_steps-requires-clause-ids g c =
    let book = legal-book c.args.net.now c.clauses.ensures.net c.args.book.now.sweep_budget c.args.book.now.out_budget
    (omega (arith, c.sweep_budget-first.ensures.budget, c.sweep_budget-first.ensures.range))
    (omega (arith, c.out_budget-first.ensures.budget, c.out_budget-first.ensures.range)) c.args.book.now.entries c.requires.legal in
    let few : length (miter_of c.args.net.now) < 2 ^ 32 = omega (arith, c.clauses.ensures.count) in
    let at = entry-at c.entry.result c.unwrap-entry.result c.args.book.now.entries c.loop-place.place c.entry.ensures c.unwrap-entry.ensures in
    subst (λ (l : List Step). All (HasIds c.args.net.now c.args.shown.now c.loop-place.first) l) (sym c.written_steps-steps.ensures)
    (entry-ids c.args.net.now c.args.book.now.out_budget c.args.book.now.entries book few c.args.shown.now c.requires.shown
    c.loop-place.place c.unwrap-entry.result.now at c.loop-place.first
    (omega (
      arith,
      few,
      c.loop-place.invariant.first_is,
      total-drop c.args.book.now.entries c.loop-place.place c.unwrap-entry.result.now at,
      ap length c.written_steps-steps.ensures,
      total-few c.args.net.now c.args.book.now.out_budget c.args.book.now.entries book,
    )))

pub push_steps-requires-clause-above : goal.push_steps-requires-clause-above
push_steps-requires-clause-above g c = omega (arith, c.loop-place.invariant.above, c.requires.marks)

pub push_steps-requires-clause-within : goal.push_steps-requires-clause-within
push_steps-requires-clause-within g c =
    let at = entry-at c.entry.result c.unwrap-entry.result c.args.book.now.entries c.loop-place.place c.entry.ensures c.unwrap-entry.ensures in
    omega (
      arith,
      c.loop-place.invariant.first_is,
      total-drop c.args.book.now.entries c.loop-place.place c.unwrap-entry.result.now at,
      ap length c.written_steps-steps.ensures,
      c.requires.marks,
      c.requires.all_marks,
      length-additions c.args.net.now (shown_ids c.args.net.now c.args.book.now.entries) (length (miter_of c.args.net.now) + 1)
          (map written_steps c.args.book.now.entries),
    )

pub push_steps-requires-clause-alike : goal.push_steps-requires-clause-alike
push_steps-requires-clause-alike g c = shape-trans c.args.marks.now c.args.names.now c.loop-place.names c.requires.alike c.loop-place.invariant.shape

pub push_steps-requires-clause-small : goal.push_steps-requires-clause-small
push_steps-requires-clause-small g c =
    let book = legal-book c.args.net.now c.clauses.ensures.net c.args.book.now.sweep_budget c.args.book.now.out_budget
    (omega (arith, c.sweep_budget-first.ensures.budget, c.sweep_budget-first.ensures.range))
    (omega (arith, c.out_budget-first.ensures.budget, c.out_budget-first.ensures.range)) c.args.book.now.entries c.requires.legal in
    let few : length (miter_of c.args.net.now) < 2 ^ 32 = omega (arith, c.clauses.ensures.count) in
    let at = entry-at c.entry.result c.unwrap-entry.result c.args.book.now.entries c.loop-place.place c.entry.ensures c.unwrap-entry.ensures in
    omega (
      arith,
      few,
      c.loop-place.invariant.first_is,
      total-drop c.args.book.now.entries c.loop-place.place c.unwrap-entry.result.now at,
      ap length c.written_steps-steps.ensures,
      total-few c.args.net.now c.args.book.now.out_budget c.args.book.now.entries book,
    )

pub overflow_add-first-in-loop-place : goal.overflow_add-first-in-loop-place
overflow_add-first-in-loop-place g c =
    let book = legal-book c.args.net.now c.clauses.ensures.net c.args.book.now.sweep_budget c.args.book.now.out_budget
    (omega (arith, c.sweep_budget-first.ensures.budget, c.sweep_budget-first.ensures.range))
    (omega (arith, c.out_budget-first.ensures.budget, c.out_budget-first.ensures.range)) c.args.book.now.entries c.requires.legal in
    let few : length (miter_of c.args.net.now) < 2 ^ 32 = omega (arith, c.clauses.ensures.count) in
    let at = entry-at c.entry.result c.unwrap-entry.result c.args.book.now.entries c.loop-place.place c.entry.ensures c.unwrap-entry.ensures in
    omega (
      arith,
      few,
      c.loop-place.invariant.first_is,
      total-drop c.args.book.now.entries c.loop-place.place c.unwrap-entry.result.now at,
      ap length c.written_steps-steps.ensures,
      total-few c.args.net.now c.args.book.now.out_budget c.args.book.now.entries book,
    )

pub loop-place-preserved : goal.loop-place-preserved
loop-place-preserved g c =
    let at = entry-at c.entry.result c.unwrap-entry.result c.args.book.now.entries c.loop-place.place c.entry.ensures c.unwrap-entry.ensures in
    let first = c.loop-place.first in
    record {
      first_is = omega (
        arith,
        c.loop-place.invariant.first_is,
        total-drop c.args.book.now.entries c.loop-place.place c.unwrap-entry.result.now at,
        ap length c.written_steps-steps.ensures,
      );
      above = omega (arith, c.loop-place.invariant.above);
      shape = shape-trans c.args.names.now c.loop-place.names c.push_steps.new.names c.loop-place.invariant.shape c.push_steps.ensures.shape;
      behind = c.in_ok-push_steps.ensures.behind;
      started = c.push_steps.ensures.started ∙ c.loop-place.invariant.started;
      text = λ asked all left marks.
          goes-then (c.loop-place.invariant.text asked all left marks)
          (same-goes c.requires.marks
          (entries-ahead c.args.net.now c.args.shown.now first c.args.book.now.entries c.loop-place.place c.unwrap-entry.result.now
          c.written_steps-steps.result.now left at c.written_steps-steps.ensures) refl refl refl
          (c.in_ok-push_steps.ensures.text asked all
          (additions c.args.net.now c.args.shown.now (first + length c.written_steps-steps.result.now) (map written_steps (drop (c.loop-place.place + 1) c.args.book.now.entries))
          ++ left) marks));
    }

pub returns-in_err-push_steps-clause-text : goal.returns-in_err-push_steps-clause-text
returns-in_err-push_steps-clause-text g c =
    let p = err_from_is_err_and c.from_residual.result c.from_residual.ensures.1 in
    let at = entry-at c.entry.result c.unwrap-entry.result c.args.book.now.entries c.loop-place.place c.entry.ensures c.unwrap-entry.ensures in
    let first = c.loop-place.first in
    let m = length (miter_of c.args.net.now) in
    rw (p.1, p.2)
    (λ asked all left marks.
    same-stops c.in_err-push_steps.field-0.0 refl
    (ap (λ (l : List ℕ). additions c.args.net.now l (m + 1) (map written_steps c.args.book.now.entries) ++ left) c.requires.shown) refl
    (goes-stops (c.loop-place.invariant.text asked all left marks) c.in_err-push_steps.field-0.0
    (same-stops c.in_err-push_steps.field-0.0 c.requires.marks
    (entries-ahead c.args.net.now c.args.shown.now first c.args.book.now.entries c.loop-place.place c.unwrap-entry.result.now
    c.written_steps-steps.result.now left at c.written_steps-steps.ensures) refl
    (c.in_err-push_steps.ensures.text asked all
    (additions c.args.net.now c.args.shown.now (first + length c.written_steps-steps.result.now) (map written_steps (drop (c.loop-place.place + 1) c.args.book.now.entries))
    ++ left) marks))))

pub returns-clause-text : goal.returns-clause-text
returns-clause-text g c = λ asked all left marks.
    let m = length (miter_of c.args.net.now) in
    let past : length c.args.book.now.entries ≤ c.loop-place.place = omega (arith, c.loop-place-test.false, c.len-place-end.ensures) in
    let first : c.loop-place.first
    ≡ m + length (book_additions c.args.net.now c.args.book.now.entries) + 1 =
    omega (
      arith,
      c.loop-place.invariant.first_is,
      total-past c.args.book.now.entries c.loop-place.place past,
      length-additions c.args.net.now (shown_ids c.args.net.now c.args.book.now.entries) (m + 1) (map written_steps c.args.book.now.entries),
    ) in
    same-goes refl (ap (λ (l : List ℕ). additions c.args.net.now l (m + 1) (map written_steps c.args.book.now.entries) ++ left) c.requires.shown)
    (lines-past c.args.net.now c.args.shown.now c.loop-place.first c.args.book.now.entries c.loop-place.place left past) refl first
    (c.loop-place.invariant.text asked all left marks)

pub returns-clause-room : goal.returns-clause-room
returns-clause-room g c =
    let book = legal-book c.args.net.now c.clauses.ensures.net c.args.book.now.sweep_budget c.args.book.now.out_budget
    (omega (arith, c.sweep_budget-first.ensures.budget, c.sweep_budget-first.ensures.range))
    (omega (arith, c.out_budget-first.ensures.budget, c.out_budget-first.ensures.range)) c.args.book.now.entries c.requires.legal in
    let few : length (miter_of c.args.net.now) < 2 ^ 32 = omega (arith, c.clauses.ensures.count) in
    let past : length c.args.book.now.entries ≤ c.loop-place.place = omega (arith, c.loop-place-test.false, c.len-place-end.ensures) in
    omega (
      arith,
      few,
      c.loop-place.invariant.behind,
      c.loop-place.invariant.first_is,
      total-past c.args.book.now.entries c.loop-place.place past,
      total-few c.args.net.now c.args.book.now.out_budget c.args.book.now.entries book,
    )

pub returns-clause-behind : goal.returns-clause-behind
returns-clause-behind g c =
    let past : length c.args.book.now.entries ≤ c.loop-place.place = omega (arith, c.loop-place-test.false, c.len-place-end.ensures) in
    omega (
      arith,
      c.loop-place.invariant.behind,
      c.loop-place.invariant.first_is,
      total-past c.args.book.now.entries c.loop-place.place past,
      length-additions c.args.net.now (shown_ids c.args.net.now c.args.book.now.entries) (length (miter_of c.args.net.now) + 1)
          (map written_steps c.args.book.now.entries),
    )
