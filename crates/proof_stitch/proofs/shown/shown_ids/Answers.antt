use Rattle.std.proofs.Common.{◌≡◌, ◌+◌, ◌-◌, ◌<◌, ◌^◌, ◌++◌, ◌∷◌, [], List, length, arith, ap, refl, ◌∙◌}
use Rattle.netlist.specs.Miter.{miter_of}
use Rattle.proof_stitch.specs.Written.{shown_clauses}
use Rattle.proof_stitch.proofs.BookLemmas.{legal-book}
use Rattle.proof_stitch.proofs.WriterLemmas.{entry-there, entry-at, shown-start, shown-drop, shown-within, shown-next, shown-done}
use Rattle.proof_stitch.proofs.shown.shown_ids.Goals as goal

pub loop-place-init : goal.loop-place-init
loop-place-init c =
    let book = legal-book c.args.net.now c.clauses.ensures.net c.args.book.now.sweep_budget c.args.book.now.out_budget
    (omega (arith, c.sweep_budget-next.ensures.budget, c.sweep_budget-next.ensures.range))
    (omega (arith, c.out_budget-next.ensures.budget, c.out_budget-next.ensures.range)) c.args.book.now.entries c.requires in
    let few : length (miter_of c.args.net.now) < 2 ^ 32 = omega (arith, c.clauses.ensures.count) in
    let start : c.from-next.result + 1 ≡ length (miter_of c.args.net.now) + 1 = omega (arith, c.from-next.ensures, c.clauses.ensures.count) in
    rw (c.new-shown.ensures.items, start) (shown-start c.args.net.now c.args.book.now.out_budget c.args.book.now.entries book few)

pub unwrap-entry-requires : goal.unwrap-entry-requires
unwrap-entry-requires c =
    entry-there c.entry.result c.args.book.now.entries c.loop-place.place c.entry.ensures
    (omega (arith, c.loop-place-test.true, c.len-place-end.ensures))

pub overflow_sub-next : goal.overflow_sub-next
overflow_sub-next c =
    let at = entry-at c.entry.result c.unwrap-entry.result c.args.book.now.entries c.loop-place.place c.entry.ensures c.unwrap-entry.ensures in
    let within = shown-within (shown-drop c.loop-place.place c.unwrap-entry.result.now at c.loop-place.invariant) in
    omega (arith, within, c.shown_count.ensures, ap length c.written_steps.ensures)

pub loop-place-preserved : goal.loop-place-preserved
loop-place-preserved c =
    let at = entry-at c.entry.result c.unwrap-entry.result c.args.book.now.entries c.loop-place.place c.entry.ensures c.unwrap-entry.ensures in
    let next = c.loop-place.next + length c.written_steps.result.now in
    let items : c.push.new.self.items ≡ c.loop-place.shown.items ++ (next - length (shown_clauses c.unwrap-entry.result.now)) ∷ [] =
    c.in_ok-push.ensures.items ∙ rw c.shown_count.ensures refl in
    shown-next (shown-drop c.loop-place.place c.unwrap-entry.result.now at c.loop-place.invariant)
    c.push.new.self.items next (ap (λ (l : List _). c.loop-place.next + length l) c.written_steps.ensures) items

pub returns : goal.returns
returns c = shown-done c.loop-place.place (omega (arith, c.loop-place-test.false, c.len-place-end.ensures)) c.loop-place.invariant
