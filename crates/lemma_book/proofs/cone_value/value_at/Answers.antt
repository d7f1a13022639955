-- A value that is found is new, and a fanin stands before its gate.
use Rattle.std.proofs.Common.{◌<◌, ◌+◌, ℕ, Option, Some, subst, sym, arith}
use Rattle.lemma_book.specs.ConeValue.{IsNext}
use Rattle.lemma_book.proofs.ConeValueLemmas.{unknown_below, rank, found-smaller, values-noted}
use Rattle.lemma_book.proofs.cone_value.value_at.Goals as goal

pub loop-next-preserved-in_ok-note-in-Ok : goal.loop-next-preserved-in_ok-note-in-Ok
loop-next-preserved-in_ok-note-in-Ok c = (
  values-noted c.loop-next.known c.note.new.self c.in-Some.at c.in-Ok.value c.in_ok-note-in-Ok.ensures.value c.note.ensures.others
      c.args.net.now c.args.input.now c.in-Ok.ensures c.loop-next.invariant.0,
  c.next_unknown-next-in-Ok.ensures.waiting,
  c.next_unknown-next-in-Ok.ensures.next,
)

pub loop-next-smaller-in_ok-note-in-Ok : goal.loop-next-smaller-in_ok-note-in-Ok
loop-next-smaller-in_ok-note-in-Ok c =
    let sought = c.args.position in
    let at : IsNext c.loop-next.known sought (Some c.in-Some.at) = subst (λ (o : Option ℕ). IsNext c.loop-next.known sought o) c.in-Some.is c.loop-next.invariant.2 in
    subst (λ (o : Option ℕ). unknown_below (sought + 1) c.note.new.self (sought + 1) + rank c.next_unknown-next-in-Ok.result
    < unknown_below (sought + 1) c.loop-next.known (sought + 1) + rank o) (sym c.in-Some.is)
    (found-smaller c.loop-next.known c.note.new.self c.in-Some.at c.in-Ok.value c.in_ok-note-in-Ok.ensures.value c.note.ensures.others sought c.next_unknown-next-in-Ok.result at.1 at.0
    c.next_unknown-next-in-Ok.ensures.next)

pub loop-next-smaller : goal.loop-next-smaller
loop-next-smaller c =
    let sought = c.args.position in
    let below : c.in-Err.fanin < c.in-Some.at = c.in-Err.ensures.0 in
    subst (λ (o : Option ℕ). unknown_below (sought + 1) c.loop-next.known (sought + 1) + rank (Some c.in-Err.fanin)
    < unknown_below (sought + 1) c.loop-next.known (sought + 1) + rank o) (sym c.in-Some.is) (omega (arith, below))
