-- The nodes or the output are there, so the literals of the steps decide.
use Rattle.std.proofs.Common.{◌<◌, ℕ, subst, length, sym}
use Rattle.lemma_book.specs.Good.{ArePlaced, IsThere}
use Rattle.lemma_book.specs.Judging.{Tells}
use Rattle.lemma_book.specs.declared.entry.Entry.{Entry}
use Rattle.lemma_book.proofs.Telling.{tells-yes, tells-second_over}
use Rattle.lemma_book.proofs.presence.is_there.Goals as goal

pub returns-then-are_placed : goal.returns-then-are_placed
returns-then-are_placed c =
    subst (λ (e : Entry). Tells (IsThere c.args.net.now e) c.are_over.result) (sym c.in-Merge.is)
    (tells-second_over (ArePlaced c.args.net.now c.in-Merge.node c.in-Merge.lit) c.args.net.now c.in-Merge.steps c.as_slice.result.now c.as_slice.ensures
    (tells-yes (ArePlaced c.args.net.now c.in-Merge.node c.in-Merge.lit) c.are_placed.result c.if-are_placed.true c.are_placed.ensures)
    c.are_over.result c.are_over.ensures)

pub returns-then-are_placed-2 : goal.returns-then-are_placed-2
returns-then-are_placed-2 c =
    subst (λ (e : Entry). Tells (IsThere c.args.net.now e) c.are_over-then-are_placed-2.result) (sym c.in-Spent.is)
    (tells-second_over (ArePlaced c.args.net.now c.in-Spent.node c.in-Spent.lit) c.args.net.now c.in-Spent.log c.as_slice-then-are_placed-2.result.now
    c.as_slice-then-are_placed-2.ensures
    (tells-yes (ArePlaced c.args.net.now c.in-Spent.node c.in-Spent.lit) c.are_placed-in-Spent.result c.if-are_placed-2.true c.are_placed-in-Spent.ensures)
    c.are_over-then-are_placed-2.result c.are_over-then-are_placed-2.ensures)

pub returns-then-output-outputs : goal.returns-then-output-outputs
returns-then-output-outputs c =
    subst (λ (e : Entry). Tells (IsThere c.args.net.now e) c.are_over-then-output-outputs.result) (sym c.in-Out.is)
    (tells-second_over (c.in-Out.output < length c.args.net.now.a.outputs) c.args.net.now c.in-Out.steps c.as_slice-then-output-outputs.result.now
    c.as_slice-then-output-outputs.ensures (subst (λ (n : ℕ). c.in-Out.output < n) c.outputs.ensures.count c.if-output-outputs.true)
    c.are_over-then-output-outputs.result c.are_over-then-output-outputs.ensures)

pub returns-then-output-outputs-2 : goal.returns-then-output-outputs-2
returns-then-output-outputs-2 c =
    subst (λ (e : Entry). Tells (IsThere c.args.net.now e) c.are_over-then-output-outputs-2.result) (sym c.in-OutSpent.is)
    (tells-second_over (c.in-OutSpent.output < length c.args.net.now.a.outputs) c.args.net.now c.in-OutSpent.log c.as_slice-then-output-outputs-2.result.now
    c.as_slice-then-output-outputs-2.ensures (subst (λ (n : ℕ). c.in-OutSpent.output < n) c.outputs-in-OutSpent.ensures.count c.if-output-outputs-2.true)
    c.are_over-then-output-outputs-2.result c.are_over-then-output-outputs-2.ensures)
