use Rattle.std.proofs.Common.{arith, refl}
use Rattle.check_session.proofs.CountLemmas.{counts-done, counts-next, entry-some}
use Rattle.check_session.proofs.counts.counts_of.Goals as goal

pub loop-place-init : goal.loop-place-init
loop-place-init c = record {
  patterns_are = refl;
  entries_are = record {
    apart_are = refl;
    open_pairs_are = refl;
    open_outputs_are = refl;
    steps_are = refl;
  };
}

pub unwrap-entry-requires : goal.unwrap-entry-requires
unwrap-entry-requires c =
    entry-some c.entry.result c.args.book.now.entries c.loop-place.place c.entry.ensures
    (omega (arith, c.loop-place-test.true, c.len-place-end.ensures))

pub loop-place-preserved : goal.loop-place-preserved
loop-place-preserved c =
    counts-next c.args.patterns c.args.book.now.entries c.loop-place.place c.entry.result c.unwrap-entry.result c.loop-place.counts
    c.with_entry-counts.result c.entry.ensures c.unwrap-entry.ensures c.with_entry-counts.ensures c.loop-place.invariant

pub returns : goal.returns
returns c =
    counts-done c.args.patterns c.args.book.now.entries c.loop-place.place c.loop-place.counts
    (omega (arith, c.loop-place-test.false, c.len-place-end.ensures)) c.loop-place.invariant
