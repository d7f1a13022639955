-- An entry that stays is good over those that stayed before it, and gets the next number.
use Rattle.std.proofs.Common.{◌<◌, length, arith}
use Rattle.keep_lemmas.proofs.KeptBooks.{more-good, more-numbers, more-kept}
use Rattle.keep_lemmas.proofs.kept_book.kept_book.Goals as goal

pub keep_entry-requires-clause-good : goal.keep_entry-requires-clause-good
keep_entry-requires-clause-good c =
    let at = c.loop-place in
    let inside : c.loop-place.place < length c.args.book.now.entries = omega (arith, c.loop-place-test.true, c.len-place-end.ensures) in
    more-good c.args.old.now c.args.touched.now c.args.book.now c.args.new.now at.place c.as_slice-known.result.now at.numbers.items at.kept
    c.is_net.ensures c.requires.edited c.requires.legal inside at.invariant.0 c.as_slice-known.ensures.value at.invariant.1

pub loop-place-preserved : goal.loop-place-preserved
loop-place-preserved c =
    let at = c.loop-place in
    let inside : c.loop-place.place < length c.args.book.now.entries = omega (arith, c.loop-place-test.true, c.len-place-end.ensures) in
    let known = c.as_slice-known.result.now in (
      more-numbers c.args.old.now c.args.touched.now c.args.book.now at.place known at.numbers.items c.push.new.self.items at.kept _ inside
          at.invariant.0 c.as_slice-known.ensures.value at.invariant.1 c.in_ok-number.ensures.number c.in_ok-push.ensures.items,
      more-kept c.args.old.now c.args.touched.now c.args.book.now at.place known at.numbers.items at.kept c.keep_entry.new.kept inside
          at.invariant.0 c.as_slice-known.ensures.value at.invariant.1 c.in_ok-number.ensures.kept,
      c.keep_entry.ensures.legal,
    )
