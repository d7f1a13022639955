use Rattle.std.proofs.Common.{arith}
use Rattle.book_file.specs.Writing.{lines_of, FitsEntry}
use Rattle.book_file.proofs.PlaceLemmas.{text-next, fit-next, some-all, fit-all}
use Rattle.book_file.proofs.writing.push_entries.Goals as goal

pub loop-place-preserved : goal.loop-place-preserved
loop-place-preserved c =
    let l = c.loop-place in
    let entry = c.entry_at.result.now in
    record {
      written = text-next (lines_of c.args.numbers.now) c.args.book.now.entries l.place entry l.text.items c.push_entry.new.text.items c.args.text.now.items
          c.entry_at.ensures l.invariant.written c.in_ok-push_entry.ensures.text;
      fit = fit-next FitsEntry c.args.book.now.entries l.place entry c.entry_at.ensures l.invariant.fit c.in_ok-push_entry.ensures.fits;
    }

pub returns-clause-text : goal.returns-clause-text
returns-clause-text c =
    let l = c.loop-place in
    some-all (lines_of c.args.numbers.now) c.args.book.now.entries l.place l.text.items c.args.text.now.items
    (omega (arith, c.loop-place-test.false, c.len-place-end.ensures)) l.invariant.written

pub returns-clause-fit : goal.returns-clause-fit
returns-clause-fit c =
    let l = c.loop-place in
    fit-all FitsEntry c.args.book.now.entries l.place (omega (arith, c.loop-place-test.false, c.len-place-end.ensures)) l.invariant.fit
