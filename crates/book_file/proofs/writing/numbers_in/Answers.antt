use Rattle.std.proofs.Common.{◌∙◌, ◌∷◌, [], length, ap, arith}
use Rattle.std.proofs.lemmas.List.{length-append}
use Rattle.book_file.proofs.PlaceLemmas.{numbers-step, numbers-all}
use Rattle.book_file.proofs.writing.numbers_in.Goals as goal

pub loop-place-preserved : goal.loop-place-preserved
loop-place-preserved c =
    let l = c.loop-place in
    let pushed = c.in_ok-push.ensures.items in
    record {
      numbers = numbers-step c.args.book.now.entries l.numbers.items l.next l.place c.entry_at-entry.result.now c.entry_at-entry.ensures l.invariant.numbers
          c.push.new.self.items c.number_of.result c.count_of-next.result pushed c.number_of.ensures c.count_of-next.ensures.count;
      count = ap length pushed ∙ length-append l.numbers.items (c.number_of.result ∷ []) ∙ omega (arith, l.invariant.count);
      next = omega (arith, l.invariant.next, c.count_of-next.ensures.one);
    }

pub returns-clause-numbers : goal.returns-clause-numbers
returns-clause-numbers c =
    let l = c.loop-place in
    numbers-all c.args.book.now.entries l.numbers.items l.next l.place (omega (arith, c.loop-place-test.false, c.len-place-end.ensures)) l.invariant.numbers
