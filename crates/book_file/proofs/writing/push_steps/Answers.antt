use Rattle.std.proofs.Common.{arith}
use Rattle.book_file.specs.Loaded.{number_in}
use Rattle.book_file.proofs.PlaceLemmas.{steps-all}
use Rattle.book_file.proofs.writing.push_steps.Goals as goal

pub returns-clause-text : goal.returns-clause-text
returns-clause-text c =
    let l = c.loop-step in
    steps-all (number_in c.args.numbers.now) c.args.steps.now l.step-index c.args.text.now.items l.text.items c.extend_from_slice.new.self.items
    (omega (arith, c.loop-step-test.false)) l.invariant.written c.in_ok-extend_from_slice.ensures.items
