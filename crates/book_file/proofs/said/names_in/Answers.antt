use Rattle.std.proofs.Common.{sym}
use Rattle.book_file.proofs.SaidLemmas.{names-more}
use Rattle.book_file.proofs.said.names_in.Goals as goal

pub loop-word-preserved : goal.loop-word-preserved
loop-word-preserved c =
    rw c.in_ok-push-in-Some-name_in.ensures.items
    (names-more c.args.words c.loop-word.names.items c.in-Some.word.now c.next.new.self (rw c.in-Some.ensures.steps at c.loop-word.invariant)
    c.in-Some-name_in.name (sym c.in-Some-name_in.ensures))
