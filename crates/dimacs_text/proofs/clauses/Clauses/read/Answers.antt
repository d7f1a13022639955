use Rattle.dimacs_text.specs.Words.{words_left}
use Rattle.dimacs_text.proofs.EntryLemmas.{read_more}
use Rattle.dimacs_text.proofs.clauses.Clauses.read.Goals as goal

pub loop-word-preserved : goal.loop-word-preserved
loop-word-preserved c =
    let l = c.loop-word in
    let so_far = rw c.in-Some.ensures.steps at l.invariant in
    read_more c.args.variables (words_left c.args.words) c.in-Some.word
    (words_left c.next.new.self) c.in_ok-entry.entry l.clauses c.add.new.self c.in_ok-entry.ensures
    c.in_ok-add.ensures.ok so_far
