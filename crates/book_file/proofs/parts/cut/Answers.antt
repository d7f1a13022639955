use Rattle.book_file.proofs.CutLemmas.{split_first, split_whole}
use Rattle.book_file.proofs.parts.cut.Goals as goal

pub returns-in-Some-clause-parts : goal.returns-in-Some-clause-parts
returns-in-Some-clause-parts c =
    let found = c.in-Some.ensures in
    rw (c.split_at.ensures.front, c.split_at-in-Some.ensures.back)
    (split_first c.args.byte c.args.text.now c.in-Some.at found.0.high found.0.before found.1)

pub returns-in-None-clause-none : goal.returns-in-None-clause-none
returns-in-None-clause-none c = split_whole c.args.byte c.args.text.now c.in-None.ensures
