use Rattle.std.proofs.Common.{◌∙◌, sym}
use Rattle.book_file.proofs.LineLemmas.{first_bad}
use Rattle.book_file.proofs.reading.behind_header.Goals as goal

pub returns-then-not-branch-clause-err : goal.returns-then-not-branch-clause-err
returns-then-not-branch-clause-err c =
    first_bad c.args.bytes.now c.in-Some.line.now c.in-Some.behind.now c.in-Some.ensures.parts
    (sym c.in_ok-is_header.ensures ∙ c.if-not-branch.true)
