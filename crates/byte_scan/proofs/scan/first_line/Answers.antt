use Rattle.std.proofs.Common.{sym, ◌∙◌}
use Rattle.byte_scan.proofs.LineLemmas.{line_of-end, line_of-no_end}
use Rattle.byte_scan.proofs.scan.first_line.Goals as goal

pub returns-in-Some-clause-line : goal.returns-in-Some-clause-line
returns-in-Some-clause-line c =
    let found = c.in-Some.ensures in
    c.split_at.ensures.front ∙ sym (line_of-end c.args.bytes.now c.in-Some.len found.0.high found.0.before found.1)

pub returns-in-None-clause-line : goal.returns-in-None-clause-line
returns-in-None-clause-line c = sym (line_of-no_end c.args.bytes.now c.in-None.ensures)
