use Rattle.std.proofs.Common.{sym}
use Rattle.tokens.proofs.Facts.{reads_line}
use Rattle.lrat_text.proofs.LoopLemmas.{next-line}
use Rattle.lrat_text.proofs.lines.Lines.next_line.Goals as goal

pub returns-clause-line : goal.returns-clause-line
returns-clause-line c =
    let s = c.self.inside in
    let r = reads_line s.scan c.line.new.self c.in_ok-line.line.now
    c.in_ok-line.ensures.line c.in_ok-line.ensures.moved in
    rw (sym c.self.view_is) (next-line s.scan c.line.new.self c.in_ok-line.line.now s.behind s.last r)
