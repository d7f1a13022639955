use Rattle.std.proofs.Common.{List, ◌++◌, sym, ap}
use Rattle.byte_scan.specs.Scanning.{ahead}
use Rattle.tokens.specs.Words.{Part, is_whitespace}
use Rattle.tokens.proofs.Facts.{placed_words-none}
use Rattle.dimacs_text.specs.Words.{words_from}
use Rattle.dimacs_text.proofs.words.Words.next_in_line.Goals as goal

pub returns-in_err-bytes-clause-none : goal.returns-in_err-bytes-clause-none
returns-in_err-bytes-clause-none c =
    let s = c.self.inside in
    rw (c.from_residual.ensures, sym c.self.view_is)
    (placed_words-none is_whitespace s.at s.line.now c.in_err-bytes.ensures.none)

pub returns-clause-word : goal.returns-clause-word
returns-clause-word c =
    let s = c.self.inside in
    rw (sym c.self.view_is)
    (ap (λ (l : List Part). l ++ words_from s.lines.at (ahead s.lines))
    (c.in_ok-bytes.ensures.placed s.at))
