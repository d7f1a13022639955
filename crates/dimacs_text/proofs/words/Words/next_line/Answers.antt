use Rattle.std.proofs.Common.{List, ℕ, length, sym, ap, arith}
use Rattle.tokens.proofs.Facts.{reads_line}
use Rattle.dimacs_text.proofs.LineLemmas.{words_from-line}
use Rattle.dimacs_text.proofs.words.Words.next_line.Goals as goal

pub invariant_of-self-2 : goal.invariant_of-self-2
invariant_of-self-2 c =
    let s = c.self.inside in
    let r = reads_line s.lines c.line.new.self c.in-Some.line.now
    c.in-Some.ensures.line c.line.ensures.moved in
    let len = ap (λ (t : List ℕ). length t) r.whole in (
      omega (arith, r.room, c.without_comment-self-inside.ensures.within, c.at-at.ensures.at),
      omega
          (arith, r.within, len),
      omega (arith, len),
    )

pub returns-clause-same : goal.returns-clause-same
returns-clause-same c =
    let s = c.self.inside in
    let r = reads_line s.lines c.line.new.self c.in-Some.line.now
    c.in-Some.ensures.line c.line.ensures.moved in
    let none = rw (sym c.self.view_is) at c.requires in
    rw (sym c.self.view_is, none, c.at-at.ensures.at, c.without_comment-self-inside.ensures.line)
    (sym (words_from-line s.lines c.line.new.self c.in-Some.line.now r))

pub returns-clause-moved : goal.returns-clause-moved
returns-clause-moved c =
    let s = c.self.inside in
    let r = reads_line s.lines c.line.new.self c.in-Some.line.now
    c.in-Some.ensures.line c.line.ensures.moved in
    let len = ap (λ (t : List ℕ). length t) r.whole in
    rw (sym c.self.view_is) (omega (arith, r.further, r.within, len))
