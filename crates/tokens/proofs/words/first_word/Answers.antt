use Rattle.std.proofs.Common.{◌≡◌, ◌+◌, ◌-◌, length, refl, sym, arith}
use Rattle.tokens.proofs.WordLemmas.{first-none, first-word, first-placed}
use Rattle.tokens.proofs.words.first_word.Goals as goal

pub returns-in_err-first_letter-clause-none : goal.returns-in_err-first_letter-clause-none
returns-in_err-first_letter-clause-none g c =
    rw c.from_residual.ensures
    (first-none g.B.Blanks.blank c.args.line.now (sym c.in_err-first_letter.ensures))

pub returns-clause-word : goal.returns-clause-word
returns-clause-word g c =
    let i = c.in_ok-first_letter.field-0 in
    let e = c.unwrap_or-end.result in
    rw (c.split_at-2.ensures.front, c.split_at-2.ensures.back, c.split_at.ensures.back)
    (first-word g.B.Blanks.blank c.args.line.now i e (sym c.in_ok-first_letter.ensures)
    (rw (c.unwrap_or-end.ensures, c.first_blank.ensures, c.split_at.ensures.back) refl))

pub returns-clause-placed : goal.returns-clause-placed
returns-clause-placed g c at =
    let line = c.args.line.now in
    let i = c.in_ok-first_letter.field-0 in
    let e = c.unwrap_or-end.result in
    let word = c.split_at-2.result.0.now in
    let rest = c.split_at-2.result.1.now in
    let place : length line - length word - length rest ≡ i = omega arith in
    let next : at + (length line - length rest) ≡ at + i + length word = omega arith in
    rw (place, next, c.split_at-2.ensures.front, c.split_at-2.ensures.back, c.split_at.ensures.back)
    (first-placed g.B.Blanks.blank at line i e (sym c.in_ok-first_letter.ensures)
    (rw (c.unwrap_or-end.ensures, c.first_blank.ensures, c.split_at.ensures.back) refl))
