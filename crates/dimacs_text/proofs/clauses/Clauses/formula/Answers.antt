use Rattle.std.proofs.Common.{◌≡◌, length, sym, ◌∙◌, arith}
use Rattle.std.proofs.lemmas.Bool.{eqb-true, eqb-false}
use Rattle.dimacs_text.proofs.ClauseLemmas.{formula-truncated, formula-counted, formula-read}
use Rattle.dimacs_text.proofs.clauses.Clauses.formula.Goals as goal

pub returns-then-not-is_empty : goal.returns-then-not-is_empty
returns-then-not-is_empty c es r =
    let s = c.args.self in
    let some = eqb-false _ _ (sym c.is_empty.ensures ∙ c.if-not-is_empty.true) in
    formula-truncated c.args.header c.args.size es s.ended.items s.«open».items
    (λ e. some (omega (arith, s.«open».ok.0))) r

pub returns-then-count-from : goal.returns-then-count-from
returns-then-count-from c es r =
    let s = c.args.self in
    let none = eqb-true _ _ (sym c.is_empty.ensures ∙ c.if-not-is_empty.false) in
    let count : c.len-count.result ≡ length s.ended.items =
    omega (arith, c.len-count.ensures, s.ended.ok.0) in
    rw (c.from-then-count-from.ensures, count)
    (formula-counted c.args.header c.args.size es s.ended.items s.«open».items
    (omega (arith, s.«open».ok.0)) (λ e. c.if-count-from.true (omega (arith, c.from.ensures))) r)

pub returns : goal.returns
returns c es r =
    let s = c.args.self in
    let none = eqb-true _ _ (sym c.is_empty.ensures ∙ c.if-not-is_empty.false) in
    let count : c.len-count.result ≡ length s.ended.items =
    omega (arith, c.len-count.ensures, s.ended.ok.0) in
    rw c.of.ensures
    (formula-read c.args.header c.args.size es s.ended.items s.«open».items
    (omega (arith, s.«open».ok.0)) (omega (arith, count, c.if-count-from.false, c.from.ensures)) r)
