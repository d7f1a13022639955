use Rattle.std.proofs.Common.{List, length, refl, ap, arith}
use Rattle.lits.specs.declared.literal.Lit.{Lit}
use Rattle.book_file.proofs.FirstsLemmas.{clause-whole, whole-clause, shorter-no_clause}
use Rattle.book_file.proofs.clause.clause_of_few.Goals as goal

pub returns-then-lits : goal.returns-then-lits
returns-then-lits c =
    let len = ap (λ (l : List Lit). length l) c.lits.ensures.lits in
    rw (shorter-no_clause c.args.lits.now c.in-Ok.clause c.in-Ok.ensures.kept (omega (arith, c.if-lits.true, len))) refl

pub returns : goal.returns
returns c =
    let len = ap (λ (l : List Lit). length l) c.lits.ensures.lits in
    let same = clause-whole c.args.lits.now c.in-Ok.clause c.in-Ok.ensures.kept (omega (arith, c.if-lits.false, len)) in
    rw (whole-clause c.args.lits.now c.in-Ok.clause same c.lits.ensures.clause) (rw same refl)
