use Rattle.std.proofs.Common.{List, sym, subst, arith}
use Rattle.lits.proofs.Facts.{IsLiteral, is_literal}
use Rattle.unit_prop.proofs.OpenLemmas.{open_in-first}
use Rattle.unit_prop.specs.StepCheck.{IsOpenPart}
use Rattle.unit_prop.proofs.step_check.open_part.Goals as goal

pub returns-then-not-has : goal.returns-then-not-has
returns-then-not-has g c =
    let laws : IsLiteral g.L.PartialEq.eq g.L.Literal.opposite = is_literal g.met.L.Eq.laws g.met.L.Literal.exact g.met.L.Literal.twice in
    subst (λ (ls : List g.row.L.Denot). IsOpenPart ls c.open_from.result)
    (sym (open_in-first laws c.args.set.now c.args.clause.now c.loop-i.i c.index-clause-i.result (omega arith) c.index-clause-i.is c.loop-i.invariant))
    (rw c.split_at.ensures.back at c.open_from.ensures)
