use Rattle.std.proofs.Common.{arith}
use Rattle.lits.proofs.ClauseLemmas.{is_literal, firsts-next}
use Rattle.lits.proofs.literal_set.LiteralSet.of.Goals as goal

pub loop-lit-preserved : goal.loop-lit-preserved
loop-lit-preserved g c =
    let laws = is_literal {opposite = g.L.Literal.opposite} g.met.L.Eq.laws g.met.L.Literal.exact g.met.L.Literal.twice in
    firsts-next {opposite = g.L.Literal.opposite} laws _ _ _ _ _ (omega arith) c.lit-item.is c.loop-lit.invariant c.in_ok-add.ensures.ok
