use Rattle.std.proofs.Common.{arith}
use Rattle.std.proofs.lemmas.Result.{err_from_is_err_and}
use Rattle.lits.proofs.Facts.{IsLiteral, is_literal}
use Rattle.unit_prop.proofs.AssumeLemmas.{assumed-next, assumed-pair, assumed-consistent, if_bad-map}
use Rattle.unit_prop.proofs.step_check.assume_all.Goals as goal

pub loop-lit-preserved : goal.loop-lit-preserved
loop-lit-preserved g c =
    let laws : IsLiteral g.L.PartialEq.eq g.L.Literal.opposite = is_literal g.met.L.Eq.laws g.met.L.Literal.exact g.met.L.Literal.twice in
    record {
      assumed = assumed-next laws _ _ _ _ _ (omega arith) c.lit-item.is c.loop-lit.invariant.assumed c.in_ok-assume.ensures.ok;
      consistent = assumed-consistent laws g.met.L.Literal.differs _ _ _ c.loop-lit.invariant.consistent c.in_ok-assume.ensures.ok;
    }

pub returns-in_err-assume-clause-tautology : goal.returns-in_err-assume-clause-tautology
returns-in_err-assume-clause-tautology g c =
    let laws : IsLiteral g.L.PartialEq.eq g.L.Literal.opposite = is_literal g.met.L.Eq.laws g.met.L.Literal.exact g.met.L.Literal.twice in
    let p = err_from_is_err_and c.from_residual.result c.from_residual.ensures.1 in
    rw (p.1, p.2)
    (if_bad-map _ (λ w h. assumed-pair laws _ _ _ _ (omega arith) c.lit-item.is c.loop-lit.invariant.assumed h) c.in_err-assume.ensures.pair)
