-- One word more.
use Rattle.std.proofs.Common.{arith}
use Rattle.strash_pass.proofs.ShapeLemmas.{map-all, map-next}
use Rattle.strash_pass.proofs.shape.words_in.Goals as goal

pub loop-clause-preserved : goal.loop-clause-preserved
loop-clause-preserved c =
    map-next (λ x. x.word) c.args.coded.now c.loop-clause.clause-index _ c.loop-clause.words.items _
    (omega (arith, c.loop-clause-test.true)) c.loop-clause.invariant c.in_ok-push.ensures.items

pub returns : goal.returns
returns c =
    map-all (λ x. x.word) c.args.coded.now c.loop-clause.clause-index c.loop-clause.words.items
    (omega (arith, c.loop-clause-test.false)) c.loop-clause.invariant
