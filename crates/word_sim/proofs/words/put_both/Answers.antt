use Rattle.std.proofs.Common.{refl}
use native.Mathlib.Omega.{arith}
use Rattle.word_sim.proofs.BitLemmas.{written-next}
use Rattle.word_sim.proofs.words.put_both.Goals as goal

pub loop-w-init : goal.loop-w-init
loop-w-init c = record { size = refl; written = λ k below. absurd (omega arith) }

pub loop-w-preserved : goal.loop-w-preserved
loop-w-preserved c = written-next _ c.args.words.now c.loop-w.w c.loop-w.words _ c.loop-w.invariant (omega (arith, c.loop-w.invariant.size, c.loop-w-test.true)) refl

pub returns-clause-words : goal.returns-clause-words
returns-clause-words c = λ w below. c.loop-w.invariant.written w (omega (arith, below, c.loop-w-test.false))
