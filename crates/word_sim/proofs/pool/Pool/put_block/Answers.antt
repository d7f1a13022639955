use Rattle.std.proofs.Common.{◌≡◌, ℕ, subst}
use native.Mathlib.Omega.{arith}
use Rattle.word_sim.specs.Storage.{IsBlock}
use Rattle.word_sim.proofs.PartLemmas.{block-none, block-next}
use Rattle.word_sim.proofs.pool.Pool.put_block.Goals as goal

pub loop-input-init : goal.loop-input-init
loop-input-init c = block-none c.args.self.now c.args.word c.args.words.now.items

pub loop-input-preserved : goal.loop-input-preserved
loop-input-preserved c =
    block-next c.args.self.now c.args.word c.loop-input.input c.args.words.now.items c.loop-input.words.items _ _ c.loop-input.invariant
    c.in_ok-push.ensures.items c.word.ensures

pub returns : goal.returns
returns c =
    let end : c.loop-input.input ≡ c.args.self.now.inputs = omega (arith, c.inputs-input-end.ensures, c.loop-input-test.false) in
    subst (λ (n : ℕ). IsBlock c.args.self.now c.args.word n c.args.words.now.items c.loop-input.words.items) end c.loop-input.invariant
