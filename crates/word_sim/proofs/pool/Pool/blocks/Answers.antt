use Rattle.std.proofs.Common.{◌≡◌, ◌+◌, ◌*◌, ◌≤◌, ℕ, length, sym, subst}
use native.Mathlib.Omega.{arith}
use Rattle.word_sim.specs.Patterns.{Patterns, words_of}
use Rattle.word_sim.specs.Storage.{AreBlocks}
use Rattle.word_sim.proofs.PartLemmas.{blocks-next}
use Rattle.word_sim.proofs.PoolLemmas.{patterns-count}
use Rattle.word_sim.proofs.pool.Pool.blocks.Goals as goal

pub overflow_add-from : goal.overflow_add-from
overflow_add-from c =
    let i = c.self.inside in
    let count = patterns-count i.inputs i.drawn_words i.drawn.items i.added_count i.added.items in
    let room : c.args.from + c.args.count ≤ words_of (64 * i.drawn_words + i.added_count) =
    subst (λ (n : ℕ). c.args.from + c.args.count ≤ words_of n) count
    (subst (λ (p : Patterns). c.args.from + c.args.count ≤ words_of (length p.patterns)) (sym c.self.view_is) c.requires) in
    omega (arith, room, c.self.invariant.3, c.self.invariant.4, c.loop-place-test.true)

pub loop-place-preserved : goal.loop-place-preserved
loop-place-preserved c =
    blocks-next c.args.self.now c.args.from c.loop-place.place c.loop-place.words.items _ c.loop-place.invariant c.in_ok-put_block.ensures

pub returns : goal.returns
returns c =
    let end : c.loop-place.place ≡ c.args.count = omega (arith, c.loop-place-test.false) in
    subst (λ (n : ℕ). AreBlocks c.args.self.now c.args.from n c.loop-place.words.items) end c.loop-place.invariant
