use Rattle.std.proofs.Common.{◌≡◌, ◌<◌, ◌∙◌, ◌+◌, ◌*◌, ◌^◌, ◌%◌, ℕ, ap, length, refl}
use native.Mathlib.Omega.{arith}
use Rattle.std.specs.Int.RustNames.{bit_or}
use Rattle.std.proofs.lemmas.Grind.{get_or_default_zero}
use Rattle.std.proofs.lemmas.List.{length-set, get_or-set_same, get_or-set_other}
use Rattle.word_sim.proofs.PoolLemmas.{setting-next}
use Rattle.word_sim.proofs.pool.set_bits.Goals.{then-truth, else-truth}
use Rattle.word_sim.proofs.pool.set_bits.Goals as goal

pub loop-i-init : goal.loop-i-init
loop-i-init c = record { count = refl; before = λ k b. refl; set = λ i below. absurd (omega arith); behind = λ i b. refl }

pub index_mut-requires : goal.index_mut-requires
index_mut-requires c = omega (arith, c.requires.room, c.loop-i.invariant.count, c.loop-i-test.true, c.loop-i.words.ok.0)

pub loop-i-preserved : goal.loop-i-preserved
loop-i-preserved c = elim c.if-truth.branch [
  | then-truth w ↦
      let inside : c.args.from + c.loop-i.i < length c.loop-i.words.items = omega (arith, c.requires.room, c.loop-i.invariant.count, c.loop-i-test.true) in
      rw w.words-is (setting-next c.args.from c.args.input.now c.args.place c.args.words.now.items c.loop-i.i c.loop-i.words.items _
      c.loop-i.invariant (length-set _ _ _) (λ k other. get_or-set_other _ _ k _ 0 other)
      (get_or-set_same _ _ _ 0 inside ∙ rw w.if-truth.true (ap (λ (word : ℕ). bit_or word (1 * 2 ^ c.args.place % 2 ^ 64)) (w.index_mut.ensures.value ∙ get_or_default_zero c.loop-i.words.items _ _ inside))))
  | else-truth w ↦ rw w.words-is (setting-next c.args.from c.args.input.now c.args.place c.args.words.now.items c.loop-i.i
      c.loop-i.words.items c.loop-i.words.items c.loop-i.invariant refl (λ k other. refl) (rw w.if-truth.false refl))
]

pub returns : goal.returns
returns c =
    let all : c.loop-i.i ≡ length c.args.input.now = omega (arith, c.loop-i.auto.i-end, c.loop-i-test.false) in
    record {
      count = c.loop-i.invariant.count;
      before = c.loop-i.invariant.before;
      set = λ i below. c.loop-i.invariant.set i (omega (arith, all));
    }
