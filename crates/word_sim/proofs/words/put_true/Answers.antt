use Rattle.std.proofs.Common.{◌≡◌, ◌<◌, ◌∙◌, ◌+◌, ◌*◌, ap, refl, length, Bool, ◌&&◌, nat_lt}
use native.Mathlib.Omega.{arith}
use Rattle.word_sim.specs.Patterns.{is_set}
use Rattle.word_sim.proofs.BitLemmas.{written-next, all-set}
use Rattle.word_sim.proofs.words.put_true.Goals as goal

pub loop-word-init : goal.loop-word-init
loop-word-init c = record { size = refl; written = λ k below. absurd (omega arith) }

pub loop-word-preserved : goal.loop-word-preserved
loop-word-preserved c = written-next _ c.args.words.now c.loop-word.word-index c.loop-word.words _ c.loop-word.invariant (omega (arith, c.loop-word.invariant.size, c.loop-word-test.true)) refl

pub returns : goal.returns
returns c =
    let i = c.loop-word.invariant in
    let all : c.loop-word.word-index ≡ length c.args.words.now = omega (arith, c.loop-word.auto.word-index-end, c.loop-word-test.false) in
    record {
      size = c.clear_tail.ensures.size ∙ i.size ∙ c.requires;
      bits = λ w b inside within.
          let there : w < length c.loop-word.words = omega (arith, c.clear_tail.ensures.size) in
          c.clear_tail.ensures.bits w b there within
          ∙ ap (λ (t : Bool). nat_lt (64 * w + b) c.args.count && t) (ap (λ k. is_set k b) (i.written w (omega (arith, i.size, all))) ∙ all-set b within);
    }
