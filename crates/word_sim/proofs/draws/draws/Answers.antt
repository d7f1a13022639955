use Rattle.std.proofs.Common.{◌≡◌, ◌∙◌, map, ap, sym}
use native.Mathlib.Omega.{arith}
use Rattle.std.specs.List.{range_with_len}
use Rattle.std.proofs.lemmas.List.FromFn.{map-range_with_len_more}
use Rattle.word_sim.specs.Patterns.{draw}
use Rattle.word_sim.proofs.DrawLemmas.{after-start, draws-next}
use Rattle.word_sim.proofs.draws.draws.Goals as goal

pub loop-init : goal.loop-init
loop-init c = record {
  state = after-start c.args.seed _ c.seed_from_u64-generator.ensures;
  words = c.in_ok-words.ensures.items;
}

pub loop-preserved : goal.loop-preserved
loop-preserved c =
    let (word, state) = draws-next c.args.seed c.loop.counter _ _ _ c.loop.invariant.state c.next_word.ensures in
    record {
      state = state;
      words = c.in_ok-push.ensures.items
          ∙ (rw (c.loop.invariant.words, word) (sym (map-range_with_len_more (draw c.args.seed) 0 c.loop.counter c.loop.counter (omega arith))));
    }

pub returns : goal.returns
returns c =
    let done : c.loop.counter ≡ c.args.count = omega (arith, c.loop.auto.counter-end, c.loop-test.false) in
    c.loop.invariant.words ∙ ap (λ n. map (draw c.args.seed) (range_with_len 0 n)) done
