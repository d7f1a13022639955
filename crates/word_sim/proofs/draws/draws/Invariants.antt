use Rattle.std.proofs.Common.{◌≡◌, map}
use Rattle.std.specs.List.{range_with_len}
use Rattle.word_sim.specs.Patterns.{draw, after, generator}
use Rattle.word_sim.proofs.draws.draws.Given as goal

abbrev pub invariant-loop : goal.invariant-loop
invariant-loop l = record {
  state : l.generator ≡ after (generator l.fn.seed) l.counter;
  words : l.words.items ≡ map (draw l.fn.seed) (range_with_len 0 l.counter);
}
