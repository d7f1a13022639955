use Rattle.std.proofs.Common.{◌≡◌, ◌∙◌, ◌+◌, ◌*◌, ap, length, sym}
use native.Mathlib.Omega.{arith}
use Rattle.word_sim.specs.Patterns.{Patterns, words_of}
use Rattle.word_sim.proofs.PoolLemmas.{patterns-count}
use Rattle.word_sim.proofs.pool.Pool.words.Goals as goal

pub returns-clause-words : goal.returns-clause-words
returns-clause-words c =
    let i = c.self.inside in
    let count = patterns-count i.inputs i.drawn_words i.drawn.items i.added_count i.added.items in
    let whole : i.drawn_words + c.div_ceil.result ≡ words_of (64 * i.drawn_words + i.added_count) = omega (arith, c.div_ceil.ensures) in
    whole ∙ ap words_of (sym count ∙ ap (λ (p : Patterns). length p.patterns) c.self.view_is)
