use Rattle.std.proofs.Common.{◌≡◌, ◌∙◌, ◌+◌, ◌*◌, ℕ, ap, length, arith}
use Rattle.word_sim.specs.Patterns.{words_of}
use Rattle.word_sim.proofs.RowLemmas.{part-kept, put-part}
use Rattle.word_sim.proofs.rows.fill_input.Goals as goal

pub returns-clause-put : goal.returns-clause-put
returns-clause-put c =
    let words = words_of (length c.args.pool.now.patterns) in
    let parts = c.split_at_mut-rest in
    let place : length parts.result.0.now ≡ (c.args.input + 1) * words =
    parts.ensures.front_len ∙ ap (λ (n : ℕ). (c.args.input + 1) * n) c.words-words.ensures.words in
    put-part words (c.args.input + 1) c.words-words.result c.args.buf.now parts.result.0.now parts.result.1.now c.put_input.new.row
    parts.ensures.value place (omega (arith, c.requires.room)) c.put_input.ensures.size c.words-words.ensures.words

pub returns-clause-rest : goal.returns-clause-rest
returns-clause-rest c =
    let words = words_of (length c.args.pool.now.patterns) in
    let parts = c.split_at_mut-rest in
    let place : length parts.result.0.now ≡ (c.args.input + 1) * words =
    parts.ensures.front_len ∙ ap (λ (n : ℕ). (c.args.input + 1) * n) c.words-words.ensures.words in
    part-kept words (c.args.input + 1) c.words-words.result c.args.buf.now parts.result.0.now parts.result.1.now c.put_input.new.row
    parts.ensures.value place c.put_input.ensures.size c.words-words.ensures.words
