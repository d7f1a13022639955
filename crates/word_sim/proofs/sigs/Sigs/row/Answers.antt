use Rattle.std.proofs.Common.{◌≡◌, ◌∙◌, ◌+◌, ◌*◌, ◌≤◌, [], List, ℕ, ap, sym, length, arith}
use Rattle.std.specs.List.{slice_index_or}
use Rattle.word_sim.specs.Patterns.{words_of}
use Rattle.word_sim.specs.Rows.{Signatures, row_at}
use Rattle.word_sim.proofs.PoolLemmas.{times-mono}
use Rattle.word_sim.proofs.RowLemmas.{rows-count, rows-at, row-size}
use Rattle.word_sim.proofs.sigs.Sigs.row.Goals as goal

pub row-requires : goal.row-requires
row-requires c =
    let i = c.self.inside in
    let words : c.div_ceil.result ≡ words_of i.patterns = omega (arith, c.div_ceil.ensures) in
    let same : (c.args.position + 1) * c.div_ceil.result ≡ (c.args.position + 1) * words_of i.patterns = ap (λ (n : ℕ). (c.args.position + 1) * n) words in
    let count : length c.args.self.now.rows ≡ i.positions = ap (λ (s : Signatures). length s.rows) (sym c.self.view_is) ∙ rows-count i.patterns i.positions i.words.items in
    omega (arith, same, c.self.invariant, c.as_slice.ensures.len, times-mono (c.args.position + 1) i.positions (words_of i.patterns) (omega (arith, count, c.requires)))

pub returns-clause-row : goal.returns-clause-row
returns-clause-row c =
    let i = c.self.inside in
    let words : c.div_ceil.result ≡ words_of i.patterns = omega (arith, c.div_ceil.ensures) in
    let count : length c.args.self.now.rows ≡ i.positions = ap (λ (s : Signatures). length s.rows) (sym c.self.view_is) ∙ rows-count i.patterns i.positions i.words.items in
    c.row.ensures
    ∙ ap (λ (n : ℕ). row_at n c.args.position c.as_slice.result.now) words
    ∙ ap (λ (xs : List ℕ). row_at (words_of i.patterns) c.args.position xs) c.as_slice.ensures.value
    ∙ sym (rows-at i.patterns i.positions i.words.items c.args.position (omega (arith, count, c.requires)))
    ∙ ap (λ (s : Signatures). slice_index_or s.rows c.args.position []) c.self.view_is

pub returns-clause-words : goal.returns-clause-words
returns-clause-words c =
    let i = c.self.inside in
    let words : c.div_ceil.result ≡ words_of i.patterns = omega (arith, c.div_ceil.ensures) in
    let same : (c.args.position + 1) * c.div_ceil.result ≡ (c.args.position + 1) * words_of i.patterns = ap (λ (n : ℕ). (c.args.position + 1) * n) words in
    let count : length c.args.self.now.rows ≡ i.positions = ap (λ (s : Signatures). length s.rows) (sym c.self.view_is) ∙ rows-count i.patterns i.positions i.words.items in
    let room : (c.args.position + 1) * c.div_ceil.result ≤ length c.as_slice.result.now =
    omega (arith, same, c.self.invariant, c.as_slice.ensures.len, times-mono (c.args.position + 1) i.positions (words_of i.patterns) (omega (arith, count, c.requires))) in
    ap (λ (xs : List ℕ). length xs) c.row.ensures ∙ row-size c.div_ceil.result c.args.position c.as_slice.result.now room
    ∙ words ∙ ap (λ (s : Signatures). words_of s.patterns) c.self.view_is
