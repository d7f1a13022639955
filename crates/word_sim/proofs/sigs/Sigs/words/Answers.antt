use Rattle.std.proofs.Common.{◌≡◌, ◌∙◌, ◌*◌, [], List, ℕ, ap, sym, length, arith}
use Rattle.std.specs.List.{slice_index_or}
use Rattle.word_sim.specs.Patterns.{words_of}
use Rattle.word_sim.specs.Rows.{Signatures, row_at}
use Rattle.word_sim.proofs.RowLemmas.{rows-count, rows-at}
use Rattle.word_sim.proofs.sigs.Sigs.words.Goals as goal

pub returns-clause-size : goal.returns-clause-size
returns-clause-size c =
    let i = c.self.inside in
    let count : length c.args.self.now.rows ≡ i.positions = ap (λ (s : Signatures). length s.rows) (sym c.self.view_is) ∙ rows-count i.patterns i.positions i.words.items in
    ap (λ (xs : List ℕ). length xs) c.as_slice.ensures.value
    ∙ c.self.invariant
    ∙ ap (λ (n : ℕ). n * words_of i.patterns) (sym count)
    ∙ ap (λ (s : Signatures). length c.args.self.now.rows * words_of s.patterns) c.self.view_is

pub returns-clause-rows : goal.returns-clause-rows
returns-clause-rows c = λ p below.
    let i = c.self.inside in
    let count : length c.args.self.now.rows ≡ i.positions = ap (λ (s : Signatures). length s.rows) (sym c.self.view_is) ∙ rows-count i.patterns i.positions i.words.items in
    ap (λ (s : Signatures). row_at (words_of s.patterns) p c.as_slice.result.now) (sym c.self.view_is)
    ∙ ap (λ (xs : List ℕ). row_at (words_of i.patterns) p xs) c.as_slice.ensures.value
    ∙ sym (rows-at i.patterns i.positions i.words.items p (omega (arith, count, below)))
    ∙ ap (λ (s : Signatures). slice_index_or s.rows p []) c.self.view_is
