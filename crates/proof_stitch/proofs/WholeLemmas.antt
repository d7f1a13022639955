-- What is written at the end of a refutation.
use Rattle.std.proofs.Common.{◌≡◌, ℕ, ◌+◌, ◌<◌, Bool, true, ◌||◌, [], ◌∷◌, ◌++◌, List, length, map, refl, ap, ◌∙◌, arith}
use Rattle.std.specs.Prelude.{filter, replicate}
use Rattle.std.proofs.lemmas.Bool.{or_left, or_right}
use Rattle.std.proofs.lemmas.List.{length-replicate}
use Rattle.netlist.specs.Net.{AigPair}
use Rattle.netlist.specs.Miter.{miter_of}
use Rattle.lemma_book.specs.declared.entry.Entry.{Entry}
use Rattle.lemma_book.specs.Entry.{has_out}
use Rattle.lrat_text.specs.declared.step.LratStep.{LratStep}
use Rattle.lrat_text.specs.declared.step.LratStep.TheVariants.{Add}
use Rattle.lrat_text.specs.Writing.{line_text}
use Rattle.proof_stitch.specs.Progress.{InRow, IsAtLine, counted, text_left}
use Rattle.proof_stitch.specs.Stitch.{unit_ids, empty_addition, empty_line, is_for_empty, refutation_of}
use Rattle.proof_stitch.specs.Table.{AreMarked, HasMarks, KeepsShape, always, named_in}
use Rattle.proof_stitch.specs.Text.{proof_text}
use Rattle.proof_stitch.specs.Trimmed.{cites, id_in, is_addition, is_cited, reached}
use Rattle.proof_stitch.specs.Written.{book_additions}
use Rattle.proof_stitch.specs.declared.by_step.ByStep.{ByStep}
use Rattle.proof_stitch.specs.declared.proof_text.ProofText.{ProofText}
use Rattle.proof_stitch.proofs.BookLemmas.{IsSoundBook}
use Rattle.proof_stitch.proofs.ProgressLemmas.{at-start, end-count, end-lines, end-text, text-start}
use Rattle.proof_stitch.proofs.ReachLemmas.{asked-marks, number-zero}
use Rattle.proof_stitch.proofs.RefutationLemmas.{all-few, all-grow, empty-asked, total-few}
use Rattle.proof_stitch.proofs.RowLemmas.{grows-row}
use Rattle.proof_stitch.proofs.TrimmedLemmas.{trimmed-additions, trimmed-short}

module _ (net : AigPair) (out : ℕ) (entries : List Entry) (book : IsSoundBook net out entries)
    (outs : (j : ℕ) → j < length net.a.outputs → has_out entries j ≡ true) where
  abbrev m : ℕ
  m = length (miter_of net)

  abbrev all : List LratStep
  all = book_additions net entries ++ empty_line net entries

  abbrev asked : ℕ → Bool
  asked = is_for_empty net entries

  row : InRow m all
  row = grows-row (miter_of net) all (all-grow net out entries book outs)

  -- the marks of what the empty clause cites
  pub refutation-marks : (zero t : ByStep) (hints : List ℕ) → hints ≡ unit_ids net entries ++ m ∷ []
      → zero.numbers.items ≡ replicate (length (book_additions net entries)) 0 → zero.clauses ≡ m → KeepsShape zero t
      → AreMarked hints always zero t → HasMarks asked (reached asked (empty_line net entries)) t
  refutation-marks zero t hints is zeros clauses shape marks =
      asked-marks net entries t zero hints is (number-zero zero (length (book_additions net entries)) zeros) shape clauses
      (ap length zeros ∙ length-replicate {A = ℕ} (length (book_additions net entries)) 0) marks

  pub refutation-start : (names : ByStep) (proof : ProofText) → proof.last ≡ m → proof.lines ≡ 0
      → IsAtLine m asked all all (m + 1) names proof
  refutation-start names proof last lines = at-start m asked all names proof row last lines

  -- the empty clause behind all
  module _ (names : ByStep) (proof : ProofText) (clauses : names.clauses ≡ m)
      (at : IsAtLine m asked all (empty_line net entries) (m + length (book_additions net entries) + 1) names proof) where
    abbrev hints : List ℕ
    hints = unit_ids net entries ++ m ∷ []

    abbrev line : LratStep
    line = empty_addition net entries (m + length (book_additions net entries) + 1)

    wanted : (asked (id_in line) || is_cited (reached asked []) (id_in line)) ≡ true
    wanted = or_left (asked (id_in line)) (is_cited (reached asked []) (id_in line)) (empty-asked net out entries book outs)

    asks : (n : ℕ) → cites line n ≡ true → asked n ≡ true
    asks n h = or_right _ (is_cited (empty_line net entries) n) (or_left (cites line n) (is_cited [] n) h)

    pub refutation-end : text_left m asked all (empty_line net entries) ≡ line_text proof.last (Add (proof.last + 1) [] (map (named_in names) hints))
    refutation-end = end-text line at wanted clauses hints refl refl asks

    pub refutation-lines : (lines : ℕ) → counted lines ≡ counted (proof.lines + 1) → lines ≡ length (refutation_of net entries)
    unfolding refutation_of
    refutation-lines lines is =
        omega (
          arith,
          is,
          end-lines line at wanted clauses hints refl refl asks,
          trimmed-short m asked all,
          all-few net out entries book outs,
          total-few net out entries book,
        )

    pub refutation-count : (last : ℕ) → last ≡ proof.last + 1 → last ≡ m + length (filter is_addition (refutation_of net entries))
    unfolding refutation_of
    refutation-count last is =
        omega (
          arith,
          is,
          at.last_is,
          trimmed-additions m asked all row,
          end-count line at wanted clauses hints refl refl asks,
        )

-- before the first line the whole proof is left
pub refutation-whole : (net : AigPair) (entries : List Entry)
    → text_left (length (miter_of net)) (is_for_empty net entries) (book_additions net entries ++ empty_line net entries)
    (book_additions net entries ++ empty_line net entries)
    ≡ proof_text net (refutation_of net entries)
unfolding refutation_of
refutation-whole net entries = text-start (length (miter_of net)) (is_for_empty net entries) (book_additions net entries ++ empty_line net entries)
