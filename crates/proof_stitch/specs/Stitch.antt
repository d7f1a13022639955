-- The proof that a book refutes the miter, where it shows of every output that both circuits give it one value.
use Rattle.std.specs.Prelude.{ℕ, ◌+◌, Bool, List, [], ◌∷◌, ◌++◌, length, map}
use Rattle.std.specs.List.{slice_index_or}
use Rattle.std.specs.Option.{option_map_or}
use Rattle.netlist.specs.Net.{AigPair}
use Rattle.netlist.specs.Miter.{miter_of}
use Rattle.lrat_text.specs.declared.step.LratStep.{LratStep}
use Rattle.lrat_text.specs.declared.step.LratStep.TheVariants.{Add}
use Rattle.lrat_text.specs.Reading.{SpellsLrat}
use Rattle.lrat_text.specs.Writing.{numbered}
use Rattle.lrat_text.specs.Derivation.{Refutes}
use Rattle.lemma_book.specs.declared.entry.Entry.{Entry}
use Rattle.lemma_book.specs.declared.entry.Subject.TheVariants.{Output}
use Rattle.lemma_book.specs.Entry.{place_on, outputs_of}
use Rattle.proof_stitch.specs.Trimmed.{HaveNoGaps, is_asked, trimmed}
use Rattle.proof_stitch.specs.Written.{shown_ids, book_additions}
use Rattle.proof_stitch.specs.Text.{proof_text}

-- the id of the clause that the output's entry shows, if `shown` has these ids by entry
abbrev pub unit_in : List ℕ → List Entry → ℕ → ℕ
unit_in shown entries j = option_map_or (λ place. slice_index_or shown place 0) (place_on entries (Output j)) 0

abbrev pub unit_id : AigPair → List Entry → ℕ → ℕ
unit_id net entries j = unit_in (shown_ids net entries) entries j

-- those of the outputs in order
abbrev pub unit_ids : AigPair → List Entry → List ℕ
unit_ids net entries = map (unit_id net entries) (outputs_of net)

-- the addition of the empty clause under that id: its hints are the units of the outputs, and then the miter's last
-- clause
abbrev pub empty_addition : AigPair → List Entry → ℕ → LratStep
empty_addition net entries id =
    Add id [] (unit_ids net entries ++ length (miter_of net) ∷ [])

-- its line behind all steps of the Merge and Out entries
abbrev pub empty_line : AigPair → List Entry → List LratStep
empty_line net entries =
    empty_addition net entries (length (miter_of net) + length (book_additions net entries) + 1) ∷ []

-- What is asked for: the empty clause, with what it cites. The unit of each output is, where each has an Out entry.
abbrev pub is_for_empty : AigPair → List Entry → ℕ → Bool
is_for_empty net entries = is_asked [] (empty_line net entries)

-- The proof: of the steps of the Merge and Out entries in the order of the book, and the empty clause behind them, what
-- the empty clause rests on.
unfoldable pub refutation_of : AigPair → List Entry → List LratStep
refutation_of net entries =
    trimmed (length (miter_of net)) (is_for_empty net entries) (book_additions net entries ++ empty_line net entries)

-- the lines refute the miter, have ids without gaps, and their text spells them
pub record IsRefutation (net : AigPair) (lines : List LratStep) : Type 0 where
  pub spells : SpellsLrat (length (miter_of net)) (proof_text net lines) (numbered 1 lines)
  pub refutes : Refutes (miter_of net) (numbered 1 lines)
  pub ids : HaveNoGaps (length (miter_of net)) lines
