-- What a book derives from the miter where queries of some outputs spent their budget: the logs of those queries, and before
-- them what they, and the outputs that are shown to be equal, rest on of the steps of its Merge and Out entries.
use Rattle.std.specs.Prelude.{◌≡◌, ℕ, ◌+◌, ◌-◌, ◌&&◌, nat_le, Bool, List, [], ◌∷◌, ◌++◌, length, map, filter, All, if◌then◌else◌}
use Rattle.std.specs.Option.{option_map_or}
use Rattle.lits.specs.Dimacs.{DimacsLiteral}
use Rattle.lits.specs.declared.step.Step.{Step}
use Rattle.netlist.specs.Net.{AigPair}
use Rattle.netlist.specs.Miter.{miter_of, numbered as numbered_in}
use Rattle.lrat_text.specs.declared.step.LratStep.{LratStep}
use Rattle.lrat_text.specs.declared.step.LratStep.TheVariants.{Add, Del}
use Rattle.lrat_text.specs.Reading.{SpellsLrat}
use Rattle.lrat_text.specs.Writing.{numbered}
use Rattle.lrat_text.specs.Derivation.{Derives}
use Rattle.lemma_book.specs.declared.entry.Entry.{Entry}
use Rattle.lemma_book.specs.Entry.{about, has_out, has_spent, log_of, outputs_of}
use Rattle.proof_stitch.specs.Steps.{additions}
use Rattle.proof_stitch.specs.Stitch.{unit_id}
use Rattle.proof_stitch.specs.Text.{proof_text}
use Rattle.proof_stitch.specs.Trimmed.{id_in, is_asked, reached, trimmed, HaveNoGaps}
use Rattle.proof_stitch.specs.Written.{shown_ids, book_additions}
use Rattle.proof_stitch.specs.declared.logs.Span.{Span}

-- the log of the output's query, if it spent its budget
abbrev pub spent_log : List Entry → ℕ → List Step
spent_log entries j = option_map_or log_of (about entries j) []

-- the lines of these logs, behind all steps of the Merge and Out entries
abbrev pub log_lines : AigPair → List Entry → List LratStep
log_lines net entries =
    additions net (shown_ids net entries) (length (miter_of net) + length (book_additions net entries) + 1)
    (map (spent_log entries) (outputs_of net))

-- the steps of the Merge and Out entries in the order of the book, then the logs in the order of the outputs
abbrev pub all_lines : AigPair → List Entry → List LratStep
all_lines net entries = book_additions net entries ++ log_lines net entries

-- the units of the outputs that Out entries show to be equal
abbrev pub shown_units : AigPair → List Entry → List ℕ
shown_units net entries = map (unit_id net entries) (filter (has_out entries) (outputs_of net))

-- What is asked for: the logs, with what they cite, and these units.
abbrev pub is_for_logs : AigPair → List Entry → ℕ → Bool
is_for_logs net entries = is_asked (shown_units net entries) (log_lines net entries)

-- those of all lines that are reached
abbrev pub written_lines : AigPair → List Entry → List LratStep
written_lines net entries = reached (is_for_logs net entries) (all_lines net entries)

-- the derivation: what the logs and these units rest on of the steps of the Merge and Out entries, and the logs
unfoldable pub derivation_of : AigPair → List Entry → List LratStep
derivation_of net entries = trimmed (length (miter_of net)) (is_for_logs net entries) (all_lines net entries)

-- the lines derive from the miter, have ids without gaps, and their text spells them
pub record IsDerivation (net : AigPair) (lines : List LratStep) : Type 0 where
  pub spells : SpellsLrat (length (miter_of net)) (proof_text net lines) (numbered 1 lines)
  pub derives : Derives (miter_of net) (numbered 1 lines)
  pub ids : HaveNoGaps (length (miter_of net)) lines

-- the lines with the ids from p to q
abbrev pub with_ids : ℕ → ℕ → List LratStep → List LratStep
with_ids p q lines = filter (λ l. nat_le p (id_in l) && nat_le (id_in l) q) lines

-- the clause that a line adds
abbrev pub clause_in : LratStep → List DimacsLiteral
clause_in (Add id clause hints) = clause
clause_in (Del ids) = []

-- the clauses of a log's steps, by the numbers of the miter
abbrev pub log_clauses : AigPair → List Step → List (List DimacsLiteral)
log_clauses net log = map (λ s. map (numbered_in net) s.clause) log

-- the derivation's lines with the span's ids add the clauses of the log of the output's query, one after the other
pub record IsSpan (net : AigPair) (entries : List Entry) (span : Span) : Type 0 where
  pub lines : map clause_in (with_ids span.first span.last (derivation_of net entries)) ≡ log_clauses net (spent_log entries span.output)
  pub count : span.last + 1 ≡ span.first + length (spent_log entries span.output)

-- one span for each output whose query spent its budget, in the order of outputs
pub record AreSpans (net : AigPair) (entries : List Entry) (spans : List Span) : Type 0 where
  pub outputs : map (λ s. s.output) spans ≡ filter (has_spent entries) (outputs_of net)
  pub each : All (IsSpan net entries) spans

-- the span of an output's log that begins under that id, if the output has one
abbrev pub span_of : List Entry → ℕ → ℕ → List Span
span_of entries id j =
    if has_spent entries j then record { output = j; first = id; last = id + length (spent_log entries j) - 1 } ∷ [] else []

-- those of some outputs' logs, one behind the other
abbrev pub spans_from : List Entry → ℕ → List ℕ → List Span
spans_from entries id [] = []
spans_from entries id (j ∷ js) = span_of entries id j ++ spans_from entries (id + length (spent_log entries j)) js

-- those of a book's derivation, computed: they are its spans (`laws::derives`)
abbrev pub spans_of : AigPair → List Entry → List Span
spans_of net entries =
    spans_from entries (length (miter_of net) + length (written_lines net entries) - length (log_lines net entries) + 1) (outputs_of net)

-- each log is as long as the budget
abbrev pub AreWhole : ℕ → List Span → Type 0
AreWhole budget spans = All (λ s. s.last + 1 ≡ s.first + budget) spans
