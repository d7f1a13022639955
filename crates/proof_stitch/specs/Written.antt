-- The whole of what may be written of a book: the steps of its Merge and Out entries in order, each of which ends with the
-- clauses that the entry shows. Later steps name these clauses by entry.
use Rattle.std.specs.Prelude.{ℕ, ◌+◌, ◌-◌, List, [], ◌∷◌, length, map}
use Rattle.lits.specs.declared.literal.Lit.{Lit}
use Rattle.lits.specs.declared.step.Step.{Step}
use Rattle.netlist.specs.Net.{AigPair}
use Rattle.netlist.specs.Miter.{miter_of}
use Rattle.lrat_text.specs.declared.step.LratStep.{LratStep}
use Rattle.lemma_book.specs.declared.entry.Entry.{Entry}
use Rattle.lemma_book.specs.Entry.{Question, Answer, Equal, Differ, Open, question_of, answer_of, equal_clauses}
use Rattle.proof_stitch.specs.Steps.{additions}

-- the steps of an entry that are written: a log isn't
abbrev pub steps_in : Answer → List Step
steps_in (Equal steps) = steps
steps_in (Differ input) = []
steps_in (Open seen log) = []

abbrev pub written_steps : Entry → List Step
written_steps e = steps_in (answer_of e)

-- the clauses that an answer to the question shows, which are the last ones of its steps
abbrev pub clauses_shown : Question → Answer → List (List Lit)
clauses_shown q (Equal steps) = equal_clauses q
clauses_shown q (Differ input) = []
clauses_shown q (Open seen log) = []

abbrev pub shown_clauses : Entry → List (List Lit)
shown_clauses e = clauses_shown (question_of e) (answer_of e)

-- by entry, the id of the first of the clauses that it shows, where the entries' steps have the ids from that one on
abbrev pub shown_from : ℕ → List Entry → List ℕ
shown_from id [] = []
shown_from id (e ∷ es) =
    (id + length (written_steps e) - length (shown_clauses e)) ∷ shown_from (id + length (written_steps e)) es

-- the same behind the miter's clauses
abbrev pub shown_ids : AigPair → List Entry → List ℕ
shown_ids net entries = shown_from (length (miter_of net) + 1) entries

-- the additions of the entries' steps, in the order of the book
abbrev pub book_additions : AigPair → List Entry → List LratStep
book_additions net entries =
    additions net (shown_ids net entries) (length (miter_of net) + 1) (map written_steps entries)
