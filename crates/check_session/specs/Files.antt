-- The two files of a check: their names, what stands in them, and what is left where one of them isn't written whole.
use Rattle.std.specs.Prelude.{◌≡◌, ℕ, List, [], ◌∷◌, ◌++◌, length, codes, decimal, Result, Ok, Err, IfSome}
use Rattle.desk_port.specs.Desk.{DeskState, Sizes, and_sizes}
use Rattle.endings.specs.declared.stop.Stop.{Stop}
use Rattle.endings.specs.declared.stop.Stop.TheVariants.{CannotWrite, OutOfMemory}
use Rattle.endings.specs.Writing.{Output, StopsAmong, after_files, sizes_of}
use Rattle.netlist.specs.Net.{AigPair}
use Rattle.netlist.specs.Miter.{miter_of, variables_of}
use Rattle.dimacs_text.specs.CnfText.{cnf_text}
use Rattle.lrat_text.specs.declared.step.LratStep.{LratStep}
use Rattle.lemma_book.specs.declared.entry.Entry.{Entry}
use Rattle.lemma_book.specs.Entry.{Entries}
use Rattle.lemma_book.specs.Book.{IsLegal}
use Rattle.proof_stitch.specs.declared.stitch_err.StitchErr.{StitchErr}
use Rattle.proof_stitch.specs.declared.stitch_err.StitchErr.TheVariants.{Write, NoMemory}
use Rattle.proof_stitch.specs.declared.logs.Span.{Span}
use Rattle.proof_stitch.specs.Text.{proof_text}
use Rattle.proof_stitch.specs.Stitch.{refutation_of}
use Rattle.proof_stitch.specs.Derivation.{derivation_of, spans_of}
use Rattle.check_session.specs.Finding.{Finding, Equivalent, Different, Undecided, Finds}
use Rattle.check_session.specs.Check.{State}

-- the file of a check's CNF, and that of its proof, by the check's number
abbrev pub cnf_name : List ℕ → ℕ → List ℕ
cnf_name prefix number = prefix ++ codes "." ++ decimal number ++ codes ".cnf"

abbrev pub proof_name : List ℕ → ℕ → List ℕ
proof_name prefix number = prefix ++ codes "." ++ decimal number ++ codes ".lrat"

-- the CNF of the circuits' miter
unfoldable pub cnf_text_of : AigPair → List ℕ
cnf_text_of net = cnf_text (length (variables_of net)) (miter_of net)

-- the lines of the proof: a refutation where the circuits are equivalent, none where an output differs, and where some are
-- open what the book derives, their logs among it
abbrev pub proof_lines : AigPair → List Entry → Finding → List LratStep
proof_lines net entries Equivalent = refutation_of net entries
proof_lines net entries (Different j input) = []
proof_lines net entries Undecided = derivation_of net entries

-- the bytes of the proof's file
abbrev pub proof_bytes : AigPair → List Entry → Finding → List ℕ
proof_bytes net entries finding = proof_text net (proof_lines net entries finding)

-- the spans are those of the logs, where outputs are open
abbrev pub AreSpansIn : AigPair → List Entry → Finding → List Span → Type 0
AreSpansIn net entries Equivalent spans = spans ≡ []
AreSpansIn net entries (Different j input) spans = spans ≡ []
AreSpansIn net entries Undecided spans = spans ≡ spans_of net entries

-- What is told of a proof: the spans of its logs, and how many lines it has.
pub record AreToldOf (net : AigPair) (entries : List Entry) (finding : Finding) (spans : List Span) (lines : ℕ) : Type 0 where
  pub spans_are : AreSpansIn net entries finding spans
  pub lines_are : lines ≡ length (proof_lines net entries finding)

-- the files of the check with this number, in the order in which they are written
abbrev pub files_of : List ℕ → ℕ → AigPair → List Entry → Finding → List Output
files_of prefix number net entries finding =
    record { name = cnf_name prefix number; bytes = cnf_text_of net }
    ∷ record { name = proof_name prefix number; bytes = proof_bytes net entries finding }
    ∷ []

-- the end of a command that goes with a file that wasn't written
abbrev pub stop_of_stitch : StitchErr → Stop
stop_of_stitch Write = CannotWrite
stop_of_stitch NoMemory = OutOfMemory

-- the files are written whole and closed, in order; or one isn't, and those behind it aren't touched
abbrev pub LeavesAll : {A : Type 0} → List Output → DeskState → DeskState → Result A StitchErr → Type 0
LeavesAll outputs old new (Ok a) = new ≡ after_files old outputs
LeavesAll outputs old new (Err e) = StopsAmong outputs old new (stop_of_stitch e)

-- the book may be written as a proof of what was found
pub record HasProof (net : AigPair) (book : Entries) (finding : Finding) : Type 0 where
  pub legal : IsLegal net book
  pub finds : Finds net book.entries finding

-- the session's last check leaves its files under the prefix and this number
abbrev pub WritesFiles : {A : Type 0} → State → List ℕ → ℕ → DeskState → DeskState → Result A StitchErr → Type 0
WritesFiles s prefix number old new result =
    IfSome s.found (λ finding. LeavesAll (files_of prefix number s.net s.book.entries finding) old new result)

-- and where they are whole, each went out in pieces
abbrev pub HasSizes : State → List ℕ → ℕ → Sizes → Sizes → Type 0
HasSizes s prefix number old new =
    IfSome s.found (λ finding. new ≡ and_sizes old (sizes_of (files_of prefix number s.net s.book.entries finding)))

-- and these are the spans of its logs
abbrev pub TellsSpans : State → List Span → Type 0
TellsSpans s spans = IfSome s.found (λ finding. AreSpansIn s.net s.book.entries finding spans)

-- and so many lines its proof has
abbrev pub TellsLines : State → ℕ → Type 0
TellsLines s n = IfSome s.found (λ finding. n ≡ length (proof_lines s.net s.book.entries finding))
