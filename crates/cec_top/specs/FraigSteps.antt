-- How the program goes about a reduced circuit, for the crate's own functions.
use Rattle.std.specs.Prelude.{◌≡◌, ℕ, List, Option, Some, Result, Ok, Err}
use Rattle.desk_port.specs.Desk.{DeskState}
use Rattle.netlist.specs.Circuit.{Aig}
use Rattle.circuit_text.specs.BinaryText.{IsInSequence}
use Rattle.lemma_book.specs.Entry.{Entries}
use Rattle.check_session.specs.Check.{State}
use Rattle.check_session.specs.Finding.{Equivalent}
use Rattle.command_line.specs.Words.{FraigCommand}
use Rattle.endings.specs.Writing.{StopsAmong, StopsIn, after_file, after_files}
use Rattle.endings.specs.declared.status.Status.{Status}
use Rattle.endings.specs.declared.status.Status.TheVariants as ends
use Rattle.endings.specs.declared.stop.Stop.{Stop}
use Rattle.cec_top.specs.Check.{How, outputs_of}
use Rattle.cec_top.specs.Fraig.{Reduction, IsRight, TellsReduction, both, circuit_output}

-- what was made, by the book of the sweep and the session of both circuits
abbrev pub reduction_in : State → Entries → Reduction
reduction_in s book = record { net = s.net; book = book; proof = s.book }

-- the circuit is reduced to that one by the book, and the session has found both equivalent
pub record Reduces (how : How) (a circuit : Aig) (book : Entries) (s : State) : Type 0 where
  pub a_is : s.net.a ≡ a
  pub circuit_is : circuit ≡ s.net.b
  pub sequence : IsInSequence circuit
  pub found : s.found ≡ Some Equivalent
  pub is_right : IsRight how (reduction_in s book)

-- the circuit is written to the named file, or not whole
abbrev pub WritesCircuit : List ℕ → Aig → DeskState → DeskState → Result (Unit {0}) Stop → Type 0
WritesCircuit name c old new (Ok _) = new ≡ after_file old (circuit_output name c)
WritesCircuit name c old new (Err stop) = StopsIn (circuit_output name c) old new stop

-- the files of the proof are written, if there is a prefix for them, or not whole
abbrev pub WritesProof : Option (List ℕ) → State → DeskState → DeskState → Result (Unit {0}) Stop → Type 0
WritesProof out s old new (Ok _) = new ≡ after_files old (outputs_of out 0 (both (reduction_in s s.book)))
WritesProof out s old new (Err stop) = StopsAmong (outputs_of out 0 (both (reduction_in s s.book))) old new stop

-- what was made is told whole, with the status of that; or in part
abbrev pub TellsStatus : FraigCommand → Reduction → DeskState → DeskState → Result Status Stop → Type 0
TellsStatus c r old new (Ok status) = TellsReduction c r old new (Ok tt) × (status ≡ ends.Done)
TellsStatus c r old new (Err stop) = TellsReduction c r old new (Err stop)
