-- What the program answers to arguments that ask for a reduced circuit: it reads a circuit, sweeps it, writes what is left of it,
-- with a proof that both compute the same, if one is wanted, and says how many gates either has.
use Rattle.std.specs.Prelude.{None, ◌≡◌, ◌⊎◌, ℕ, false, List, [], ◌∷◌, ◌++◌, length, codes, decimal, Ok, Err, Result}
use Rattle.desk_port.specs.Desk.{DeskState}
use Rattle.netlist.specs.Circuit.{Aig, IsCircuit}
use Rattle.netlist.specs.Net.{AigPair}
use Rattle.circuit_text.specs.BinaryText.{IsInSequence, binary_text}
use Rattle.aiger_file.specs.File.{SpellsAiger}
use Rattle.lemma_book.specs.Entry.{Entries}
use Rattle.lemma_book.specs.Book.{IsLegal}
use Rattle.sig_classes.specs.Leader.{IsSwept}
use Rattle.fraig_write.specs.Reduced.{HasValuesOf, IsReducedCircuit}
use Rattle.check_session.specs.Finding.{Equivalent}
use Rattle.check_session.specs.Reduction.{swept_pair, IsSweptAlone}
use Rattle.command_line.specs.Words.{FraigCommand}
use Rattle.endings.specs.Reading.{Input, AreRead, ReadsUpTo, after_reads}
use Rattle.endings.specs.Writing.{Output, Leaves}
use Rattle.endings.specs.Stops.{EndsBy}
use Rattle.endings.specs.declared.status.Status.{Status}
use Rattle.endings.specs.declared.status.Status.TheVariants as ends
use Rattle.endings.specs.declared.stop.Stop.{Stop}
use Rattle.cec_top.specs.declared.kept.Kept.{Kept}
use Rattle.cec_top.specs.Inputs.{circuit_file}
use Rattle.cec_top.specs.Check.{How, Made, IsMade, outputs_of}

-- Under which numbers it is made, and with which prefix for the files of the proof. No output is queried, so the budget of such a
-- query is that of a check without an option.
abbrev pub fraig_how : FraigCommand → How
fraig_how c = record {
  options = record {
    workers = c.workers;
    seed = c.seed;
    words = c.words;
    sweep_budget = c.sweep_budget;
    out_budget = 100000;
    by_name = false;
  };
  out = c.out;
  witness = None;
  stats = false;
  progress = false;
}

-- What is made of a circuit: the reduced one, which stands beside it in a net; the book of the sweep that it is reduced by; and
-- the book that shows that both compute the same.
pub record Reduction : Type 0 where
  pub net : AigPair
  pub book : Entries
  pub proof : Entries

-- the check that both compute the same
abbrev pub both : Reduction → Made
both r = record { net = r.net; edits = []; book = r.proof; finding = Equivalent }

-- It is right under these numbers: the circuit was swept against one without gates, beginning with the patterns of the seed, the
-- reduced one is what that book leaves of it and has its values, and both are equivalent.
pub record IsRight (how : How) (r : Reduction) : Type 0 where
  pub sweep_budget : r.book.sweep_budget ≡ how.options.sweep_budget
  pub out_budget : r.book.out_budget ≡ how.options.out_budget
  pub legal : IsLegal (swept_pair r.net.a) r.book
  pub alone : IsSweptAlone r.net.a how.options r.book
  pub swept : IsSwept (swept_pair r.net.a) r.book.entries
  pub reduced : IsReducedCircuit r.net.a r.book.entries r.net.b
  pub values : HasValuesOf r.net.a r.net.b
  pub circuit : IsCircuit r.net.b
  pub sequence : IsInSequence r.net.b
  pub equivalent : IsMade how (both r)

-- ---- what is left and said

-- the file of a reduced circuit
abbrev pub circuit_output : List ℕ → Aig → Output
circuit_output name c = record { name = name; bytes = binary_text c }

-- it is left first, and behind it those of the proof, if there is a prefix for them
abbrev pub fraig_outputs : FraigCommand → Reduction → List Output
fraig_outputs c r = circuit_output c.reduced r.net.b ∷ outputs_of c.out 0 (both r)

-- how many gates either circuit has, and that they are equivalent
unfoldable pub reduced_text : AigPair → List ℕ
reduced_text net =
    codes "gates " ++ decimal (length net.a.gates) ++ codes " " ++ decimal (length net.b.gates) ++ codes "\nEQUIVALENT\n"

-- the files are left, each closed before the next is started, and then that is said at once; or that stops, as the result says
abbrev pub TellsReduction : FraigCommand → Reduction → DeskState → DeskState → Result (Unit {0}) Stop → Type 0
TellsReduction c r old new result = Leaves (fraig_outputs c r) (reduced_text r.net) old new result

-- the book of the sweep is handed back
abbrev pub handed_back : Reduction → List Kept
handed_back r = record { check = 0; book = r.book } ∷ []

-- ---- what is answered

abbrev pub fraig_inputs : FraigCommand → List Input
fraig_inputs c = circuit_file c.a ∷ []

-- the named file is read, and spells this circuit
pub record ReadsCircuit (c : FraigCommand) (old : DeskState) (a : Aig) : Type 0 where
  pub bytes : List ℕ
  pub read : AreRead old [] (fraig_inputs c) (bytes ∷ [])
  pub spells : SpellsAiger bytes a

-- the circuit is reduced, and that is told whole
pub record EndsFraig (c : FraigCommand) (old new : DeskState) (status : Status) (kept : List Kept) : Type 0 where
  pub made : Reduction
  pub reads : ReadsCircuit c old made.net.a
  pub is_right : IsRight (fraig_how c) made
  pub tells : TellsReduction c made (after_reads old (fraig_inputs c)) new (Ok tt)
  pub status_is : status ≡ ends.Done
  pub keeps : kept ≡ handed_back made

-- it is reduced, and told in part
pub record BreaksFraig (c : FraigCommand) (old new : DeskState) (kept : List Kept) (stop : Stop) : Type 0 where
  pub made : Reduction
  pub reads : ReadsCircuit c old made.net.a
  pub is_right : IsRight (fraig_how c) made
  pub breaks : TellsReduction c made (after_reads old (fraig_inputs c)) new (Err stop)
  pub keeps : kept ≡ handed_back made

-- why it ends otherwise: the circuit isn't read, or memory runs out behind that; or it is told in part
abbrev pub StopsFraig : FraigCommand → DeskState → List Kept → DeskState → Stop → Type 0
StopsFraig c old kept new stop = ((kept ≡ []) × ReadsUpTo 0 [] (fraig_inputs c) old new stop) ⊎ BreaksFraig c old new kept stop

abbrev pub AnswersFraig : FraigCommand → DeskState → DeskState → Status → List Kept → Type 0
AnswersFraig c old new status kept = EndsFraig c old new status kept ⊎ EndsBy (c.a ∷ []) (StopsFraig c old kept) new status
