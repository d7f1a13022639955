-- What each status promises where a reduced circuit is asked for: of the circuit that the named file spells, of the files that are
-- left and of what is said. `before` and `after` are what the file system holds, by names, before and after the run.
use Rattle.std.specs.Prelude.{◌≡◌, ◌≢◌, ◌⊎◌, ℕ, List, [], ◌∷◌, ◌++◌, Some, IfSome, IsSomeAnd}
use Rattle.desk_port.specs.Desk.{Files, DeskState, OfSomePrefix}
use Rattle.netlist.specs.Circuit.{Aig}
use Rattle.netlist.specs.Net.{AigPair, Agree}
use Rattle.circuit_text.specs.BinaryText.{binary_text}
use Rattle.aiger_file.specs.File.{SpellsAiger}
use Rattle.lemma_book.specs.Entry.{Entries}
use Rattle.lemma_book.specs.Book.{IsLegal}
use Rattle.sig_classes.specs.Leader.{IsSwept}
use Rattle.fraig_write.specs.Reduced.{HasValuesOf, IsReducedCircuit}
use Rattle.check_session.specs.Files.{cnf_name, proof_name, cnf_text_of}
use Rattle.check_session.specs.Reduction.{swept_pair, IsSweptAlone}
use Rattle.command_line.specs.Words.{FraigCommand}
use Rattle.endings.specs.Stops.{IsWarned, file_line}
use Rattle.cec_top.specs.declared.kept.Kept.{Kept}
use Rattle.cec_top.specs.Complete.{IsWithinLimit}
use Rattle.cec_top.specs.Fraig.{fraig_how, reduced_text}
use Rattle.cec_top.specs.Headline.{RefutesMiter}
use Rattle.cec_top.specs.Refused.{HasFault}

-- ---- EQUIVALENT

-- the files of the proof stand under the prefix: the CNF of the miter of both circuits, and lines that refute it
pub record HasProof (prefix : List ℕ) (after : Files) (net : AigPair) : Type 0 where
  pub cnf : after (cnf_name prefix 0) ≡ Some (cnf_text_of net)
  pub bytes : List ℕ
  pub proof : after (proof_name prefix 0) ≡ Some bytes
  pub refutes : RefutesMiter net bytes

-- the name is that of no file that the command leaves
pub record IsOther (c : FraigCommand) (q : List ℕ) : Type 0 where
  pub reduced : q ≢ c.reduced
  pub cnf : IfSome c.out (λ prefix. q ≢ cnf_name prefix 0)
  pub proof : IfSome c.out (λ prefix. q ≢ proof_name prefix 0)

-- The named file spells circuit A of this net. The book that is handed back, as check 0, is of A against a circuit without gates: it
-- is legal, under the budgets that were asked for and are given, and swept. It was made by a sweep from the patterns that the seed and
-- the words draw which were asked for: the merges of the structure, and then what was settled of pairs of nodes. Circuit B is what the
-- book leaves of A; it has A's value at every output and every constraint on every input, and its text spells it.
pub record IsReducedBy (c : FraigCommand) (kept : List Kept) (before : Files) (net : AigPair) : Type 0 where
  pub spells_a : IsSomeAnd (before c.a) (λ bytes. SpellsAiger bytes net.a)
  pub book : Entries
  pub handed : kept ≡ record { check = 0; book = book } ∷ []
  pub sweep_budget : book.sweep_budget ≡ c.sweep_budget
  pub out_budget : book.out_budget ≡ 100000
  pub legal : IsLegal (swept_pair net.a) book
  pub alone : IsSweptAlone net.a (fraig_how c).options book
  pub swept : IsSwept (swept_pair net.a) book.entries
  pub reduced : IsReducedCircuit net.a book.entries net.b
  pub values : HasValuesOf net.a net.b
  pub agree : Agree net
  pub spells : SpellsAiger (binary_text net.b) net.b

-- all files stand: OUT has that text, and where there is a prefix the files of the proof are there, which refutes that the circuits
-- differ
pub record AllStand (c : FraigCommand) (after : Files) (net : AigPair) : Type 0 where
  pub there : after c.reduced ≡ Some (binary_text net.b)
  pub proof : IfSome c.out (λ prefix. HasProof prefix after net)

-- A is reduced to what OUT spells, and every other file is as before. What was said is how many gates either has, and that they are
-- equivalent.
pub record IsReducedTo (c : FraigCommand) (kept : List Kept) (before after : Files) (said : List ℕ) : Type 0 where
  pub net : AigPair
  pub is_reduced : IsReducedBy c kept before net
  pub stand : AllStand c after net
  pub others : (q : List ℕ) → IsOther c q → after q ≡ before q
  pub says : said ≡ reduced_text net

-- ---- without it

-- the file is refused: its line is warned, or a first part of it where the warning failed; no file is another, and nothing is said
-- or handed back
pub record RefusesCircuit (c : FraigCommand) (old new : DeskState) (kept : List Kept) (before : Files) : Type 0 where
  pub text : List ℕ
  pub fault : HasFault before c.a text
  pub mid : DeskState
  pub silent : mid.warned ≡ old.warned
  pub warned : IsWarned mid new (file_line c.a text)
  pub files : new.files ≡ Some before
  pub said : new.said ≡ old.said
  pub none : kept ≡ []

-- the file wasn't read, or memory ran out before A was reduced: no file is another, and nothing is said or handed back
pub record MakesNothing (old new : DeskState) (kept : List Kept) (before : Files) : Type 0 where
  pub files : new.files ≡ Some before
  pub said : new.said ≡ old.said
  pub none : kept ≡ []

-- A was reduced, and its book is handed back. OUT is as before, or a first part of the circuit's text stands in it; every other file
-- is as before that is none of the proof's. Nothing is said, or all files stand and a first part of the text is said.
pub record MakesPart (c : FraigCommand) (old new : DeskState) (kept : List Kept) (before : Files) : Type 0 where
  pub net : AigPair
  pub is_reduced : IsReducedBy c kept before net
  pub after : Files
  pub files : new.files ≡ Some after
  pub out : (after c.reduced ≡ before c.reduced) ⊎ OfSomePrefix (binary_text net.b) (λ part. after c.reduced ≡ Some part)
  pub others : (q : List ℕ) → IsOther c q → after q ≡ before q
  pub part : List ℕ
  pub rest : List ℕ
  pub is_part : reduced_text net ≡ part ++ rest
  pub heard : (earlier : List ℕ) → old.said ≡ Some earlier → new.said ≡ Some (earlier ++ part)
  pub told : (part ≡ []) ⊎ AllStand c after net

-- ---- when it has to come to that

-- the named file spells a circuit and isn't too long
pub record CanReduce (c : FraigCommand) (old : DeskState) : Type 0 where
  pub files : Files
  pub told : old.files ≡ Some files
  pub circuit : Aig
  pub spells : IsSomeAnd (files c.a) (λ bytes. SpellsAiger bytes circuit)
  pub within : IsWithinLimit files c.a
