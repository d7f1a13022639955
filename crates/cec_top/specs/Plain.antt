-- What a verdict means where the words are plain: `check A B`, with or without `--out PREFIX` and options that are numbers
-- (`PlainCheck` of command_line). `before` and `after` are what the file system holds, by names, before and after the run.
use Rattle.std.specs.Prelude.{◌≡◌, ◌≢◌, ℕ, ◌<◌, Bool, false, List, [], ◌++◌, length, map, filter, codes, Option, None, Some, IsSomeAnd}
use Rattle.desk_port.specs.Desk.{Files, DeskState}
use Rattle.netlist.specs.Net.{AigPair, Agree, AgreesOn, DiffersOn}
use Rattle.netlist.specs.Miter.{miter_of}
use Rattle.aiger_file.specs.File.{SpellsAiger}
use Rattle.lemma_book.specs.Entry.{outputs_of}
use Rattle.lrat_text.specs.declared.step.Line.{Line}
use Rattle.lrat_text.specs.Reading.{SpellsLrat}
use Rattle.lrat_text.specs.Derivation.{Derives}
use Rattle.proof_stitch.specs.declared.logs.Span.{Span}
use Rattle.check_session.specs.Files.{cnf_text_of}
use Rattle.cec_top.specs.Headline.{RefutesMiter}
use Rattle.cec_top.specs.Texts.{different_text, open_text, open_text_with}

-- the two named files spell circuits that have equally many inputs and equally many outputs
pub record SpellBoth (a b : List ℕ) (before : Files) (net : AigPair) : Type 0 where
  pub first : IsSomeAnd (before a) (λ bytes. SpellsAiger bytes net.a)
  pub second : IsSomeAnd (before b) (λ bytes. SpellsAiger bytes net.b)
  pub inputs : length net.a.inputs ≡ length net.b.inputs
  pub outputs : length net.a.outputs ≡ length net.b.outputs

-- one file holds the text of the circuits' miter and one a proof, of which this holds, and every other file is as before
pub record WritesProof (prefix : List ℕ) (net : AigPair) (Holds : List ℕ → Type 0) (before after : Files) : Type 0 where
  pub proof : List ℕ
  pub cnf_file : after (prefix ++ codes ".0.cnf") ≡ Some (cnf_text_of net)
  pub proof_file : after (prefix ++ codes ".0.lrat") ≡ Some proof
  pub others : (name : List ℕ) → name ≢ prefix ++ codes ".0.cnf" → name ≢ prefix ++ codes ".0.lrat" → after name ≡ before name
  pub holds : Holds proof

-- that with `--out`, and without it every file is as before
abbrev pub LeavesProof : Option (List ℕ) → AigPair → (List ℕ → Type 0) → Files → Files → Type 0
LeavesProof None net Holds before after = after ≡ before
LeavesProof (Some prefix) net Holds before after = WritesProof prefix net Holds before after

-- EQUIVALENT: the circuits agree on every admitted input, and the proof refutes that they differ on one
pub record MeansEquivalent (a b : List ℕ) (out : Option (List ℕ)) (before after : Files) (said : List ℕ) : Type 0 where
  pub net : AigPair
  pub spell : SpellBoth a b before net
  pub agree : Agree net
  pub says : said ≡ codes "EQUIVALENT\n"
  pub files : LeavesProof out net (RefutesMiter net) before after

-- DIFFERENT: the output that is said differs on the input that is said, which is admitted, and the proof is empty
pub record MeansDifferent (a b : List ℕ) (out : Option (List ℕ)) (before after : Files) (said : List ℕ) : Type 0 where
  pub net : AigPair
  pub spell : SpellBoth a b before net
  pub output : ℕ
  pub input : List Bool
  pub differs : DiffersOn net output input
  pub says : said ≡ different_text output input
  pub files : LeavesProof out net (λ proof. proof ≡ []) before after

-- the proof's lines derive what they say from the miter
pub record DerivesFromMiter (net : AigPair) (bytes : List ℕ) : Type 0 where
  pub lines : List Line
  pub spells : SpellsLrat (length (miter_of net)) bytes lines
  pub derives : Derives (miter_of net) lines

-- these outputs are said, and with `--out` the ids of the lines that have the log of each
abbrev pub SaysOutputs : Option (List ℕ) → List ℕ → List ℕ → Type 0
SaysOutputs None opens said = said ≡ open_text opens
SaysOutputs (Some prefix) opens said = (spans : List Span) × (map (λ s. s.output) spans ≡ opens) × (said ≡ open_text_with spans)

-- UNDECIDED: some outputs are said to be open, and each other output has one value in both circuits on every admitted input
pub record MeansUndecided (a b : List ℕ) (out : Option (List ℕ)) (before after : Files) (said : List ℕ) : Type 0 where
  pub net : AigPair
  pub spell : SpellBoth a b before net
  pub is_open : ℕ → Bool
  pub some_open : filter is_open (outputs_of net) ≢ []
  pub others : (j : ℕ) → j < length net.a.outputs → is_open j ≡ false → AgreesOn net j
  pub says : SaysOutputs out (filter is_open (outputs_of net)) said
  pub files : LeavesProof out net (DerivesFromMiter net) before after

-- a run leaves files and says more to which that applies, and warns nothing, wherever the desk tells its files and what was said
abbrev pub RunMeans : (Files → Files → List ℕ → Type 0) → DeskState → DeskState → Type 0
RunMeans Means old new = (before : Files) (earlier : List ℕ) → old.files ≡ Some before → old.said ≡ Some earlier
    → (after : Files) × (said : List ℕ) × (new.files ≡ Some after) × (new.said ≡ Some (earlier ++ said))
    × (new.warned ≡ old.warned) × Means before after said
