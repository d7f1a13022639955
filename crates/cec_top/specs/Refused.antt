-- What status 4 promises of a check: which file is at fault, and that the warned line has its name; and where a line of a script
-- is refused, that the checks before it stand.
use Rattle.std.specs.Prelude.{◌≡◌, ◌⊎◌, ◌≤◌, List, [], ◌++◌, length, codes, ℕ, Option, None, Some, IfSome, IsSomeAnd}
use Rattle.desk_port.specs.Desk.{DeskState, Files, HasMore}
use Rattle.netlist.specs.Circuit.{Aig}
use Rattle.netlist.specs.Net.{AigPair}
use Rattle.netlist.specs.Pairing.{unlike_in}
use Rattle.netlist.specs.declared.unlike.Unlike.{Unlike}
use Rattle.aiger_file.specs.File.{SpellsAiger, aiger_in}
use Rattle.endings.specs.Reading.{limit}
use Rattle.endings.specs.Stops.{IsWarned, fault_line, file_line}
use Rattle.command_line.specs.Words.{CheckCommand}
use Rattle.cec_top.specs.declared.kept.Kept.{Kept}
use Rattle.book_file.specs.Reading.{entries_in}
use Rattle.lemma_book.specs.declared.entry.Entry.{Entry}
use Rattle.cec_top.specs.Check.{Opening}
use Rattle.cec_top.specs.Answers.{how_of, opening_text}
use Rattle.cec_top.specs.Inputs.{fault_in, lemma_fault_in}
use Rattle.cec_top.specs.Headline.{Loads, SpellPair, IsScript, KeepsPromise, TellsChecks}
use Rattle.cec_top.specs.Lines.{unlike_text, refused_text}
use Rattle.cec_top.specs.Script.{Refused, plan_of}
use Rattle.cec_top.specs.Warned.{WarnsOnly}

-- the named file is too long, or its bytes spell no circuit, and this is the text of that
abbrev pub HasFault : Files → List ℕ → List ℕ → Type 0
HasFault before name text =
    (HasMore before name limit × (text ≡ codes "longer than 1073741824 bytes"))
    ⊎ IsSomeAnd (before name) (λ bytes. (length bytes ≤ limit) × (fault_in (aiger_in bytes) ≡ Some text))

-- it is neither
abbrev pub HasNone : Files → List ℕ → Type 0
HasNone before name = IsSomeAnd (before name) (λ bytes. (length bytes ≤ limit) × (fault_in (aiger_in bytes) ≡ None))

-- neither A nor B is
abbrev pub HaveNone : CheckCommand → Files → Type 0
HaveNone c before = HasNone before c.a × HasNone before c.b

-- A is at fault, and is named
pub record OfFirst (c : CheckCommand) (before : Files) (line : List ℕ) : Type 0 where
  pub text : List ℕ
  pub fault : HasFault before c.a text
  pub line_is : line ≡ file_line c.a text

-- B is and A isn't, and B is named
pub record OfSecond (c : CheckCommand) (before : Files) (line : List ℕ) : Type 0 where
  pub first : HasNone before c.a
  pub text : List ℕ
  pub fault : HasFault before c.b text
  pub line_is : line ≡ file_line c.b text

-- neither is, and the circuits that they spell can't be compared: their numbers of inputs or outputs differ, or with `--match
-- names` their names don't fit; no file is named
pub record OfPair (c : CheckCommand) (before : Files) (line : List ℕ) : Type 0 where
  pub no_fault : HaveNone c before
  pub first : Aig
  pub second : Aig
  pub spells_a : IsSomeAnd (before c.a) (λ bytes. SpellsAiger bytes first)
  pub spells_b : IsSomeAnd (before c.b) (λ bytes. SpellsAiger bytes second)
  pub unlike : Unlike
  pub differ : unlike_in c.by_name first second ≡ Some unlike
  pub line_is : line ≡ fault_line (unlike_text unlike)

-- the named lemma file is too long, or its bytes are none, and this is the text of that
abbrev pub HasLemmaFault : Files → List ℕ → List ℕ → Type 0
HasLemmaFault before name text =
    (HasMore before name limit × (text ≡ codes "longer than 1073741824 bytes"))
    ⊎ IsSomeAnd (before name) (λ bytes. (length bytes ≤ limit) × (lemma_fault_in (entries_in bytes) ≡ Some text))

-- the script isn't too long, if there is one
abbrev pub IsScriptWithin : CheckCommand → Files → Type 0
IsScriptWithin c before = IfSome c.edits (λ name. IsSomeAnd (before name) (λ bytes. length bytes ≤ limit))

-- neither is, the circuits can be compared, and the script is too long and is named
pub record OfScript (c : CheckCommand) (before : Files) (line : List ℕ) : Type 0 where
  pub no_fault : HaveNone c before
  pub net : AigPair
  pub pair : SpellPair c before net
  pub name : List ℕ
  pub named : c.edits ≡ Some name
  pub more : HasMore before name limit
  pub line_is : line ≡ file_line name (codes "longer than 1073741824 bytes")

-- neither is, the circuits can be compared, the script isn't too long, and the lemma file is at fault and is named
pub record OfLemmas (c : CheckCommand) (before : Files) (line : List ℕ) : Type 0 where
  pub no_fault : HaveNone c before
  pub net : AigPair
  pub pair : SpellPair c before net
  pub script : IsScriptWithin c before
  pub name : List ℕ
  pub named : c.load ≡ Some name
  pub text : List ℕ
  pub fault : HasLemmaFault before name text
  pub line_is : line ≡ file_line name text

abbrev pub IsDue : CheckCommand → Files → List ℕ → Type 0
IsDue c before line =
    OfFirst c before line ⊎ OfSecond c before line ⊎ OfPair c before line ⊎ OfScript c before line ⊎ OfLemmas c before line

-- a file is refused, or the pair: no check is made, nothing is said or handed back, and no file is another
pub record RefusesFiles (c : CheckCommand) (old new : DeskState) (kept : List Kept) (before : Files) (line : List ℕ) : Type 0 where
  pub due : IsDue c before line
  pub files : new.files ≡ Some before
  pub said : new.said ≡ old.said
  pub none : kept ≡ []

-- No file is at fault, but a line of the script is refused, and the warned line names the script, the number of its line and the
-- line's fault. All checks that are asked for before it were told and keep the promise of what was said of them: their verdicts
-- and their files stand, as after a script that ends there; but no lemmas are saved.
pub record RefusesLine (c : CheckCommand) (old new : DeskState) (kept : List Kept) (before : Files) (line : List ℕ) : Type 0 where
  pub no_fault : HaveNone c before
  pub net : AigPair
  pub pair : SpellPair c before net
  pub name : List ℕ
  pub named : c.edits ≡ Some name
  pub within : IsSomeAnd (before name) (λ bytes. length bytes ≤ limit)
  pub lines : List (List ℕ)
  pub script : IsScript c.edits before lines
  pub lemmas : Option (List Entry)
  pub from : Opening
  pub loads : Loads c before net lemmas from
  pub refused : Refused
  pub refused_is : (plan_of net lines).refused ≡ Some refused
  pub line_is : line ≡ file_line name (refused_text refused)
  pub after : Files
  pub said : List ℕ
  pub files : new.files ≡ Some after
  pub heard : (earlier : List ℕ) → old.said ≡ Some earlier → new.said ≡ Some (earlier ++ said)
  pub told : TellsChecks c kept (KeepsPromise (how_of c) kept) from (plan_of net lines) (opening_text lemmas from) before after said

-- The line that is due is warned, or a first part of it where the warning failed; and nothing before it, but for the statistics and
-- the progress of the checks that were told, where they are asked for.
pub record Refuses (c : CheckCommand) (old new : DeskState) (kept : List Kept) (before : Files) : Type 0 where
  pub line : List ℕ
  pub mid : DeskState
  pub silent : WarnsOnly c.stats c.progress old mid
  pub warned : IsWarned mid new line
  pub what : RefusesFiles c old new kept before line ⊎ RefusesLine c old new kept before line
