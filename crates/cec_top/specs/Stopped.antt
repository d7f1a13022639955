-- What stands of a check of files that ends with status 6 or 7, because a file or a verdict couldn't be written or memory ran out:
-- the checks that were told whole keep their promise.
use Rattle.std.specs.Prelude.{◌≡◌, ◌≢◌, ◌⊎◌, ℕ, List, [], ◌∷◌, ◌++◌, length, map, Option, None, Some}
use Rattle.std.specs.List.{AllByRecursion, flat_map}
use Rattle.std.specs.Option.{option_to_list}
use Rattle.desk_port.specs.Desk.{Files, DeskState}
use Rattle.netlist.specs.Net.{AigPair}
use Rattle.check_session.specs.Files.{cnf_name, proof_name}
use Rattle.endings.specs.declared.status.Status.{Status}
use Rattle.endings.specs.Status.{code_of}
use Rattle.command_line.specs.Words.{CheckCommand}
use Rattle.cec_top.specs.declared.kept.Kept.{Kept}
use Rattle.lemma_book.specs.declared.entry.Entry.{Entry}
use Rattle.cec_top.specs.Answers.{how_of, opening_text}
use Rattle.cec_top.specs.Check.{How, Opening, AreSome}
use Rattle.cec_top.specs.Headline.{Told, Loads, SpellPair, IsScript, KeepsPromise, HasFiles, AreNumbered, due_of_told, witness_left}
use Rattle.cec_top.specs.Script.{Due, Refused, plan_of}

-- the files spell what they should, and this first part is said of how many lemmas check 0 goes on from
pub record SaysOpening (c : CheckCommand) (before : Files) (part : List ℕ) : Type 0 where
  pub net : AigPair
  pub pair : SpellPair c before net
  pub lemmas : Option (List Entry)
  pub from : Opening
  pub loads : Loads c before net lemmas from
  pub rest : List ℕ
  pub is_part : opening_text lemmas from ≡ part ++ rest

-- no check was begun: no file is another, nothing is handed back, and nothing is said, or a first part of that
pub record TellsNothing (c : CheckCommand) (old new : DeskState) (kept : List Kept) (before : Files) : Type 0 where
  pub files : new.files ≡ Some before
  pub none : kept ≡ []
  pub part : List ℕ
  pub said : (part ≡ []) ⊎ SaysOpening c before part
  pub heard : (earlier : List ℕ) → old.said ≡ Some earlier → new.said ≡ Some (earlier ++ part)

-- the name is that of no file of the check with this number
abbrev pub IsNoFile : List ℕ → ℕ → List ℕ → Type 0
IsNoFile prefix number q = (q ≢ cnf_name prefix number) × (q ≢ proof_name prefix number)

-- the file in which lemmas may be saved: no line is refused, and none of these checks is left to be told
abbrev pub saved_behind : Option (List ℕ) → Option Refused → List Due → List (List ℕ)
saved_behind save None [] = option_to_list save
saved_behind save None (due ∷ dues) = []
saved_behind save (Some line) dues = []

-- none of these is the name
abbrev pub AreOthers : List (List ℕ) → List ℕ → Type 0
AreOthers names q = AllByRecursion (λ name. q ≢ name) names

-- the checks that were told have their files, and every file is as before that is none of theirs, none of the check behind them and
-- none of these
pub record StandFiles (prefix : List ℕ) (told : List Told) (saved : List (List ℕ)) (before after : Files) : Type 0 where
  pub each : AllByRecursion (HasFiles prefix after) told
  pub others : (q : List ℕ) → AllByRecursion (λ t. IsNoFile prefix t.number q) told → IsNoFile prefix (length told) q → AreOthers saved q
      → after q ≡ before q

-- without a prefix no file is another but these
abbrev pub StandUnder : Option (List ℕ) → List Told → List (List ℕ) → Files → Files → Type 0
StandUnder None told [] before after = after ≡ before
StandUnder None told (name ∷ names) before after = (q : List ℕ) → AreOthers (name ∷ names) q → after q ≡ before q
StandUnder (Some prefix) told saved before after = StandFiles prefix told saved before after

-- The witness stands as the last of these checks left it that found a difference, unless another check is left, which may have one of
-- its own under way; and every other file is as above.
pub record StandsWitness (out : Option (List ℕ)) (name : List ℕ) (told : List Told) (dues : List Due) (saved : List (List ℕ))
    (before after : Files) : Type 0 where
  pub without : Files
  pub under : StandUnder out told saved before without
  pub there : (after name ≡ witness_left told (before name)) ⊎ (dues ≢ [])
  pub others : (q : List ℕ) → q ≢ name → after q ≡ without q

abbrev pub StandAll : Option (List ℕ) → Option (List ℕ) → List Told → List Due → List (List ℕ) → Files → Files → Type 0
StandAll out None told dues saved before after = StandUnder out told saved before after
StandAll out (Some name) told dues saved before after = StandsWitness out name told dues saved before after

-- the check with this number, the first of those that are left, has its verdict, of which this first part is said
pub record SaysPart (how : How) (books : List Kept) (number : ℕ) (others : List Due) (part : List ℕ) : Type 0 where
  pub next : Told
  pub number_is : next.number ≡ number
  pub later : List Due
  pub due : others ≡ due_of_told next ∷ later
  pub promise : KeepsPromise how books next
  pub rest : List ℕ
  pub is_part : next.said ≡ part ++ rest

-- The files spell what they should, and the first of the checks that are asked for were told, one after another, behind how many
-- lemmas check 0 goes on from. Each keeps the promise of what was said of it, and its files stand. Behind their verdicts nothing is
-- said, or a first part of the next one. Where all were told, the file in which their lemmas were to be saved may be another.
-- The promises speak of these books. All are handed back where the status is 6, and some where memory ran out.
pub record TellsSome (c : CheckCommand) (old new : DeskState) (status : Status) (kept : List Kept) (before : Files) : Type 0 where
  pub net : AigPair
  pub pair : SpellPair c before net
  pub lines : List (List ℕ)
  pub script : IsScript c.edits before lines
  pub lemmas : Option (List Entry)
  pub from : Opening
  pub loads : Loads c before net lemmas from
  pub told : List Told
  pub others : List Due
  pub checks : map due_of_told told ++ others ≡ (plan_of net lines).checks
  pub numbers : AreNumbered 0 told
  pub books : List Kept
  pub some : AreSome kept books
  pub all : code_of status ≡ 6 → kept ≡ books
  pub promises : AllByRecursion (KeepsPromise (how_of c) books) told
  pub part : List ℕ
  pub next : (part ≡ []) ⊎ SaysPart (how_of c) books (length told) others part
  pub heard : (earlier : List ℕ) → old.said ≡ Some earlier → new.said ≡ Some (earlier ++ opening_text lemmas from ++ flat_map (λ t. t.said) told ++ part)
  pub after : Files
  pub files : new.files ≡ Some after
  pub stand : StandAll c.out c.witness told others (saved_behind c.save (plan_of net lines).refused others) before after

abbrev pub Stopped : CheckCommand → DeskState → DeskState → Status → List Kept → Files → Type 0
Stopped c old new status kept before = TellsNothing c old new kept before ⊎ TellsSome c old new status kept before
