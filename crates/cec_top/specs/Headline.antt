-- What each verdict promises: of the files that the arguments name, of the circuits that they spell, of the files that are
-- left, and of what is said. `before` and `after` are what the file system holds, by names, before and after the run.
use Rattle.std.specs.Prelude.{◌≡◌, ◌≢◌, ◌↔◌, ◌⊎◌, ℕ, ◌+◌, ◌<◌, Bool, true, false, All, Contains, List, [], ◌∷◌, ◌++◌, length, map, filter, codes, Option, None, Some, IfSome, IsSomeAnd}
use Rattle.std.specs.List.{AllByRecursion, flat_map}
use Rattle.lits.specs.Assignment.{IsSatisfiable}
use Rattle.lits.specs.Same.{opposite_dim}
use Rattle.lits.specs.declared.step.Step.{Step}
use Rattle.desk_port.specs.Desk.{Files, DeskState}
use Rattle.netlist.specs.Circuit.{Aig}
use Rattle.netlist.specs.Pairing.{IsMatched}
use Rattle.netlist.specs.Net.{AigPair, DiffersOn, AgreesOn, Agree, Differ}
use Rattle.netlist.specs.Miter.{miter_of}
use Rattle.dimacs_text.specs.declared.cnf.Cnf.{Cnf}
use Rattle.dimacs_text.specs.Reading.{SpellsCnf}
use Rattle.aiger_file.specs.File.{SpellsAiger}
use Rattle.lemma_book.specs.declared.entry.Entry.{Entry}
use Rattle.lemma_book.specs.declared.entry.Entry.TheVariants.{OutSpent}
use Rattle.lemma_book.specs.Entry.{Entries, has_out, has_spent, outputs_of}
use Rattle.lemma_book.specs.Good.{IsGood}
use Rattle.lemma_book.specs.Book.{IsLegal, StartsWith}
use Rattle.netlist_edits.specs.declared.edit.Edit.{Edit}
use Rattle.netlist_edits.specs.Edited.{edited_all}
use Rattle.netlist_edits.specs.Script.{script_lines}
use Rattle.keep_lemmas.specs.Kept.{kept as kept_lemmas}
use Rattle.lrat_text.specs.declared.step.Line.{Line}
use Rattle.lrat_text.specs.Reading.{SpellsLrat}
use Rattle.lrat_text.specs.Derivation.{Derives, Refutes}
use Rattle.proof_stitch.specs.Derivation.{clause_in, derivation_of, log_clauses, with_ids}
use Rattle.proof_stitch.specs.declared.logs.Span.{Span}
use Rattle.sig_classes.specs.Leader.{IsSwept}
use Rattle.check_session.specs.Finding.{Finding, Equivalent, Different, Undecided, Finds}
use Rattle.check_session.specs.Files.{cnf_name, proof_name, cnf_text_of}
use Rattle.command_line.specs.Words.{CheckCommand, LratCommand, SelfCommand}
use Rattle.workload_gen.specs.Workload.{first_bytes, second_bytes}
use Rattle.cec_top.specs.declared.kept.Kept.{Kept}
use Rattle.cec_top.specs.Script.{Due, Plan, plan_of}
use Rattle.book_file.specs.Reading.{SpellsBook}
use Rattle.book_file.specs.Writing.{book_text}
use Rattle.cec_top.specs.Check.{How, Opening, is_undecided, last_book}
use Rattle.cec_top.specs.Answers.{IsOpening, how_of, opening_text}
use Rattle.cec_top.specs.SelfCheck.{own_how}
use Rattle.cec_top.specs.Warned.{WarnsOnly}
use Rattle.cec_top.specs.Witness.{witness_behind}
use Rattle.cec_top.specs.Texts.{different_text, open_text, open_text_with, workload_text}

-- ---- a check that was told

-- A check that was told: its number, its circuits and the edits since the check before it, what was found of the circuits and
-- what was said, and the bytes of its proof's file, where files are left.
pub record Told : Type 0 where
  pub number : ℕ
  pub net : AigPair
  pub edits : List Edit
  pub finding : Finding
  pub said : List ℕ
  pub proof : List ℕ

-- its two files stand under the prefix and its number: the CNF of its circuits' miter, and its proof
abbrev pub HasFiles : List ℕ → Files → Told → Type 0
HasFiles prefix after t =
    (after (cnf_name prefix t.number) ≡ Some (cnf_text_of t.net)) × (after (proof_name prefix t.number) ≡ Some t.proof)

-- each check has its files, and every file that is none of theirs is as before
pub record LeavesFiles (prefix : List ℕ) (told : List Told) (before after : Files) : Type 0 where
  pub each : AllByRecursion (HasFiles prefix after) told
  pub others : (q : List ℕ) → AllByRecursion (λ t. (q ≢ cnf_name prefix t.number) × (q ≢ proof_name prefix t.number)) told
      → after q ≡ before q

-- without a prefix no file is another
abbrev pub LeavesUnder : Option (List ℕ) → List Told → Files → Files → Type 0
LeavesUnder None told before after = after ≡ before
LeavesUnder (Some prefix) told before after = LeavesFiles prefix told before after

-- ---- an input on which circuits differ

-- what its file holds behind these checks, where it held that before: what the last one left there that found a difference
abbrev pub witness_left : List Told → Option (List ℕ) → Option (List ℕ)
witness_left [] before = before
witness_left (t ∷ ts) before = witness_left ts (witness_behind t.net.a t.finding before)

-- that stands there, and every other file is as the checks leave it without a witness
pub record LeavesWitness (out : Option (List ℕ)) (name : List ℕ) (told : List Told) (before after : Files) : Type 0 where
  pub without : Files
  pub under : LeavesUnder out told before without
  pub there : after name ≡ witness_left told (before name)
  pub others : (q : List ℕ) → q ≢ name → after q ≡ without q

-- all files that these checks leave
abbrev pub LeavesBoth : Option (List ℕ) → Option (List ℕ) → List Told → Files → Files → Type 0
LeavesBoth out None told before after = LeavesUnder out told before after
LeavesBoth out (Some name) told before after = LeavesWitness out name told before after

-- the witness of these checks stands, if its file is named: the lemmas aren't saved over it
abbrev pub StillShown : Option (List ℕ) → List Told → Files → Files → Type 0
StillShown witness told before after = IfSome witness (λ name. after name ≡ witness_left told (before name))

-- ---- lemmas that are saved

-- the file holds the lemmas of the last book that is handed back, and every other file is as it was behind that check's verdict
pub record SavesTo (name : List ℕ) (kept : List Kept) (before after : Files) : Type 0 where
  pub book : Entries
  pub book_is : last_book kept ≡ Some book
  pub there : after name ≡ Some (book_text book.entries)
  pub others : (q : List ℕ) → q ≢ name → after q ≡ before q

-- without a name no file is another
abbrev pub SavesUnder : Option (List ℕ) → List Kept → Files → Files → Type 0
SavesUnder None kept before after = after ≡ before
SavesUnder (Some name) kept before after = SavesTo name kept before after

-- the files of these checks stand, if they left any: the lemmas aren't saved over one of them
abbrev pub StillStand : Option (List ℕ) → List Told → Files → Type 0
StillStand out told after = IfSome out (λ prefix. AllByRecursion (HasFiles prefix after) told)

-- The book of a told check is handed back, under its number. It is legal over the check's circuits, under the budgets that
-- were asked for, and shows what was found; where no output was found to differ it is swept.
pub record HasBook (how : How) (kept : List Kept) (t : Told) : Type 0 where
  pub book : Entries
  pub handed : Contains kept (record { check = t.number; book = book })
  pub sweep_budget : book.sweep_budget ≡ how.options.sweep_budget
  pub out_budget : book.out_budget ≡ how.options.out_budget
  pub legal : IsLegal t.net book
  pub shows : Finds t.net book.entries t.finding
  pub swept : ((j : ℕ) (input : List Bool) → t.finding ≢ Different j input) → IsSwept t.net book.entries

-- ---- EQUIVALENT

-- the bytes spell lines that refute the CNF, which has a model exactly if the circuits differ on some admitted input
pub record RefutesMiter (net : AigPair) (bytes : List ℕ) : Type 0 where
  pub lines : List Line
  pub spells : SpellsLrat (length (miter_of net)) bytes lines
  pub refutes : Refutes (miter_of net) lines
  pub exact : IsSatisfiable opposite_dim (miter_of net) ↔ Differ net

-- the circuits agree on every admitted input, and a proof that is left refutes that they differ
pub record AreEquivalent (out : Option (List ℕ)) (t : Told) : Type 0 where
  pub finding_is : t.finding ≡ Equivalent
  pub agree : Agree t.net
  pub says : t.said ≡ codes "EQUIVALENT\n"
  pub proof : IfSome out (λ prefix. RefutesMiter t.net t.proof)

-- ---- DIFFERENT

-- the output that is said differs on the input that is said, which is admitted, and a proof that is left is empty
pub record AreDifferent (out : Option (List ℕ)) (t : Told) : Type 0 where
  pub output : ℕ
  pub input : List Bool
  pub finding_is : t.finding ≡ Different output input
  pub differs : DiffersOn t.net output input
  pub says : t.said ≡ different_text output input
  pub proof : IfSome out (λ prefix. t.proof ≡ [])

-- ---- UNDECIDED

-- the log of a query of the output that spent its whole budget: the book has it in an entry that is good over the entries
-- before it, so it has as many proof steps as the budget has units, over the output's cone, one after the other, each with a
-- clause that unit propagation alone doesn't find
pub record SpendsBudget (net : AigPair) (book : Entries) (j : ℕ) (log : List Step) : Type 0 where
  pub before : List Entry
  pub behind : List Entry
  pub seen : ℕ
  pub there : book.entries ≡ before ++ OutSpent j seen log ∷ behind
  pub good : IsGood net (record book { entries = before }) (OutSpent j seen log)

-- the lines with the ids from the first to the last add the clauses of such a log, one after the other, by the miter's numbers
pub record HasLog (net : AigPair) (book : Entries) (lines : List Line) (s : Span) : Type 0 where
  pub log : List Step
  pub spends : SpendsBudget net book s.output log
  pub there : map clause_in (with_ids s.first s.last (map (λ line. line.step) lines)) ≡ log_clauses net log
  pub whole : s.last + 1 ≡ s.first + book.out_budget

-- the proof of UNDECIDED: it spells lines that derive from the CNF, which are the logs and what they, and the outputs that are
-- shown to be equal, rest on of the book's entries, and the logs stand where it is said
pub record LeavesDerivation (book : Entries) (opens : List ℕ) (t : Told) : Type 0 where
  pub lines : List Line
  pub spells : SpellsLrat (length (miter_of t.net)) t.proof lines
  pub derives : Derives (miter_of t.net) lines
  pub written : map (λ line. line.step) lines ≡ derivation_of t.net book.entries
  pub spans : List Span
  pub outputs : map (λ s. s.output) spans ≡ opens
  pub logs : All (HasLog t.net book lines) spans
  pub says : t.said ≡ open_text_with spans

abbrev pub SaysOpen : Option (List ℕ) → Entries → List ℕ → Told → Type 0
SaysOpen None book opens t = t.said ≡ open_text opens
SaysOpen (Some prefix) book opens t = LeavesDerivation book opens t

-- The outputs that are said are those of which the book that is handed back for the check has an OutSpent, in order, and
-- there are some: a query of each spent its whole budget. Of each other output the book has an Out, and it has one value in
-- both circuits on every admitted input.
pub record AreUndecided (how : How) (kept : List Kept) (t : Told) : Type 0 where
  pub finding_is : t.finding ≡ Undecided
  pub has : HasBook how kept t
  pub opens : List ℕ
  pub opens_are : opens ≡ filter (has_spent has.book.entries) (outputs_of t.net)
  pub some_open : opens ≢ []
  pub spent : (j : ℕ) → j < length t.net.a.outputs → has_spent has.book.entries j ≡ true
      → (log : List Step) × SpendsBudget t.net has.book j log
  pub shown : (j : ℕ) → j < length t.net.a.outputs → has_spent has.book.entries j ≡ false → has_out has.book.entries j ≡ true
  pub others : (j : ℕ) → j < length t.net.a.outputs → has_spent has.book.entries j ≡ false → AgreesOn t.net j
  pub says : SaysOpen how.out has.book opens t

-- ---- the checks of a run

-- whatever was found, what is said of the check is so
abbrev pub KeepsPromise : How → List Kept → Told → Type 0
KeepsPromise how kept t = AreEquivalent how.out t ⊎ AreDifferent how.out t ⊎ AreUndecided how kept t

-- the books that are handed back are those of the checks that left outputs open, and that of the last one, in the order of
-- the checks
pub record HandsBack (how : How) (kept : List Kept) (earlier : List Told) (last : Told) : Type 0 where
  pub numbers : map (λ k. k.check) kept ≡ map (λ t. t.number) (filter (λ t. is_undecided t.finding) earlier ++ last ∷ [])
  pub of_last : HasBook how kept last

-- The two named files spell circuits with equally many inputs and equally many outputs, and the net is their pair. Without
-- `--match names` the second circuit stands in it as it is. With it the names tell apart the inputs of either circuit, and its
-- outputs, and each input and output of the second one stands where the first one has its name; its gates and literals are as
-- the file has them.
pub record SpellPair (c : CheckCommand) (before : Files) (net : AigPair) : Type 0 where
  pub second : Aig
  pub spells_a : IsSomeAnd (before c.a) (λ bytes. SpellsAiger bytes net.a)
  pub spells_b : IsSomeAnd (before c.b) (λ bytes. SpellsAiger bytes second)
  pub matched : IsMatched c.by_name net.a second net.b
  pub inputs : length net.a.inputs ≡ length net.b.inputs
  pub outputs : length net.a.outputs ≡ length net.b.outputs

-- the lines of the script that the command names; without one there are none
abbrev pub IsScript : Option (List ℕ) → Files → List (List ℕ) → Type 0
IsScript None before lines = lines ≡ []
IsScript (Some name) before lines = IsSomeAnd (before name) (λ bytes. lines ≡ script_lines bytes)

-- the entries of the lemma file that the command names; without one there are none
abbrev pub AreLemmas : Option (List ℕ) → Files → Option (List Entry) → Type 0
AreLemmas None before lemmas = lemmas ≡ None
AreLemmas (Some name) before lemmas =
    IsSomeAnd (before name) (λ bytes. (entries : List Entry) × SpellsBook bytes entries × (lemmas ≡ Some entries))

-- what check 0 goes on from: the pair, and those of the entries that are good over it
pub record Loads (c : CheckCommand) (before : Files) (net : AigPair) (lemmas : Option (List Entry)) (from : Opening) : Type 0 where
  pub spelled : AreLemmas c.load before lemmas
  pub opens : IsOpening (how_of c).options net lemmas from

-- where the book of check 0 is handed back, it begins with what is kept of that one
abbrev pub BeginsOn : List Kept → Opening → Type 0
BeginsOn kept from = (n : Entries) → Contains kept (record { check = 0; book = n }) → StartsWith n (kept_lemmas from.net [] from.book)

-- the checks have the numbers from this one on
abbrev pub AreNumbered : ℕ → List Told → Type 0
AreNumbered number [] = Unit {0}
AreNumbered number (t ∷ ts) = (t.number ≡ number) × AreNumbered (number + 1) ts

-- A check goes on from the one before it: its circuits are that one's after the edits between. Where the books of both are
-- handed back, the later one begins with what is kept of the earlier one over these edits: its lemmas that two values are
-- equal, in order, each of which stands on no gate and no output that was edited.
pub record FollowsOn (kept : List Kept) (t u : Told) : Type 0 where
  pub net_is : u.net ≡ edited_all t.net u.edits
  pub begins : (m n : Entries) → Contains kept (record { check = t.number; book = m })
      → Contains kept (record { check = u.number; book = n }) → StartsWith n (kept_lemmas t.net u.edits m)

-- each check goes on from its neighbour
abbrev pub AreInRow : List Kept → List Told → Type 0
AreInRow kept [] = Unit {0}
AreInRow kept (t ∷ []) = Unit {0}
AreInRow kept (t ∷ u ∷ ts) = FollowsOn kept t u × AreInRow kept (u ∷ ts)

-- what was asked for where the check was told
abbrev pub due_of_told : Told → Due
due_of_told t = record { net = t.net; edits = t.edits }

-- The checks that were asked for were told, one after another, behind this text. What was said is that and what was said of each,
-- the files that are left are theirs, check 0 goes on from this opening and each other from the one before it, each earlier one
-- keeps the promise of what was said of it, and of the last one this holds.
pub record TellsChecks (c : CheckCommand) (kept : List Kept) (Holds : Told → Type 0) (from : Opening) (plan : Plan) (text : List ℕ)
    (before after : Files) (said : List ℕ) : Type 0 where
  pub earlier : List Told
  pub last : Told
  pub checks : map due_of_told (earlier ++ last ∷ []) ≡ plan.checks
  pub numbers : AreNumbered 0 (earlier ++ last ∷ [])
  pub says : said ≡ text ++ flat_map (λ t. t.said) (earlier ++ last ∷ [])
  pub files : LeavesBoth c.out c.witness (earlier ++ last ∷ []) before after
  pub begins : BeginsOn kept from
  pub in_row : AreInRow kept (earlier ++ last ∷ [])
  pub promises : AllByRecursion (KeepsPromise (how_of c) kept) earlier
  pub holds : Holds last
  pub books : HandsBack (how_of c) kept earlier last

-- The named files spell circuits that can be compared, and no line of the script is refused. Check 0 was told of these
-- circuits, and for each line `check` another one, of the circuits as all edits before that line leave them; and of the last
-- one this holds. Where a lemma file is named, check 0 goes on from those of its lemmas that are good, of which it was said before
-- how many there are; and where one is to be saved, it has those of the last check.
pub record OfFiles (c : CheckCommand) (kept : List Kept) (Holds : Told → Type 0) (before after : Files) (said : List ℕ) : Type 0 where
  pub net : AigPair
  pub pair : SpellPair c before net
  pub lines : List (List ℕ)
  pub script : IsScript c.edits before lines
  pub accepted : (plan_of net lines).refused ≡ None
  pub lemmas : Option (List Entry)
  pub from : Opening
  pub loads : Loads c before net lemmas from
  pub mid : Files
  pub told : TellsChecks c kept Holds from (plan_of net lines) (opening_text lemmas from) before mid said
  pub saved : SavesUnder c.save kept mid after
  pub stand : StillStand c.out (told.earlier ++ told.last ∷ []) after
  pub shown : StillShown c.witness (told.earlier ++ told.last ∷ []) before after

-- EQUIVALENT, DIFFERENT, UNDECIDED: the last check is of circuits of which that is so
abbrev pub IsEquivalent : CheckCommand → List Kept → Files → Files → List ℕ → Type 0
IsEquivalent c kept = OfFiles c kept (AreEquivalent c.out)

abbrev pub IsDifferent : CheckCommand → List Kept → Files → Files → List ℕ → Type 0
IsDifferent c kept = OfFiles c kept (AreDifferent c.out)

abbrev pub IsUndecided : CheckCommand → List Kept → Files → Files → List ℕ → Type 0
IsUndecided c kept = OfFiles c kept (AreUndecided (how_of c) kept)

-- ---- the same of two circuits that the program makes

-- check 0 is told, of the circuits that the generator's bytes spell, behind the lines that tell of them; no file is another,
-- and of the check this holds
pub record OfWorkload (c : SelfCommand) (kept : List Kept) (Holds : Told → Type 0) (before after : Files) (said : List ℕ) : Type 0 where
  pub check : Told
  pub number_is : check.number ≡ 0
  pub spells_a : SpellsAiger (first_bytes c.kind c.n) check.net.a
  pub spells_b : SpellsAiger (second_bytes c.kind c.n) check.net.b
  pub says : said ≡ workload_text c check.net ++ check.said
  pub files : after ≡ before
  pub holds : Holds check
  pub books : HandsBack own_how kept [] check

-- ---- VERIFIED

-- VERIFIED: the named files spell a formula and lines that refute it, so that no assignment meets it; no file is another
pub record IsVerified (c : LratCommand) (before after : Files) (said : List ℕ) : Type 0 where
  pub formula : Cnf
  pub lines : List Line
  pub spells_formula : IsSomeAnd (before c.cnf) (λ bytes. SpellsCnf bytes formula)
  pub spells_lines : IsSomeAnd (before c.proof) (λ bytes. SpellsLrat (length formula.clauses) bytes lines)
  pub refutes : Refutes formula.clauses lines
  pub unsatisfiable : ¬ IsSatisfiable opposite_dim formula.clauses
  pub says : said ≡ codes "VERIFIED\n"
  pub files : after ≡ before

-- ---- what a run shows

-- what a run left and said, from these files and from what had been said earlier; nothing was warned, but for statistics and lines
-- of progress where they are asked for, and no file is left started, if none was
pub record Left (stats progress : Bool) (Promise : Files → Files → List ℕ → Type 0) (old new : DeskState) (before : Files) (earlier : List ℕ) : Type 0 where
  pub after : Files
  pub said : List ℕ
  pub left : new.files ≡ Some after
  pub heard : new.said ≡ Some (earlier ++ said)
  pub quiet : WarnsOnly stats progress old new
  pub closed : old.started ≡ None → new.started ≡ None
  pub promise : Promise before after said

-- the promise is kept wherever the desk tells its files and what was said
abbrev pub Shows : Bool → Bool → (Files → Files → List ℕ → Type 0) → DeskState → DeskState → Type 0
Shows stats progress Promise old new =
    (before : Files) (earlier : List ℕ) → old.files ≡ Some before → old.said ≡ Some earlier → Left stats progress Promise old new before earlier
