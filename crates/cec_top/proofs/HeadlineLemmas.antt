-- What a verdict promises of the files, from what the desk holds once checks were told.
use Rattle.std.proofs.Common.{◌≡◌, ◌≢◌, ℕ, ◌<◌, ◌≤◌, inl, inr, Bool, List, [], ◌∷◌, ◌++◌, length, option_map, Option, Some, None, refl, sym, ap, ◌∙◌, subst, arith, append-nil}
use Rattle.std.specs.Prelude.{Contains, map, IfSome, IsSomeAnd}
use Rattle.std.specs.List.{flat_map}
use Rattle.std.specs.Option.{option_to_list}
use Rattle.desk_port.specs.Desk.{Files, DeskState, after_read}
use Rattle.netlist.specs.Circuit.{Aig}
use Rattle.netlist.specs.Net.{AigPair}
use Rattle.netlist.proofs.Facts.{matched-counts}
use Rattle.netlist_edits.specs.Script.{script_lines}
use Rattle.aiger_file.specs.File.{SpellsAiger}
use Rattle.lemma_book.specs.declared.entry.Entry.{Entry}
use Rattle.sig_classes.specs.Leader.{IsSwept}
use Rattle.check_session.specs.Finding.{Finding, Equivalent, Different, Undecided}
use Rattle.check_session.specs.Check.{IsSweptFor}
use Rattle.command_line.specs.Words.{CheckCommand}
use Rattle.endings.specs.declared.status.Status.{Status}
use Rattle.endings.specs.Status.{code_of}
use Rattle.endings.specs.declared.stop.Stop.{Stop}
use Rattle.endings.specs.declared.stop.Stop.TheVariants.{CannotRead, TooLong, BadFile, NotAlike, CannotWrite, OutOfMemory}
use Rattle.endings.specs.Stops.{EndsBy, Warns, status_of, stop_line}
use Rattle.endings.specs.Reading.{Input, AreRead, FileIs, after_reads, limit}
use Rattle.cec_top.specs.declared.kept.Kept.{Kept}
use Rattle.cec_top.specs.Headline.{SpellPair, IsScript, HasBook, HandsBack}
use Rattle.cec_top.specs.Check.{How, Made, IsMade, kept_from, kept_of}
use Rattle.cec_top.specs.Answers.{AreAlike, AsksFor, after_pair}
use Rattle.cec_top.specs.Inputs.{script_file}
use Rattle.cec_top.proofs.PlanLemmas.{script-count}
use Rattle.cec_top.proofs.ToldLemmas.{told_of, tolds}
use Rattle.cec_top.proofs.KeptLemmas.{has-last, kept-numbers}

-- the named file spells the circuit
abbrev pub FileSpells : Files → List ℕ → Aig → Type 0
FileSpells files name c = IsSomeAnd (files name) (λ bytes. SpellsAiger bytes c)

-- ---- a status without a verdict

stop-code : (stop : Stop) → 3 < code_of (status_of stop)
stop-code (CannotRead file) = omega arith
stop-code (TooLong file) = omega arith
stop-code (BadFile file text) = omega arith
stop-code (NotAlike text) = omega arith
stop-code CannotWrite = omega arith
stop-code OutOfMemory = omega arith

-- an end without a verdict has a status above those of verdicts
pub ends-code : (names : List (List ℕ)) (Cause : DeskState → Stop → Type 0) (new : DeskState) (status : Status)
    → EndsBy names Cause new status → 3 < code_of status
ends-code names Cause new status p = go p.warns
  where
    go : Warns (stop_line names p.stop) (status_of p.stop) p.mid new status → 3 < code_of status
    go (inl w) = subst (λ (s : Status). 3 < code_of s) (sym w.0) (stop-code p.stop)
    go (inr w) = subst (λ (s : Status). 3 < code_of s) (sym w.0) (omega arith)

-- ---- the pair

pub file-spells : (s : DeskState) (files : Files) → s.files ≡ Some files → (name bytes : List ℕ) (c : Aig) → FileIs s name bytes → SpellsAiger bytes c
    → FileSpells files name c
file-spells s files told name bytes c is spells =
    let there : files name ≡ Some bytes = subst (λ (o : Option Files). IfSome o (λ f. f name ≡ Some bytes)) told is.0 in
    subst (λ (o : Option (List ℕ)). IsSomeAnd o (λ b. SpellsAiger b c)) (sym there) spells

pub spells-pair : (c : CheckCommand) (s : DeskState) (files : Files) → s.files ≡ Some files → (net : AigPair) → AreAlike c s net
    → SpellPair c files net
spells-pair c s files told net pair =
    let counts = matched-counts net.a pair.second c.by_name net.b pair.matched pair.alike in
    record {
      second = pair.second;
      spells_a = file-spells s files told c.a pair.reads.a net.a pair.reads.read.0 pair.reads.spells_a;
      spells_b = file-spells s files told c.b pair.reads.b pair.second pair.reads.read.2.0 pair.reads.spells_b;
      matched = pair.matched;
      inputs = counts.0;
      outputs = counts.1;
    }

-- ---- the script

script-spells : (s : DeskState) (files : Files) → s.files ≡ Some files → (earlier : List (List ℕ)) (name : Option (List ℕ))
    (scripts lines : List (List ℕ)) → AreRead s earlier (option_to_list (option_map script_file name)) scripts
    → lines ≡ flat_map script_lines scripts → IsScript name files lines × (length lines ≤ limit)
script-spells s files told earlier None [] lines read is = (is, omega (arith, ap (λ (ls : List (List ℕ)). length ls) is))
script-spells s files told earlier None (bytes ∷ rest) lines read is = absurd read
script-spells s files told earlier (Some name) [] lines read is = absurd read
script-spells s files told earlier (Some name) (bytes ∷ []) lines read is =
    let there : files name ≡ Some bytes = subst (λ (o : Option Files). IfSome o (λ f. f name ≡ Some bytes)) told read.0.0 in
    let same : lines ≡ script_lines bytes = is ∙ append-nil (script_lines bytes) in (
      subst (λ (o : Option (List ℕ)). IsSomeAnd o (λ b. lines ≡ script_lines b)) (sym there) same,
      omega (arith, ap (λ (ls : List (List ℕ)). length ls) same, script-count bytes, read.0.1),
    )
script-spells s files told earlier (Some name) (bytes ∷ more ∷ rest) lines read is = absurd read.2

-- the script is as long as a file that is read may be
script-within : (s : DeskState) (files : Files) → s.files ≡ Some files → (earlier : List (List ℕ)) (name : List ℕ) (scripts : List (List ℕ))
    → AreRead s earlier (script_file name ∷ []) scripts → IsSomeAnd (files name) (λ bytes. length bytes ≤ limit)
script-within s files told earlier name [] read = absurd read
script-within s files told earlier name (bytes ∷ rest) read =
    let there : files name ≡ Some bytes = subst (λ (o : Option Files). IfSome o (λ f. f name ≡ Some bytes)) told read.0.0 in
    subst (λ (o : Option (List ℕ)). IsSomeAnd o (λ b. length b ≤ limit)) (sym there) read.0.1

-- what reading leaves as it was
pub record IsRead (old new : DeskState) : Type 0 where
  pub files : new.files ≡ old.files
  pub said : new.said ≡ old.said
  pub warned : new.warned ≡ old.warned
  pub started : new.started ≡ old.started
  pub reads : new.read_faults ≡ old.read_faults
  pub writes : new.write_faults ≡ old.write_faults
  pub warns : new.warn_faults ≡ old.warn_faults

pub reads-keep : (is : List Input) (s : DeskState) → IsRead s (after_reads s is)
reads-keep [] s = record { files = refl; said = refl; warned = refl; started = refl; reads = refl; writes = refl; warns = refl }
reads-keep (i ∷ is) s =
    let k = reads-keep is (after_read s i.name) in
    record { files = k.files; said = k.said; warned = k.warned; started = k.started; reads = k.reads; writes = k.writes; warns = k.warns }

pub spells-script : (c : CheckCommand) (s : DeskState) (files : Files) → s.files ≡ Some files → (net : AigPair) (lines : List (List ℕ))
    (lemmas : Option (List Entry)) → AsksFor c s net lines lemmas → IsScript c.edits files lines × (length lines ≤ limit)
spells-script c s files told net lines lemmas asks =
    script-spells (after_pair c s) files told _ c.edits asks.script.scripts lines asks.script.read asks.script.lines_are

pub within-script : (c : CheckCommand) (s : DeskState) (files : Files) → s.files ≡ Some files → (net : AigPair) (lines : List (List ℕ))
    (lemmas : Option (List Entry)) → AsksFor c s net lines lemmas → (name : List ℕ) → c.edits ≡ Some name → IsSomeAnd (files name) (λ bytes. length bytes ≤ limit)
within-script c s files told net lines lemmas asks name is =
    let earlier : List (List ℕ) = asks.pair.reads.a ∷ asks.pair.reads.b ∷ [] in
    script-within (after_pair c s) files told earlier name asks.script.scripts
    (subst (λ (e : Option (List ℕ)). AreRead (after_pair c s) earlier (option_to_list (option_map script_file e)) asks.script.scripts) is
    asks.script.read)

-- ---- the book that is handed back

-- a book in which no output differs is swept
pub swept-open : (net : AigPair) (entries : List Entry) (f : Finding) → IsSweptFor net entries f
    → ((j : ℕ) (input : List Bool) → f ≢ Different j input) → IsSwept net entries
swept-open net entries Equivalent swept other = swept
swept-open net entries (Different j input) swept other = absurd (other j input refl)
swept-open net entries Undecided swept other = swept

-- a check's book that is handed back
abbrev pub has-book : (how : How) (number : ℕ) (m : Made) → IsMade how m → (kept : List Kept) → Contains kept (kept_of number m)
    → HasBook how kept (told_of how.out number m)
has-book how number m made kept handed = record {
  book = m.book;
  handed = handed;
  sweep_budget = made.settled.sweep_is;
  out_budget = made.settled.budget_is;
  legal = made.settled.legal;
  shows = made.settled.finds;
  swept = swept-open m.net m.book.entries m.finding made.settled.swept;
}

-- the books that are handed back
pub hands-back : (how : How) (ms : List Made) (last : Made) → IsMade how last → (kept : List Kept) → kept ≡ kept_from 0 (ms ++ last ∷ [])
    → HandsBack how kept (tolds how.out 0 ms) (told_of how.out (length ms) last)
hands-back how ms last made kept keeps = record {
  numbers = ap (map (λ (k : Kept). k.check)) keeps ∙ kept-numbers how.out ms last;
  of_last = has-book how (length ms) last made kept
      (subst (λ (ks : List Kept). Contains ks (kept_of (length ms) last)) (sym keeps) (has-last ms last));
}
