-- Lemmas that are loaded before checks, and those that are saved behind them.
use Rattle.std.proofs.Common.{◌≡◌, ◌≢◌, ℕ, suc, ◌+◌, ◌-◌, ◌<◌, ◌^◌, inl, inr, true, List, [], ◌∷◌, ◌++◌, length, option_map, Option, Some, None, Ok, Err, refl, sym, ap, ap₂, ◌∙◌, subst, arith, append-nil}
use Rattle.std.specs.Prelude.{Result, IfSome, IsSomeAnd, codes, decimal, slice_get}
use Rattle.std.specs.Global.{Vec}
use Rattle.std.specs.List.{AllByRecursion}
use Rattle.std.specs.Option.{option_to_list}
use Rattle.std.specs.Str.{all_ascii_digits}
use Rattle.std.proofs.lemmas.Fmt.{decimal_nonempty, digits_decimal}
use Rattle.std.proofs.lemmas.Str.Parse.{numerals_by_value, tells_all_ascii_digits}
use Rattle.desk_port.specs.Desk.{DeskState, Files, after_read, after_say}
use Rattle.netlist.specs.Net.{AigPair}
use Rattle.endings.specs.Reading.{Input, AreRead, ReadsAs, ReadsUpTo}
use Rattle.endings.specs.Writing.{Output, Says, StopsAmong, after_files}
use Rattle.endings.specs.declared.stop.Stop.{Stop}
use Rattle.endings.specs.declared.stop.Stop.TheVariants.{OutOfMemory}
use Rattle.check_session.specs.Check.{State, Loads, opened}
use Rattle.lemma_book.specs.Entry.{Entries}
use Rattle.lemma_book.specs.declared.entry.Entry.{Entry}
use Rattle.book_file.specs.Reading.{SpellsBook}
use Rattle.check_session.specs.Files.{cnf_name, proof_name}
use Rattle.command_line.specs.Saved.{IsLeftUnder, are_digits}
use Rattle.command_line.specs.Words.{Asks, CheckCommand, CheckIt}
use Rattle.cec_top.specs.declared.kept.Kept.{Kept}
use Rattle.cec_top.specs.Headline.{AreLemmas, HasFiles, Loads as LoadsFrom, SavesUnder, StillShown, StillStand, Told}
use Rattle.cec_top.specs.Check.{Made, Opening, last_book, saved_file, saved_of}
use Rattle.cec_top.specs.Answers.{AreSpelled, AsksFor, IsOpening, ReadsLemmas, after_lemmas, after_opening, after_pair, after_script, at_start, how_of, lemmas_of, opening_text, script_of}
use Rattle.cec_top.specs.Inputs.{lemma_file}
use Rattle.cec_top.specs.Steps.{LoadsLemmas, SavesLemmas, opening_in}
use Rattle.cec_top.specs.Texts.{lemmas_line}
use Rattle.cec_top.proofs.HeadlineLemmas.{IsRead, reads-keep}
use Rattle.cec_top.proofs.ToldLemmas.{tolds}
use Rattle.cec_top.proofs.WrittenLemmas.{put-other, put-there, with_saved}

-- ---- the desk as checks begin

-- what reading and saying leave
pub record IsStarted (old new : DeskState) (text : List ℕ) : Type 0 where
  pub files : new.files ≡ old.files
  pub said : (earlier : List ℕ) → old.said ≡ Some earlier → new.said ≡ Some (earlier ++ text)
  pub warned : new.warned ≡ old.warned
  pub started : new.started ≡ old.started
  pub reads : new.read_faults ≡ old.read_faults
  pub writes : new.write_faults ≡ old.write_faults
  pub warns : new.warn_faults ≡ old.warn_faults

pub lemmas-keep : (c : CheckCommand) (old : DeskState) → IsRead old (after_lemmas c old)
lemmas-keep c old =
    let k = reads-keep (script_of c) (after_pair c old) in
    let l = reads-keep (lemmas_of c.load) (after_script c old) in
    record {
      files = l.files ∙ k.files;
      said = l.said ∙ k.said;
      warned = l.warned ∙ k.warned;
      started = l.started ∙ k.started;
      reads = l.reads ∙ k.reads;
      writes = l.writes ∙ k.writes;
      warns = l.warns ∙ k.warns;
    }

opened-keep : (lemmas : Option (List Entry)) (from : Opening) (old mid : DeskState) → IsRead old mid
    → IsStarted old (after_opening lemmas from mid) (opening_text lemmas from)
opened-keep None from old mid k = record {
  files = k.files;
  said = λ earlier heard. k.said ∙ heard ∙ ap (λ (x : List ℕ). Some x) (sym (append-nil earlier));
  warned = k.warned;
  started = k.started;
  reads = k.reads;
  writes = k.writes;
  warns = k.warns;
}
opened-keep (Some entries) from old mid k = record {
  files = k.files;
  said = λ earlier heard. ap (option_map (λ x. x ++ opening_text (Some entries) from)) (k.said ∙ heard);
  warned = k.warned;
  started = k.started;
  reads = k.reads;
  writes = k.writes;
  warns = k.warns;
}

pub start-keeps : (c : CheckCommand) (old : DeskState) (lemmas : Option (List Entry)) (from : Opening)
    → IsStarted old (at_start c old lemmas from) (opening_text lemmas from)
start-keeps c old lemmas from = opened-keep lemmas from old (after_lemmas c old) (lemmas-keep c old)

-- ---- the lemma file

pub lemmas-spell : (s : DeskState) (files : Files) → s.files ≡ Some files → (load : Option (List ℕ)) (lemmas : Option (List Entry))
    → ReadsLemmas load s lemmas → AreLemmas load files lemmas
lemmas-spell s files told load lemmas r = go load r.files (r.read []) r.spelled
  where
    go : (l : Option (List ℕ)) (bytes : List (List ℕ)) → AreRead s [] (lemmas_of l) bytes → AreSpelled bytes lemmas → AreLemmas l files lemmas
    go None [] read spelled = spelled
    go None (x ∷ xs) read spelled = absurd read
    go (Some name) [] read spelled = absurd read
    go (Some name) (bytes ∷ []) read spelled =
        let there : files name ≡ Some bytes = subst (λ (o : Option Files). IfSome o (λ f. f name ≡ Some bytes)) told read.0.0 in
        subst (λ (o : Option (List ℕ)). IsSomeAnd o (λ b. (entries : List Entry) × SpellsBook b entries × (lemmas ≡ Some entries)))
        (sym there) spelled
    go (Some name) (bytes ∷ more ∷ rest) read spelled = absurd read.2

-- of a command
pub loads-are : (c : CheckCommand) (old : DeskState) (files : Files) → old.files ≡ Some files → (net : AigPair) (lines : List (List ℕ))
    (lemmas : Option (List Entry)) → AsksFor c old net lines lemmas → (from : Opening) → IsOpening (how_of c).options net lemmas from
    → LoadsFrom c files net lemmas from
loads-are c old files told net lines lemmas asks from opens = record {
  spelled = lemmas-spell (after_script c old) files ((reads-keep (script_of c) (after_pair c old)).files ∙ told) c.load lemmas asks.loads;
  opens = opens;
}

-- it is read behind other files, or it isn't
pub more-reads : (k : ℕ) (earlier : List (List ℕ)) (is js : List Input) (old new : DeskState) (stop : Stop) → ReadsUpTo k earlier is old new stop
    → ReadsUpTo k earlier (is ++ js) old new stop
more-reads k earlier [] js old new stop p = absurd p
more-reads k earlier (i ∷ is) js old new stop (inl p) = inl p
more-reads k earlier (i ∷ is) js old new stop (inr p) =
    inr (p.0, p.1, p.2, more-reads (k + 1) (earlier ++ p.0 ∷ []) is js (after_read old i.name) new stop p.3)

-- ---- what is saved

-- the file that is saved
pub saved-is : (name : List ℕ) (kept : List Kept) (book : Entries) → last_book kept ≡ Some book
    → saved_of (Some name) kept ≡ saved_file name book ∷ []
saved-is name kept book is = ap (λ (o : Option Entries). option_to_list (option_map (saved_file name) o)) is

pub saves-under : (save : Option (List ℕ)) (kept : List Kept) (book : Entries) → last_book kept ≡ Some book → (before : Files)
    → SavesUnder save kept before (with_saved (saved_of save kept) before)
saves-under None kept book is before = refl
saves-under (Some name) kept book is before =
    subst (λ (os : List Output). SavesUnder (Some name) kept before (with_saved os before)) (sym (saved-is name kept book is)) (record {
      book = book;
      book_is = is;
      there = put-there name (saved_file name book).bytes before;
      others = λ q other. put-other name (saved_file name book).bytes q before other;
    })

-- the lemmas and the witness are none of the files of checks, nor one file
pub record IsApart (c : CheckCommand) : Type 0 where
  pub save : (prefix name : List ℕ) → c.out ≡ Some prefix → c.save ≡ Some name → ¬ IsLeftUnder prefix name
  pub witness : (prefix name : List ℕ) → c.out ≡ Some prefix → c.witness ≡ Some name → ¬ IsLeftUnder prefix name
  pub beside : (name lemmas : List ℕ) → c.witness ≡ Some name → c.save ≡ Some lemmas → name ≢ lemmas

-- where the command is asked for
pub apart : (words : List (List ℕ)) (c : CheckCommand) → Asks words (CheckIt c)
    → ((words : List (List ℕ)) (c : CheckCommand) (prefix name : List ℕ) → Asks words (CheckIt c) → c.out ≡ Some prefix → c.save ≡ Some name
    → ¬ IsLeftUnder prefix name)
    → ((words : List (List ℕ)) (c : CheckCommand) (prefix name : List ℕ) → Asks words (CheckIt c) → c.out ≡ Some prefix → c.witness ≡ Some name
    → ¬ IsLeftUnder prefix name)
    → ((words : List (List ℕ)) (c : CheckCommand) (name lemmas : List ℕ) → Asks words (CheckIt c) → c.witness ≡ Some name → c.save ≡ Some lemmas
    → name ≢ lemmas)
    → IsApart c
apart words c asks save witness beside = record {
  save = λ prefix name. save words c prefix name asks;
  witness = λ prefix name. witness words c prefix name asks;
  beside = λ name lemmas. beside words c name lemmas asks;
}

digits-are : (k : ℕ) → k < 2 ^ 64 → are_digits (decimal k) ≡ true
digits-are k small = go (decimal k) (digits_decimal (numerals_by_value (λ ds. all_ascii_digits ds ≡ true) tells_all_ascii_digits) k small) (decimal_nonempty k small)
  where
    go : (ds : List ℕ) → all_ascii_digits ds ≡ true → 0 < length ds → are_digits ds ≡ true
    go [] all some = absurd (omega (arith, some))
    go (d ∷ ds) all some = all

pub cnf-left : (prefix : List ℕ) (k : ℕ) → k < 2 ^ 64 → IsLeftUnder prefix (cnf_name prefix k)
cnf-left prefix k small = record {
  digits = decimal k;
  are = digits-are k small;
  ending = codes ".cnf";
  ends = inl refl;
  name_is = refl;
}

pub proof-left : (prefix : List ℕ) (k : ℕ) → k < 2 ^ 64 → IsLeftUnder prefix (proof_name prefix k)
proof-left prefix k small = record {
  digits = decimal k;
  are = digits-are k small;
  ending = codes ".lrat";
  ends = inr refl;
  name_is = refl;
}

-- so files that stood stand
module _ (c : CheckCommand) (apart : IsApart c) (prefix : List ℕ) (out : c.out ≡ Some prefix) (before after : Files)
    (same : (q : List ℕ) → ((name : List ℕ) → c.save ≡ Some name → q ≢ name) → after q ≡ before q) where
  pub still : (number : ℕ) (ms : List Made) → number + length ms < 2 ^ 64 → AllByRecursion (HasFiles prefix before) (tolds (Some prefix) number ms)
      → AllByRecursion (HasFiles prefix after) (tolds (Some prefix) number ms)
  still number [] small each = tt
  still number (m ∷ ms) small each =
      let below : number < 2 ^ 64 = omega (arith, small) in (
        (
          same (cnf_name prefix number)
              (λ name save e. apart.save prefix name out save (subst (IsLeftUnder prefix) e (cnf-left prefix number below))) ∙ each.0.0,
          same (proof_name prefix number)
              (λ name save e. apart.save prefix name out save (subst (IsLeftUnder prefix) e (proof-left prefix number below))) ∙ each.0.1,
        ),
        still (number + 1) ms (omega (arith, small)) each.1,
      )

-- where they are saved whole
pub with-other : (save : Option (List ℕ)) (kept : List Kept) (book : Entries) → last_book kept ≡ Some book → (before : Files) (q : List ℕ)
    → ((name : List ℕ) → save ≡ Some name → q ≢ name) → with_saved (saved_of save kept) before q ≡ before q
with-other None kept book is before q other = refl
with-other (Some name) kept book is before q other =
    subst (λ (os : List Output). with_saved os before q ≡ before q) (sym (saved-is name kept book is))
    (put-other name (saved_file name book).bytes q before (other name refl))

pub still-saved : (c : CheckCommand) → IsApart c → (kept : List Kept) (book : Entries) → last_book kept ≡ Some book → (ms : List Made) (before : Files)
    → length ms < 2 ^ 64 → StillStand c.out (tolds c.out 0 ms) before
    → StillStand c.out (tolds c.out 0 ms) (with_saved (saved_of c.save kept) before)
still-saved c apart kept book is ms before small each = go c.out refl each
  where
    go : (o : Option (List ℕ)) → c.out ≡ o → StillStand o (tolds o 0 ms) before → StillStand o (tolds o 0 ms) (with_saved (saved_of c.save kept) before)
    go None out each = tt
    go (Some prefix) out each =
        still c apart prefix out before (with_saved (saved_of c.save kept) before) (with-other c.save kept book is before) 0 ms (omega (arith, small)) each

-- and the witness stands
pub still-shown : (c : CheckCommand) → IsApart c → (kept : List Kept) (book : Entries) → last_book kept ≡ Some book → (ts : List Told) (before mid : Files)
    → StillShown c.witness ts before mid → StillShown c.witness ts before (with_saved (saved_of c.save kept) mid)
still-shown c apart kept book is ts before mid shown = go c.witness refl shown
  where
    go : (w : Option (List ℕ)) → c.witness ≡ w → StillShown w ts before mid → StillShown w ts before (with_saved (saved_of c.save kept) mid)
    go None none shown = tt
    go (Some name) named shown = with-other c.save kept book is mid name (λ lemmas save. apart.beside name lemmas named save) ∙ shown

-- ---- the session goes on from lemmas

-- a session that was just opened
module _ (s : State) (fresh : s ≡ opened s.net s.options) where
  -- goes on from nothing, where no lemma file is named
  pub loads-none : (k : ℕ) (old : DeskState) → LoadsLemmas None k s s old old (Ok tt)
  loads-none k old = record {
    lemmas = None;
    reads = record { files = []; read = λ earlier. tt; spelled = refl };
    opens = ap opening_in fresh;
    session = refl;
    new_is = refl;
  }

  module _ (name : List ℕ) (k : ℕ) (old mid : DeskState) where
    -- the file isn't read as entries
    pub loads-err : (t : State) (stop : Stop)
        → ((earlier : List (List ℕ)) → ReadsAs {A = Vec Entry} (λ bytes v. SpellsBook bytes v.items) k (lemma_file name) earlier old mid (Err stop))
        → LoadsLemmas (Some name) k s t old mid (Err stop)
    loads-err t stop p = inl (λ earlier. inl (p earlier))

    module _ (entries : Vec Entry)
        (read : (earlier : List (List ℕ)) → ReadsAs (λ bytes v. SpellsBook bytes v.items) k (lemma_file name) earlier old mid (Ok entries)) where
      reads : ReadsLemmas (Some name) old (Some entries.items)
      reads =
          let x = read [] in
          record { files = x.0.0 ∷ []; read = λ earlier. (x.0.1, x.0.2, tt); spelled = (entries.items, x.0.3, refl) }

      -- memory runs out for them
      pub loads-out : (t : State) → LoadsLemmas (Some name) k s t old mid (Err OutOfMemory)
      loads-out t = inr (record { entries = entries.items; reads = reads; stops = inl (refl, (read []).1) })

      -- or they are judged, and it is said how many are taken
      module _ (t : State) (taken given : ℕ) (loads : Loads entries.items s t taken) (given_is : given ≡ length entries.items) (new : DeskState) where
        opens : IsOpening s.options s.net (Some entries.items) (opening_in t)
        opens = (ap (λ (x : State). x.last) loads.else_opened, loads.loaded)

        text : lemmas_line taken given ≡ opening_text (Some entries.items) (opening_in t)
        text = ap₂ lemmas_line loads.count given_is

        pub loads-said : (r : Result (Unit {0}) Stop) → Says (lemmas_line taken given) mid new r → LoadsLemmas (Some name) k s t old new r
        loads-said (Ok u) says = record {
          lemmas = Some entries.items;
          reads = reads;
          opens = opens;
          session = loads.else_opened ∙ ap (λ (x : State). record x { book = t.book }) (sym fresh);
          new_is = says ∙ ap₂ after_say (read []).1 text;
        }
        loads-said (Err stop) says = inr (record {
          entries = entries.items;
          reads = reads;
          stops = inr (
            opening_in t,
            opens,
            subst (λ (d : DeskState). Says (opening_text (Some entries.items) (opening_in t)) d new (Err stop)) (read []).1
                (subst (λ (line : List ℕ). Says line mid new (Err stop)) text says),
          );
        })

-- ---- the last book

pub last-got : (ks : List Kept) → last_book ks ≡ option_map (λ (k : Kept). k.book) (slice_get ks (length ks - 1))
last-got [] = refl
last-got (k ∷ []) = refl
last-got (k ∷ l ∷ ls) =
    let count : length (k ∷ l ∷ ls) - 1 ≡ suc (length (l ∷ ls) - 1) = omega arith in
    last-got (l ∷ ls) ∙ ap (λ (n : ℕ). option_map (λ (j : Kept). j.book) (slice_get (k ∷ l ∷ ls) n)) (sym count)

-- one is saved
pub saves-last : (name : List ℕ) (kept : List Kept) (k : Kept) (old new : DeskState) (r : Result (Unit {0}) Stop) → last_book kept ≡ Some k.book
    → SavesLemmas (Some name) (record { check = 0; book = k.book } ∷ []) old new r → SavesLemmas (Some name) kept old new r
saves-last name kept k old new (Ok u) is saves =
    saves ∙ ap (λ (o : Option Entries). after_files old (option_to_list (option_map (saved_file name) o))) (sym is)
saves-last name kept k old new (Err stop) is saves =
    subst (λ (o : Option Entries). StopsAmong (option_to_list (option_map (saved_file name) o)) old new stop) (sym is) saves
