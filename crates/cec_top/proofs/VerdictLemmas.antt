-- What each verdict promises, from what the program answers.
use Rattle.std.proofs.Common.{◌≡◌, ℕ, suc, zero, ◌+◌, ◌<◌, ◌≤◌, ◌^◌, lit<, append-nil, inl, inr, Bool, true, false, List, [], ◌∷◌, ◌++◌, length, map, filter, option_map, Option, Some, None, refl, sym, ap, ◌∙◌, subst, arith, append_assoc}
use Rattle.std.specs.Prelude.{slice_index_or, All, Contains, IfSome}
use Rattle.std.specs.List.{AllByRecursion, find, flat_map}
use Rattle.std.proofs.lemmas.List.{length-map}
use Rattle.std.proofs.lemmas.Option.{none-some, same_Some}
use Rattle.desk_port.specs.Desk.{DeskState, Files, after_say}
use Rattle.netlist_edits.specs.declared.edit.Edit.{Edit}
use Rattle.endings.specs.Reading.{limit}
use Rattle.netlist.specs.Net.{AigPair}
use Rattle.unit_prop.specs.Log.{InTurn}
use Rattle.lemma_book.specs.declared.entry.Entry.{Entry}
use Rattle.lemma_book.specs.declared.entry.Entry.TheVariants.{Merge, Apart, Spent, Out, OutApart, OutSpent}
use Rattle.lemma_book.specs.declared.entry.Subject.TheVariants.{Output}
use Rattle.lemma_book.specs.Entry.{Entries, is_on, about, has_spent, outputs_of}
use Rattle.lemma_book.specs.Good.{IsGood, Count}
use Rattle.lemma_book.specs.Book.{IsLegal}
use Rattle.check_session.proofs.Facts.{about-subject}
use Rattle.lrat_text.specs.declared.step.Line.{Line}
use Rattle.lrat_text.specs.declared.step.LratStep.{LratStep}
use Rattle.lrat_text.specs.Writing.{numbered}
use Rattle.proof_stitch.specs.declared.logs.Span.{Span}
use Rattle.proof_stitch.specs.Stitch.{refutation_of}
use Rattle.proof_stitch.specs.Derivation.{AreSpans, clause_in, derivation_of, spans_of, spent_log, with_ids}
use Rattle.command_line.specs.Words.{CheckCommand}
use Rattle.endings.specs.declared.status.Status.{Status}
use Rattle.endings.specs.Status.{code_of}
use Rattle.endings.specs.Writing.{after_files}
use Rattle.cec_top.specs.declared.kept.Kept.{Kept}
use Rattle.cec_top.specs.Headline.{StillShown, LeavesBoth, Told, StillStand, OfFiles, IsEquivalent, IsDifferent, IsUndecided, AreEquivalent, AreDifferent, AreUndecided, RefutesMiter, SaysOpen, SpendsBudget, HasLog, KeepsPromise, LeavesUnder, AreNumbered, AreInRow, TellsChecks, Shows, due_of_told}
use Rattle.check_session.specs.Finding.{Finding, Equivalent, Different, Undecided, open_outputs}
use Rattle.check_session.specs.Files.{proof_bytes}
use Rattle.cec_top.specs.Script.{Due, Plan, asked_from, due_behind, plan_of}
use Rattle.cec_top.specs.Check.{How, Made, Opening, IsMade, AreTold, Ends, GoesOn, due_of, is_undecided, status_of_finding, left_of, lines_of, text_of_check, last_book, last_finding, kept_of, kept_from, saved_of}
use Rattle.cec_top.specs.Answers.{EndsCheck, AnswersCheck, how_of, at_start, opening_text}
use Rattle.cec_top.specs.Progress.{WarnsProgress}
use Rattle.cec_top.specs.Stats.{Reports}
use Rattle.cec_top.proofs.HeadlineLemmas.{ends-code, spells-pair, spells-script, has-book, hands-back}
use Rattle.cec_top.proofs.SavingLemmas.{IsApart, loads-are, saves-under, start-keeps, still-saved, still-shown}
use Rattle.cec_top.proofs.WitnessLemmas.{IsOutside, leaves-all, shown-same, still-beside, witness-there}
use Rattle.cec_top.proofs.WrittenLemmas.{files-saved, with_saved}
use Rattle.cec_top.proofs.WarnedLemmas.{warns-none, warns-then}
use Rattle.cec_top.proofs.ToldLemmas.{IsLeft, all-left, leaves-under, left_all, left-whole, shown_all, told_of, tolds, tolds-due, tolds-last, tolds-numbered}
use Rattle.cec_top.proofs.KeptLemmas.{HasOpen, IsOf, begins-on, has-last, has-open, in-row, kept-of, last-kept}
use Rattle.cec_top.proofs.PlanLemmas.{AreChained, plan-chained, plan-count}
use Rattle.cec_top.proofs.RunLemmas.{finding-last}

head-equal : (x y : Due) (xs ys : List Due) → (x ∷ xs) ≡ (y ∷ ys) → x ≡ y
head-equal x y xs ys e = ap (head_or x) e
  where
    head_or : Due → List Due → Due
    head_or d [] = d
    head_or d (z ∷ zs) = z

-- the steps of numbered lines are those
steps-numbered : (k : ℕ) (steps : List LratStep) → map (λ (line : Line). line.step) (numbered k steps) ≡ steps
steps-numbered k [] = refl
steps-numbered k (step ∷ steps) = ap (λ (ls : List LratStep). step ∷ ls) (steps-numbered (k + 1) steps)

-- ---- the logs of open outputs

-- the entry stands in the book, and is good over those before it
record StandsIn (net : AigPair) (book : Entries) (e : Entry) : Type 0 where
  before : List Entry
  behind : List Entry
  there : book.entries ≡ before ++ e ∷ behind
  good : IsGood net (record book { entries = before }) e

-- what is found among good entries does
found-good : (net : AigPair) (sweep out : ℕ) (p : Entry → Bool) (before es : List Entry) (e : Entry)
    → InTurn (λ earlier x. IsGood net (record { sweep_budget = sweep; out_budget = out; entries = earlier }) x) before es
    → find p es ≡ Some e → StandsIn net (record { sweep_budget = sweep; out_budget = out; entries = before ++ es }) e
found-good net sweep out p before [] e turn found = absurd (none-some e found)
found-good net sweep out p before (x ∷ xs) e turn found =
    go (p x) refl found (found-good net sweep out p (before ++ x ∷ []) xs e turn.1)
  where
    go : (b : Bool) → p x ≡ b → find p (x ∷ xs) ≡ Some e
        → (find p xs ≡ Some e → StandsIn net (record { sweep_budget = sweep; out_budget = out; entries = (before ++ x ∷ []) ++ xs }) e)
        → StandsIn net (record { sweep_budget = sweep; out_budget = out; entries = before ++ x ∷ xs }) e
    go true is f rest =
        let same : x ≡ e = same_Some x e (rw is at f) in
        record {
          before = before;
          behind = xs;
          there = ap (λ (y : Entry). before ++ y ∷ xs) same;
          good = subst (λ (y : Entry). IsGood net (record { sweep_budget = sweep; out_budget = out; entries = before }) y) same turn.0;
        }
    go false is f rest =
        let at = rest (rw is at f) in
        record {
          before = at.before;
          behind = at.behind;
          there = sym (append_assoc before (x ∷ []) xs) ∙ at.there;
          good = at.good;
        }

module _ (net : AigPair) (book : Entries) (legal : IsLegal net book) where
  -- an open output's log spends the whole budget
  pub spends-log : (j : ℕ) → has_spent book.entries j ≡ true → SpendsBudget net book j (spent_log book.entries j)
  spends-log j has = go (about book.entries j) refl
    where
      go : (o : Option Entry) → about book.entries j ≡ o → SpendsBudget net book j (spent_log book.entries j)
      go None is = let t : false ≡ true = rw is at has in cc
      go (Some (Merge node lit steps)) is = let t : false ≡ true = rw is at has in cc
      go (Some (Apart node lit input)) is = let t : false ≡ true = rw is at has in cc
      go (Some (Spent node lit seen log)) is = let t : false ≡ true = rw is at has in cc
      go (Some (Out k steps)) is = let t : false ≡ true = rw is at has in cc
      go (Some (OutApart k input)) is = let t : false ≡ true = rw is at has in cc
      go (Some (OutSpent k seen log)) is =
          let found = found-good net book.sweep_budget book.out_budget (is_on (Output j)) [] book.entries (OutSpent k seen log) legal is in
          let subject : Some (Output k) ≡ Some (Output j) = about-subject book.entries j (OutSpent k seen log) is in
          let number : k ≡ j = cc in
          rw is (record {
            before = found.before;
            behind = found.behind;
            seen = seen;
            there = subst (λ (i : ℕ). book.entries ≡ found.before ++ OutSpent i seen log ∷ found.behind) number found.there;
            good = subst (λ (i : ℕ). IsGood net (record book { entries = found.before }) (OutSpent i seen log)) number found.good;
          })

  filter-passes : (p : ℕ → Bool) (xs : List ℕ) → AllByRecursion (λ x. p x ≡ true) (filter p xs)
  filter-passes p [] = tt
  filter-passes p (x ∷ xs) = go (p x) refl (filter-passes p xs)
    where
      go : (b : Bool) → p x ≡ b → AllByRecursion (λ y. p y ≡ true) (filter p xs) → AllByRecursion (λ y. p y ≡ true) (filter p (x ∷ xs))
      go true e rest = rw e (e, rest)
      go false e rest = rw e rest

  outputs-pass : (p : ℕ → Bool) (spans : List Span) → AllByRecursion (λ j. p j ≡ true) (map (λ (s : Span). s.output) spans)
      → (k : ℕ) (d : Span) → k < length spans → p (slice_index_or spans k d).output ≡ true
  outputs-pass p [] all k d below = absurd (omega arith)
  outputs-pass p (s ∷ ss) all zero d below = all.0
  outputs-pass p (s ∷ ss) all (suc k) d below = outputs-pass p ss all.1 k d (omega arith)

  -- the lines that are said are the logs
  spans-logs : AreSpans net book.entries (spans_of net book.entries)
      → All (HasLog net book (numbered 1 (derivation_of net book.entries))) (spans_of net book.entries)
  spans-logs are = λ k d below.
      let es = book.entries in
      let span = slice_index_or (spans_of net es) k d in
      let is = are.each k d below in
      let passes : AllByRecursion (λ j. has_spent es j ≡ true) (map (λ (s : Span). s.output) (spans_of net es)) =
      subst (λ (js : List ℕ). AllByRecursion (λ j. has_spent es j ≡ true) js) (sym are.outputs) (filter-passes (has_spent es) (outputs_of net)) in
      let spends = spends-log span.output (outputs-pass (has_spent es) (spans_of net es) passes k d below) in
      record {
        log = spent_log es span.output;
        spends = spends;
        there = ap (λ (l : List LratStep). map clause_in (with_ids span.first span.last l)) (steps-numbered 1 (derivation_of net es)) ∙ is.lines;
        whole = is.count ∙ ap (λ (n : ℕ). span.first + n) (spends.good Count);
      }

-- ---- each verdict

module _ (how : How) (number : ℕ) (net : AigPair) (edits : List Edit) (book : Entries) where
  abbrev made : Finding → Made
  made f = record { net = net; edits = edits; book = book; finding = f }

  abbrev told : Finding → Told
  told f = told_of how.out number (made f)

  pub are-equivalent : (f : Finding) → IsMade how (made f) → code_of (status_of_finding f) ≡ 0 → AreEquivalent how.out (told f)
  are-equivalent Equivalent is code = record { finding_is = refl; agree = is.settled.means.agree; says = refl; proof = go how.out }
    where
      go : (o : Option (List ℕ)) → IfSome o (λ prefix. RefutesMiter net (proof_bytes net book.entries Equivalent))
      go None = tt
      go (Some prefix) = record {
        lines = numbered 1 (refutation_of net book.entries);
        spells = is.proof.spells;
        refutes = is.proof.refutes;
        exact = is.settled.means.exact;
      }
  are-equivalent (Different j input) is code = cc
  are-equivalent Undecided is code = cc

  pub are-different : (f : Finding) → IsMade how (made f) → code_of (status_of_finding f) ≡ 1 → AreDifferent how.out (told f)
  are-different (Different j input) is code = record {
    output = j;
    input = input;
    finding_is = refl;
    differs = is.settled.means;
    says = refl;
    proof = go how.out;
  }
    where
      go : (o : Option (List ℕ)) → IfSome o (λ prefix. proof_bytes net book.entries (Different j input) ≡ [])
      go None = tt
      go (Some prefix) = refl
  are-different Equivalent is code = cc
  are-different Undecided is code = cc

  pub are-undecided : (kept : List Kept) → (f : Finding) → Contains kept (kept_of number (made f)) → IsMade how (made f)
      → code_of (status_of_finding f) ≡ 2 → AreUndecided how kept (told f)
  are-undecided kept Undecided handed is code = record {
    finding_is = refl;
    has = has-book how number (made Undecided) is kept handed;
    opens = open_outputs net book.entries;
    opens_are = refl;
    some_open = is.settled.finds.some_open;
    spent = λ j below has. (spent_log book.entries j, spends-log net book is.settled.legal j has);
    shown = is.settled.finds.others;
    others = is.settled.means;
    says = go how.out;
  }
    where
      logs : All (HasLog net book (numbered 1 (derivation_of net book.entries))) (spans_of net book.entries)
      logs = spans-logs net book is.settled.legal is.proof.1

      go : (o : Option (List ℕ)) → SaysOpen o book (open_outputs net book.entries) (told_of o number (made Undecided))
      go None = refl
      go (Some prefix) = record {
        lines = numbered 1 (derivation_of net book.entries);
        spells = is.proof.0.spells;
        derives = is.proof.0.derives;
        written = steps-numbered 1 (derivation_of net book.entries);
        spans = spans_of net book.entries;
        outputs = is.proof.1.outputs;
        logs = logs;
        says = refl;
      }
  are-undecided kept Equivalent handed is code = cc
  are-undecided kept (Different j input) handed is code = cc

-- ---- earlier checks

-- whatever was found, what is said of the check is so
pub promise-one : (how : How) (number : ℕ) (m : Made) (kept : List Kept) → IsMade how m
    → (is_undecided m.finding ≡ true → Contains kept (kept_of number m)) → KeepsPromise how kept (told_of how.out number m)
promise-one how number m kept made handed = go m.finding made handed
  where
    go : (f : Finding) → IsMade how (record m { finding = f }) → (is_undecided f ≡ true → Contains kept (kept_of number m))
        → KeepsPromise how kept (told_of how.out number (record m { finding = f }))
    go Equivalent is handed = inl (are-equivalent how number m.net m.edits m.book Equivalent is refl)
    go (Different j input) is handed = inr (inl (are-different how number m.net m.edits m.book (Different j input) is refl))
    go Undecided is handed = inr (inr (are-undecided how number m.net m.edits m.book kept Undecided (handed refl) is refl))

pub told-made : (how : How) (number : ℕ) (ms : List Made) (old new : DeskState) → AreTold how number ms old new → AllByRecursion (IsMade how) ms
told-made how number [] old new told = tt
told-made how number (m ∷ ms) old new told = (told.1, told-made how (number + 1) ms told.0 new told.3)

pub all-front : {A : Type 0} (P : A → Type 0) (xs ys : List A) → AllByRecursion P (xs ++ ys) → AllByRecursion P xs
all-front P [] ys all = tt
all-front P (x ∷ xs) ys all = (all.0, all-front P xs ys all.1)

pub all-last : {A : Type 0} (P : A → Type 0) (xs : List A) (y : A) → AllByRecursion P (xs ++ y ∷ []) → P y
all-last P [] y all = all.0
all-last P (x ∷ xs) y all = all-last P xs y all.1

pub promise-all : (how : How) (number : ℕ) (ms : List Made) (kept : List Kept) → AllByRecursion (IsMade how) ms → HasOpen kept number ms
    → AllByRecursion (KeepsPromise how kept) (tolds how.out number ms)
promise-all how number [] kept made opens = tt
promise-all how number (m ∷ ms) kept made opens =
    (promise-one how number m kept made.0 opens.0, promise-all how (number + 1) ms kept made.1 opens.1)

-- ---- all checks

-- checks were made, and one of them is the last
pub record HasParts (made : List Made) : Type 0 where
  pub earlier : List Made
  pub last : Made
  pub made_is : made ≡ earlier ++ last ∷ []

has-one : (m : Made) (ms : List Made) → HasParts (m ∷ ms)
has-one m [] = record { earlier = []; last = m; made_is = refl }
has-one m (n ∷ ns) =
    let p = has-one n ns in
    record { earlier = m ∷ p.earlier; last = p.last; made_is = ap (λ (ms : List Made). m ∷ ms) p.made_is }

-- where at least one was asked for
pub some-parts : (made : List Made) (due : Due) (dues : List Due) → map due_of made ++ [] ≡ due ∷ dues → HasParts made
some-parts [] due dues checks = cc
some-parts (m ∷ ms) due dues checks = has-one m ms

-- the checks that a script asks for were told, and of the last one this holds
module _ (c : CheckCommand) (kept : List Kept) (from : Opening) (net : AigPair) (lines : List (List ℕ)) (few : length lines ≤ limit)
    (old new : DeskState) (ms : List Made) (last : Made) (whole : GoesOn (how_of c) from (plan_of net lines) old (ms ++ last ∷ []) [] new)
    (keeps : kept ≡ kept_from 0 (ms ++ last ∷ [])) where
  abbrev all : List Told
  all = tolds c.out 0 (ms ++ last ∷ [])

  parts : all ≡ tolds c.out 0 ms ++ told_of c.out (length ms) last ∷ []
  parts = tolds-last c.out ms last

  dues : map due_of (ms ++ last ∷ []) ≡ (plan_of net lines).checks
  dues = sym (append-nil (map due_of (ms ++ last ∷ []))) ∙ whole.checks

  all-made : AllByRecursion (IsMade (how_of c)) (ms ++ last ∷ [])
  all-made = told-made (how_of c) 0 (ms ++ last ∷ []) old new whole.told

  pub made-last : IsMade (how_of c) last
  made-last = all-last (IsMade (how_of c)) ms last all-made

  pub few-told : length (ms ++ last ∷ []) < 2 ^ 64
  few-told =
      let count : length (ms ++ last ∷ []) ≡ length (plan_of net lines).checks =
      sym (length-map (ms ++ last ∷ []) due_of) ∙ ap (λ (ds : List Due). length ds) dues in
      omega (arith, count, plan-count net lines, few, lit< {m = 1073741826} {n = 2 ^ 64} tt)

  pub is-left : IsLeft c.stats c.progress c.out c.witness all old new
  is-left = all-left (how_of c) 0 (ms ++ last ∷ []) old new whole.told

  pub has-the-last : Contains kept (kept_of (length ms) last)
  has-the-last = subst (λ (ks : List Kept). Contains ks (kept_of (length ms) last)) (sym keeps) (has-last ms last)

  pub promise-last : KeepsPromise (how_of c) kept (told_of c.out (length ms) last)
  promise-last = promise-one (how_of c) (length ms) last kept made-last (λ opens. has-the-last)

  -- a book that is there is its check's
  of-check : (k : Kept) → Contains kept k → IsOf 0 (ms ++ last ∷ []) k
  of-check k has = kept-of 0 (ms ++ last ∷ []) k (subst (λ (ks : List Kept). Contains ks k) keeps has)

  -- the last one's is the last
  pub book-last : last_book kept ≡ Some last.book
  book-last = ap last_book keeps ∙ last-kept ms last

  -- their files stand, and beside a witness too
  pub stand-all : IsApart c → (before : Files) → StillStand c.out all (shown_all c.out c.witness all before)
  stand-all apart before = go c.out refl (leaves-under c.out (ms ++ last ∷ []) before few-told)
    where
      go : (o : Option (List ℕ)) → c.out ≡ o → LeavesUnder o (tolds o 0 (ms ++ last ∷ [])) before (left_all o (tolds o 0 (ms ++ last ∷ [])) before)
          → StillStand o (tolds o 0 (ms ++ last ∷ [])) (shown_all o c.witness (tolds o 0 (ms ++ last ∷ [])) before)
      go None out l = tt
      go (Some prefix) out l =
          still-beside c.out c.witness apart.witness prefix out (left_all (Some prefix) (tolds (Some prefix) 0 (ms ++ last ∷ [])) before)
          (shown_all (Some prefix) c.witness (tolds (Some prefix) 0 (ms ++ last ∷ [])) before)
          (shown-same (Some prefix) c.witness (tolds (Some prefix) 0 (ms ++ last ∷ [])) before)
          0 (ms ++ last ∷ []) (omega (arith, few-told)) l.each

  -- the witness does
  pub show-all : IsApart c → (before : Files) → StillShown c.witness all before (shown_all c.out c.witness all before)
  show-all apart before = go c.witness apart.witness
    where
      go : (w : Option (List ℕ)) → IsOutside c.out w → StillShown w all before (shown_all c.out w all before)
      go None outside = tt
      go (Some name) outside = witness-there c.out name outside (ms ++ last ∷ []) before few-told

  pub tells-checks : IsApart c → (Holds : Told → Type 0) (text : List ℕ) (before : Files) → Holds (told_of c.out (length ms) last)
      → TellsChecks c kept Holds from (plan_of net lines) text before (shown_all c.out c.witness all before)
      (text ++ flat_map (λ (t : Told). t.said) all)
  tells-checks apart Holds text before holds = record {
    earlier = tolds c.out 0 ms;
    last = told_of c.out (length ms) last;
    checks = ap (map due_of_told) (sym parts) ∙ tolds-due c.out 0 (ms ++ last ∷ []) ∙ dues;
    numbers = subst (AreNumbered 0) parts (tolds-numbered c.out 0 (ms ++ last ∷ []));
    says = ap (λ (ts : List Told). text ++ flat_map (λ (t : Told). t.said) ts) parts;
    begins = begins-on kept (ms ++ last ∷ []) (λ k above has. of-check k has) from whole.in_turn (asked_from 1 (due_behind net) lines).checks net dues;
    files = subst (λ (ts : List Told). LeavesBoth c.out c.witness ts before (shown_all c.out c.witness all before)) parts
        (leaves-all c.out c.witness apart.witness (ms ++ last ∷ []) before few-told);
    in_row = subst (AreInRow kept) parts
        (in-row c.out kept 0 (ms ++ last ∷ [])
        (λ k above has. of-check k has) from whole.in_turn net
        (subst (AreChained net) (sym dues) (refl, plan-chained net lines)));
    promises = promise-all (how_of c) 0 ms kept (all-front (IsMade (how_of c)) ms (last ∷ []) all-made)
        (subst (λ (ks : List Kept). HasOpen ks 0 ms) (sym keeps) (has-open ms last));
    holds = holds;
    books = hands-back (how_of c) ms last made-last kept keeps;
  }

-- ---- the one check of circuits that the program makes

module _ (how : How) (from : Opening) (net : AigPair) (old new : DeskState) (status : Status) (kept : List Kept) where
  -- of checks that end with a verdict: this one is the only one, and it is told whole, between its progress and its statistics
  pub record IsOnly : Type 0 where
    pub check : Made
    pub same : check.net ≡ net
    pub is_made : IsMade how check
    pub begun : DeskState
    pub warns : WarnsProgress how.progress old begun
    pub mid : DeskState
    pub whole : mid ≡ after_say (after_files begun (left_of how.out how.witness 0 check)) (text_of_check how.out check)
    pub reports : Reports how.stats check.net check.book.entries (lines_of how.out check) mid new
    pub status_is : status_of_finding check.finding ≡ status
    pub keeps : kept ≡ kept_of 0 check ∷ []

  pub only-check : Ends how from (plan_of net []) old new status kept → IsOnly
  only-check p = go p.made p.whole.checks p.whole.told p.status_is p.keeps
    where
      go : (made : List Made) → map due_of made ++ [] ≡ due_behind net ∷ [] → AreTold how 0 made old new
          → option_map status_of_finding (last_finding made) ≡ Some status → kept ≡ kept_from 0 made → IsOnly
      go [] checks told status_is keeps = cc
      go (m ∷ []) checks told status_is keeps = record {
        check = m;
        same = ap (λ (d : Due). d.net) (head-equal (due_of m) (due_behind net) [] [] checks);
        is_made = told.1;
        begun = told.2.0;
        warns = told.2.2;
        mid = told.2.1;
        whole = left-whole (left_of how.out how.witness 0 m) (text_of_check how.out m) told.2.0 told.2.1 told.2.3;
        reports = subst (λ (s : DeskState). Reports how.stats m.net m.book.entries (lines_of how.out m) told.2.1 s) (sym told.3) told.2.4;
        status_is = same_Some (status_of_finding m.finding) status status_is;
        keeps = keeps;
      }
      go (m ∷ n ∷ ms) checks told status_is keeps = cc

-- ---- a run that comes to a verdict

-- whose status goes with what the last check found
pub record IsLast (how : How) (from : Opening) (plan : Plan) (old new : DeskState) (status : Status) (kept : List Kept) : Type 0 where
  pub earlier : List Made
  pub last : Made
  pub whole : GoesOn how from plan old (earlier ++ last ∷ []) [] new
  pub keeps : kept ≡ kept_from 0 (earlier ++ last ∷ [])
  pub status_is : status_of_finding last.finding ≡ status

pub is-last : (how : How) (from : Opening) (net : AigPair) (lines : List (List ℕ)) (old new : DeskState) (status : Status) (kept : List Kept)
    → Ends how from (plan_of net lines) old new status kept → IsLast how from (plan_of net lines) old new status kept
is-last how from net lines old new status kept p =
    let l = some-parts p.made (due_behind net) (asked_from 1 (due_behind net) lines).checks p.whole.checks in
    let finding : last_finding p.made ≡ Some l.last.finding = ap last_finding l.made_is ∙ finding-last l.earlier l.last in
    record {
      earlier = l.earlier;
      last = l.last;
      whole = subst (λ (made : List Made). GoesOn how from (plan_of net lines) old made [] new) l.made_is p.whole;
      keeps = p.keeps ∙ ap (kept_from 0) l.made_is;
      status_is = same_Some (status_of_finding l.last.finding) status
          (sym (ap (option_map status_of_finding) finding) ∙ p.status_is);
    }

-- ---- the laws

module _ (c : CheckCommand) (old new : DeskState) (status : Status) (kept : List Kept) (answers : AnswersCheck c old new status kept) where
  verdict-ends : code_of status < 4 → EndsCheck c old new status kept
  verdict-ends below = elim answers [
    | inl p ↦ p
    | inr p ↦ absurd (omega (arith, below, ends-code _ _ new status p))
  ]

  shows : IsApart c → (Holds : Told → Type 0) (code : ℕ) → code_of status ≡ code → code < 4
      → ((number : ℕ) (m : Made) → IsMade (how_of c) m → Contains kept (kept_of number m) → code_of (status_of_finding m.finding) ≡ code
      → Holds (told_of c.out number m))
      → Shows c.stats c.progress (OfFiles c kept Holds) old new
  unfolding tells-checks
  shows apart Holds code is below holds before earlier told heard =
      let p = verdict-ends (omega (arith, is, below)) in
      let start : DeskState = at_start c old p.lemmas p.from in
      let text : List ℕ = opening_text p.lemmas p.from in
      let l = is-last (how_of c) p.from p.net p.lines start p.mid status kept p.ends in
      let k = start-keeps c old p.lemmas p.from in
      let script = spells-script c old before told p.net p.lines p.lemmas p.asks in
      let ts : List Told = tolds c.out 0 (l.earlier ++ l.last ∷ []) in
      let left = is-left c kept p.from p.net p.lines script.1 start p.mid l.earlier l.last l.whole l.keeps in
      let made = made-last c kept p.from p.net p.lines script.1 start p.mid l.earlier l.last l.whole l.keeps in
      let has = has-the-last c kept p.from p.net p.lines script.1 start p.mid l.earlier l.last l.whole l.keeps in
      let book = book-last c kept p.from p.net p.lines script.1 start p.mid l.earlier l.last l.whole l.keeps in
      let small = few-told c kept p.from p.net p.lines script.1 start p.mid l.earlier l.last l.whole l.keeps in
      let stand = stand-all c kept p.from p.net p.lines script.1 start p.mid l.earlier l.last l.whole l.keeps apart before in
      let shown = show-all c kept p.from p.net p.lines script.1 start p.mid l.earlier l.last l.whole l.keeps apart before in
      let saved = files-saved (saved_of c.save kept) p.mid in
      let mid : Files = shown_all c.out c.witness ts before in
      record {
        after = with_saved (saved_of c.save kept) mid;
        said = text ++ flat_map (λ (t : Told). t.said) ts;
        left = ap (λ (s : DeskState). s.files) p.saved ∙ saved.files mid (left.files before (k.files ∙ told));
        heard =
            ap (λ (s : DeskState). s.said) p.saved ∙ saved.said ∙ left.said (earlier ++ text) (k.said earlier heard)
            ∙ ap (λ (x : List ℕ). Some x) (append_assoc earlier text (flat_map (λ (t : Told). t.said) ts));
        quiet =
            warns-then c.stats c.progress old p.mid new
            (warns-then c.stats c.progress old start p.mid (warns-none c.stats c.progress old start k.warned k.warns) left.quiet)
            (warns-none c.stats c.progress p.mid new (ap (λ (s : DeskState). s.warned) p.saved ∙ saved.warned)
            (ap (λ (s : DeskState). s.warn_faults) p.saved ∙ saved.warns));
        closed = λ none. ap (λ (s : DeskState). s.started) p.saved ∙ saved.closed (left.closed (k.started ∙ none));
        promise = record {
          net = p.net;
          pair = spells-pair c old before told p.net p.asks.pair;
          lines = p.lines;
          script = script.0;
          accepted = p.ends.accepted;
          lemmas = p.lemmas;
          from = p.from;
          loads = loads-are c old before told p.net p.lines p.lemmas p.asks p.from p.opens;
          mid = mid;
          told = tells-checks c kept p.from p.net p.lines script.1 start p.mid l.earlier l.last l.whole l.keeps apart Holds text before
              (holds (length l.earlier) l.last made has (ap code_of l.status_is ∙ is));
          saved = saves-under c.save kept l.last.book book mid;
          stand = subst (λ (ms : List Told). StillStand c.out ms (with_saved (saved_of c.save kept) mid))
              (tolds-last c.out l.earlier l.last)
              (still-saved c apart kept l.last.book book (l.earlier ++ l.last ∷ []) mid small stand);
          shown = subst (λ (ms : List Told). StillShown c.witness ms before (with_saved (saved_of c.save kept) mid))
              (tolds-last c.out l.earlier l.last)
              (still-shown c apart kept l.last.book book ts before mid shown);
        };
      }

  pub equivalent : IsApart c → code_of status ≡ 0 → Shows c.stats c.progress (IsEquivalent c kept) old new
  equivalent apart is = shows apart (AreEquivalent c.out) 0 is (omega arith)
      (λ number m made has code. are-equivalent (how_of c) number m.net m.edits m.book m.finding made code)

  pub different : IsApart c → code_of status ≡ 1 → Shows c.stats c.progress (IsDifferent c kept) old new
  different apart is = shows apart (AreDifferent c.out) 1 is (omega arith)
      (λ number m made has code. are-different (how_of c) number m.net m.edits m.book m.finding made code)

  pub undecided : IsApart c → code_of status ≡ 2 → Shows c.stats c.progress (IsUndecided c kept) old new
  undecided apart is = shows apart (AreUndecided (how_of c) kept) 2 is (omega arith)
      (λ number m made has code. are-undecided (how_of c) number m.net m.edits m.book kept m.finding has made code)
