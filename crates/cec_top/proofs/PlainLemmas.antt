-- What each verdict means where the words are plain, from what it promises of any check.
use Rattle.std.proofs.Common.{◌≡◌, ◌∙◌, ◌<◌, ℕ, Bool, false, inl, inr, append-nil, List, [], ◌∷◌, ◌++◌, Option, Some, None, map, refl, sym, ap, ap₂, subst, arith, codes}
use Rattle.std.specs.Prelude.{◌≢◌, IfSome, IsSomeAnd}
use Rattle.std.specs.List.{flat_map}
use Rattle.command_line.specs.PlainWords.{IsPlainCheck, PlainCheck}
use Rattle.command_line.specs.Words.{Asks, CheckCommand, CheckIt, FraigIt, LratIt, Request, SelfIt, WantInfo}
use Rattle.desk_port.specs.Desk.{DeskState, Files}
use Rattle.endings.specs.Status.{code_of}
use Rattle.endings.specs.Stops.{Warns}
use Rattle.endings.specs.declared.status.Status.{Status}
use Rattle.endings.specs.declared.status.Status.TheVariants as ends
use Rattle.aiger_file.specs.File.{SpellsAiger}
use Rattle.lemma_book.specs.declared.entry.Entry.{Entry}
use Rattle.lemma_book.specs.Entry.{Entries, has_spent}
use Rattle.netlist.specs.Circuit.{Aig}
use Rattle.netlist.specs.Net.{AigPair}
use Rattle.netlist.specs.Pairing.{IsMatched}
use Rattle.check_session.specs.Files.{cnf_name, proof_name}
use Rattle.cec_top.specs.declared.kept.Kept.{Kept}
use Rattle.cec_top.specs.Answers.{Answers, how_of, opening_text}
use Rattle.cec_top.specs.Check.{Opening}
use Rattle.cec_top.specs.Script.{Due, due_behind, plan_of}
use Rattle.cec_top.specs.Warned.{WarnsOnly}
use Rattle.cec_top.specs.Headline.{AreDifferent, AreEquivalent, AreLemmas, AreNumbered, AreUndecided, IsDifferent, IsEquivalent, IsScript, IsUndecided, LeavesBoth, LeavesUnder, OfFiles, RefutesMiter, SavesUnder, SaysOpen, Shows, Told, due_of_told}
use Rattle.cec_top.specs.Plain.{DerivesFromMiter, LeavesProof, MeansDifferent, MeansEquivalent, MeansUndecided, RunMeans, SaysOutputs, SpellBoth}
use Rattle.cec_top.proofs.ReducedLemmas.{cnf-first, proof-first}
use Rattle.cec_top.proofs.WordsLemmas.{once-code}

-- ---- the only check of a run

-- a run whose script has no line has one check
one_due : (earlier : List Told) (last : Told) (due : Due) → map due_of_told (earlier ++ last ∷ []) ≡ due ∷ []
    → (earlier ≡ []) × (due_of_told last ≡ due)
one_due [] last due same = (refl, ap (first_or due) same)
  where
    first_or : Due → List Due → Due
    first_or d [] = d
    first_or d (x ∷ xs) = x
one_due (t ∷ []) last due same = let bad : due_of_told last ∷ [] ≡ [] = ap behind_first same in cc
  where
    behind_first : List Due → List Due
    behind_first [] = []
    behind_first (x ∷ xs) = xs
one_due (t ∷ u ∷ ts) last due same = let bad : due_of_told u ∷ map due_of_told (ts ++ last ∷ []) ≡ [] = ap behind_first same in cc
  where
    behind_first : List Due → List Due
    behind_first [] = []
    behind_first (x ∷ xs) = xs

-- what a run of plain words leaves and says, and of its only check this holds
record Only (a b : List ℕ) (out : Option (List ℕ)) (Holds : Told → Type 0) (before after : Files) (said : List ℕ) : Type 0 where
  check : Told
  spell : SpellBoth a b before check.net
  number_is : check.number ≡ 0
  files : LeavesUnder out (check ∷ []) before after
  says : said ≡ check.said
  holds : Holds check

module _ (a b : List ℕ) (out : Option (List ℕ)) (c : CheckCommand) (plain : IsPlainCheck a b out c) where
  module _ (kept : List Kept) (Holds : Told → Type 0) (before after : Files) (said : List ℕ) (o : OfFiles c kept Holds before after said) where
    no_lines : o.lines ≡ []
    no_lines = subst (λ (edits : Option (List ℕ)). IsScript edits before o.lines) plain.no_edits o.script

    no_lemmas : o.lemmas ≡ None
    no_lemmas = subst (λ (load : Option (List ℕ)). AreLemmas load before o.lemmas) plain.no_load o.loads.spelled

    no_more : after ≡ o.mid
    no_more = subst (λ (save : Option (List ℕ)). SavesUnder save kept o.mid after) plain.no_save o.saved

    spelled : SpellBoth a b before o.net
    spelled = record {
      first = subst (λ (name : List ℕ). IsSomeAnd (before name) (λ bytes. SpellsAiger bytes o.net.a)) plain.a_is o.pair.spells_a;
      second =
          subst (λ (name : List ℕ). IsSomeAnd (before name) (λ bytes. SpellsAiger bytes o.net.b)) plain.b_is
          (subst (λ (circuit : Aig). IsSomeAnd (before c.b) (λ bytes. SpellsAiger bytes circuit)) (sym as_it_is) o.pair.spells_b);
      inputs = o.pair.inputs;
      outputs = o.pair.outputs;
    }
      where
        as_it_is : o.net.b ≡ o.pair.second
        as_it_is = subst (λ (by_name : Bool). IsMatched by_name o.net.a o.pair.second o.net.b) plain.by_position o.pair.matched

    one : (o.told.earlier ≡ []) × (due_of_told o.told.last ≡ due_behind o.net)
    one = one_due o.told.earlier o.told.last (due_behind o.net)
        (o.told.checks ∙ ap (λ (lines : List (List ℕ)). (plan_of o.net lines).checks) no_lines)

    only : Only a b out Holds before after said
    only = record {
      check = o.told.last;
      spell = subst (SpellBoth a b before) (sym (ap (λ (due : Due). due.net) one.1)) spelled;
      number_is = (subst (λ (earlier : List Told). AreNumbered 0 (earlier ++ o.told.last ∷ [])) one.0 o.told.numbers).0;
      files =
          subst (λ (files : Files). LeavesUnder out (o.told.last ∷ []) before files) (sym no_more)
          (subst (λ (earlier : List Told). LeavesUnder out (earlier ++ o.told.last ∷ []) before o.mid) one.0
          (subst (λ (prefix : Option (List ℕ)). LeavesUnder prefix (o.told.earlier ++ o.told.last ∷ []) before o.mid) plain.out_is
          (subst (λ (witness : Option (List ℕ)). LeavesBoth c.out witness (o.told.earlier ++ o.told.last ∷ []) before o.mid) plain.no_witness
          o.told.files)));
      says =
          o.told.says
          ∙ ap₂ (λ (text : List ℕ) (earlier : List Told). text ++ flat_map (λ (t : Told). t.said) (earlier ++ o.told.last ∷ []))
          (ap (λ (lemmas : Option (List Entry)). opening_text lemmas o.from) no_lemmas) one.0
          ∙ append-nil o.told.last.said;
      holds = o.told.holds;
    }

-- ---- its files

-- the proof of the only check stands under the prefix, where there is one
proof_left : (out : Option (List ℕ)) (t : Told) (Holds : List ℕ → Type 0) (before after : Files) → t.number ≡ 0
    → LeavesUnder out (t ∷ []) before after → IfSome out (λ (prefix : List ℕ). Holds t.proof) → LeavesProof out t.net Holds before after
proof_left None t Holds before after number left holds = left
proof_left (Some prefix) t Holds before after number left holds = record {
  proof = t.proof;
  cnf_file = ap after (sym cnf) ∙ left.each.0.0;
  proof_file = ap after (sym proof) ∙ left.each.0.1;
  others = λ name apart_cnf apart_proof.
      left.others name ((λ same. apart_cnf (same ∙ cnf), λ same. apart_proof (same ∙ proof)), tt);
  holds = holds;
}
  where
    cnf : cnf_name prefix t.number ≡ prefix ++ codes ".0.cnf"
    cnf = ap (cnf_name prefix) number ∙ cnf-first prefix

    proof : proof_name prefix t.number ≡ prefix ++ codes ".0.lrat"
    proof = ap (proof_name prefix) number ∙ proof-first prefix

-- ---- the verdicts

module _ (a b : List ℕ) (out : Option (List ℕ)) (c : CheckCommand) (plain : IsPlainCheck a b out c) (kept : List Kept)
    (before after : Files) (said : List ℕ) where
  means-equivalent : IsEquivalent c kept before after said → MeansEquivalent a b out before after said
  means-equivalent promise =
      let one = only a b out c plain kept (AreEquivalent c.out) before after said promise in
      record {
        net = one.check.net;
        spell = one.spell;
        agree = one.holds.agree;
        says = one.says ∙ one.holds.says;
        files = proof_left out one.check (RefutesMiter one.check.net) before after one.number_is one.files
            (subst (λ (prefix : Option (List ℕ)). IfSome prefix (λ (p : List ℕ). RefutesMiter one.check.net one.check.proof)) plain.out_is
            one.holds.proof);
      }

  means-different : IsDifferent c kept before after said → MeansDifferent a b out before after said
  means-different promise =
      let one = only a b out c plain kept (AreDifferent c.out) before after said promise in
      record {
        net = one.check.net;
        spell = one.spell;
        output = one.holds.output;
        input = one.holds.input;
        differs = one.holds.differs;
        says = one.says ∙ one.holds.says;
        files = proof_left out one.check (λ proof. proof ≡ []) before after one.number_is one.files
            (subst (λ (prefix : Option (List ℕ)). IfSome prefix (λ (p : List ℕ). one.check.proof ≡ [])) plain.out_is one.holds.proof);
      }

  means-undecided : IsUndecided c kept before after said → MeansUndecided a b out before after said
  means-undecided promise =
      let one = only a b out c plain kept (AreUndecided (how_of c) kept) before after said promise in
      let told = says-open out one.check one.holds.has.book one.holds.opens
      (subst (λ (prefix : Option (List ℕ)). SaysOpen prefix one.holds.has.book one.holds.opens one.check) plain.out_is one.holds.says) in
      record {
        net = one.check.net;
        spell = one.spell;
        is_open = has_spent one.holds.has.book.entries;
        some_open = subst (λ (opens : List ℕ). opens ≢ []) one.holds.opens_are one.holds.some_open;
        others = one.holds.others;
        says = subst (λ (opens : List ℕ). SaysOutputs out opens said) one.holds.opens_are
            (subst (SaysOutputs out one.holds.opens) (sym one.says) told.0);
        files = proof_left out one.check (DerivesFromMiter one.check.net) before after one.number_is one.files told.1;
      }
    where
      says-open : (prefix : Option (List ℕ)) (t : Told) (book : Entries) (opens : List ℕ) → SaysOpen prefix book opens t
          → SaysOutputs prefix opens t.said × IfSome prefix (λ (p : List ℕ). DerivesFromMiter t.net t.proof)
      says-open None t book opens says = (says, tt)
      says-open (Some p) t book opens says = (
        (says.spans, says.outputs, says.says),
        record { lines = says.lines; spells = says.spells; derives = says.derives },
      )

-- ---- what plain words come to

abbrev PlainAsk : Type 0
PlainAsk = (words : List (List ℕ)) (a b : List ℕ) (out : Option (List ℕ)) (r : Request) → PlainCheck a b out words → Asks words r
    → (c : CheckCommand) × (r ≡ CheckIt c) × IsPlainCheck a b out c

abbrev PlainUninformed : Type 0
PlainUninformed = (words : List (List ℕ)) (a b : List ℕ) (out : Option (List ℕ)) → PlainCheck a b out words → ¬ WantInfo words

-- where the status is that of a verdict, they asked for a check
module _ (asked : PlainAsk) (uninformed : PlainUninformed) (words : List (List ℕ)) (a b : List ℕ) (out : Option (List ℕ))
    (plain : PlainCheck a b out words) (old new : DeskState) (status : Status) (kept : List Kept) (answers : Answers words old new status kept) where
  refused-code : (line : List ℕ) → Warns line ends.BadUsage old new status → 2 < code_of status
  refused-code line (inl w) = subst (λ (s : Status). 2 < code_of s) (sym w.0) (omega arith)
  refused-code line (inr w) = subst (λ (s : Status). 2 < code_of s) (sym w.0) (omega arith)

  asks-check : code_of status < 3 → (c : CheckCommand) × Asks words (CheckIt c) × IsPlainCheck a b out c
  asks-check below = elim answers [
    | inl p ↦
        let told = asked words a b out (CheckIt p.command) plain p.asked in
        (told.0, subst (Asks words) told.1 p.asked, told.2)
    | inr (inl p) ↦ let told = asked words a b out (LratIt p.command) plain p.asked in let bad = told.1 in cc
    | inr (inr (inl p)) ↦ let told = asked words a b out (SelfIt p.command) plain p.asked in let bad = told.1 in cc
    | inr (inr (inr (inl p))) ↦ let told = asked words a b out (FraigIt p.command) plain p.asked in let bad = told.1 in cc
    | inr (inr (inr (inr (inl p)))) ↦ absurd (uninformed words a b out plain p.wanted)
    | inr (inr (inr (inr (inr (inl p))))) ↦ absurd (omega (arith, below, refused-code p.text p.warns))
    | inr (inr (inr (inr (inr (inr p))))) ↦ absurd (omega (arith, below, once-code old new status p.ends))
  ]

-- what a run shows, where nothing but the verdict is told
shown : (c : CheckCommand) (stats : c.stats ≡ false) (progress : c.progress ≡ false) (Promise Means : Files → Files → List ℕ → Type 0)
    (old new : DeskState) → ((before after : Files) (said : List ℕ) → Promise before after said → Means before after said)
    → Shows c.stats c.progress Promise old new → RunMeans Means old new
shown c stats progress Promise Means old new means shows before earlier told heard =
    let left = shows before earlier told heard in
    let quiet : WarnsOnly false false old new =
    subst (λ (p : Bool). WarnsOnly false p old new) progress (subst (λ (s : Bool). WarnsOnly s c.progress old new) stats left.quiet) in
    (left.after, left.said, left.left, left.heard, quiet.0, means before left.after left.said left.promise)

-- the meaning of one verdict, from the promise of the same
pub plainly : (code : ℕ) → code < 3 → PlainAsk → PlainUninformed → (words : List (List ℕ)) (a b : List ℕ) (out : Option (List ℕ))
    (old new : DeskState) (status : Status) (kept : List Kept) → PlainCheck a b out words → Answers words old new status kept
    → code_of status ≡ code → (Promise : CheckCommand → Files → Files → List ℕ → Type 0) (Means : Files → Files → List ℕ → Type 0)
    → ((c : CheckCommand) → IsPlainCheck a b out c → (before after : Files) (said : List ℕ) → Promise c before after said → Means before after said)
    → ((c : CheckCommand) → Asks words (CheckIt c) → Shows c.stats c.progress (Promise c) old new)
    → RunMeans Means old new
plainly code below asked uninformed words a b out old new status kept plain answers is Promise Means means shows =
    let p = asks-check asked uninformed words a b out plain old new status kept answers (omega (arith, below, is)) in
    shown p.0 p.2.no_stats p.2.no_progress (Promise p.0) Means old new (means p.0 p.2) (shows p.0 p.1)

pub plainly-equivalent : (asked : PlainAsk) (uninformed : PlainUninformed) (words : List (List ℕ)) (a b : List ℕ) (out : Option (List ℕ))
    (old new : DeskState) (status : Status) (kept : List Kept) → PlainCheck a b out words → Answers words old new status kept
    → code_of status ≡ 0 → ((c : CheckCommand) → Asks words (CheckIt c) → Shows c.stats c.progress (IsEquivalent c kept) old new)
    → RunMeans (MeansEquivalent a b out) old new
plainly-equivalent asked uninformed words a b out old new status kept plain answers is =
    plainly 0 (omega arith) asked uninformed words a b out old new status kept plain answers is (λ c. IsEquivalent c kept) (MeansEquivalent a b out)
    (λ c p before after said. means-equivalent a b out c p kept before after said)

pub plainly-different : (asked : PlainAsk) (uninformed : PlainUninformed) (words : List (List ℕ)) (a b : List ℕ) (out : Option (List ℕ))
    (old new : DeskState) (status : Status) (kept : List Kept) → PlainCheck a b out words → Answers words old new status kept
    → code_of status ≡ 1 → ((c : CheckCommand) → Asks words (CheckIt c) → Shows c.stats c.progress (IsDifferent c kept) old new)
    → RunMeans (MeansDifferent a b out) old new
plainly-different asked uninformed words a b out old new status kept plain answers is =
    plainly 1 (omega arith) asked uninformed words a b out old new status kept plain answers is (λ c. IsDifferent c kept) (MeansDifferent a b out)
    (λ c p before after said. means-different a b out c p kept before after said)

pub plainly-undecided : (asked : PlainAsk) (uninformed : PlainUninformed) (words : List (List ℕ)) (a b : List ℕ) (out : Option (List ℕ))
    (old new : DeskState) (status : Status) (kept : List Kept) → PlainCheck a b out words → Answers words old new status kept
    → code_of status ≡ 2 → ((c : CheckCommand) → Asks words (CheckIt c) → Shows c.stats c.progress (IsUndecided c kept) old new)
    → RunMeans (MeansUndecided a b out) old new
plainly-undecided asked uninformed words a b out old new status kept plain answers is =
    plainly 2 (omega arith) asked uninformed words a b out old new status kept plain answers is (λ c. IsUndecided c kept) (MeansUndecided a b out)
    (λ c p before after said. means-undecided a b out c p kept before after said)
