-- What stands where a check of files ends with status 6 or 7: the checks that were told whole.
use Rattle.std.proofs.Common.{◌≡◌, ◌≢◌, ℕ, ◌+◌, ◌<◌, ◌≤◌, ◌^◌, lit<, inl, inr, Bool, true, false, List, [], ◌∷◌, ◌++◌, length, map, option_map, Option, Some, None, Err, refl, sym, ap, ◌∙◌, subst, arith, append-nil, length-append}
use Rattle.std.specs.Prelude.{◌⊎◌, if◌then◌else◌}
use Rattle.std.specs.List.{AllByRecursion, flat_map}
use Rattle.std.specs.Option.{option_to_list}
use Rattle.std.specs.Str.{bytes_eq}
use Rattle.std.proofs.lemmas.Slice.Eq.{bytes_eq-Decides}
use Rattle.lemma_book.specs.declared.entry.Entry.{Entry}
use Rattle.std.proofs.lemmas.List.{length-map}
use Rattle.desk_port.specs.Desk.{DeskState, Files, after_read, put}
use Rattle.netlist.specs.Net.{AigPair}
use Rattle.check_session.specs.Files.{cnf_name, proof_name}
use Rattle.check_session.specs.Finding.{Finding, Equivalent, Different, Undecided}
use Rattle.endings.specs.declared.status.Status.{Status}
use Rattle.endings.specs.Status.{code_of}
use Rattle.endings.specs.declared.stop.Stop.{Stop}
use Rattle.endings.specs.declared.stop.Stop.TheVariants.{CannotRead, TooLong, BadFile, NotAlike, CannotWrite, OutOfMemory}
use Rattle.endings.specs.Reading.{Input, StopsAt, ReadsUpTo, limit}
use Rattle.endings.specs.Writing.{Output, Leaves, StopsAmong, StopsIn, after_file}
use Rattle.endings.specs.Stops.{EndsBy, Warns, status_of, stop_line}
use Rattle.command_line.specs.Words.{CheckCommand, Request, CheckIt, FraigIt, LratIt, SelfIt, Asks, WantInfo, AreRefused}
use Rattle.cec_top.specs.declared.kept.Kept.{Kept}
use Rattle.cec_top.specs.Answers.{Answers, AnswersCheck, AsksFor, IsAtOnce, IsOpening, OpensNot, Stops, how_of, lemmas_of, names_of, opening_text, pair_of, script_of, after_lemmas, after_pair, at_start}
use Rattle.cec_top.specs.Check.{How, Made, Opening, IsMade, GoesOn, AreSome, KeepsOn, BreaksOff, NotSaved, StopsChecks, due_of, kept_from, left_of, outputs_of, saved_file, saved_of, text_of_check, witness_files}
use Rattle.cec_top.specs.Headline.{Told, IsScript, Loads, KeepsPromise, HasFiles, LeavesUnder}
use Rattle.cec_top.specs.Script.{Due, Refused, plan_of}
use Rattle.cec_top.specs.Stopped.{IsNoFile, StandAll, StandUnder, Stopped, saved_behind}
use Rattle.cec_top.proofs.CompleteLemmas.{finding-code}
use Rattle.cec_top.proofs.HeadlineLemmas.{spells-pair, spells-script}
use Rattle.cec_top.proofs.SavingLemmas.{IsApart, lemmas-keep, loads-are, saved-is, start-keeps, still}
use Rattle.cec_top.proofs.TellLemmas.{stops-among}
use Rattle.cec_top.proofs.KeptLemmas.{has-last, has-open}
use Rattle.cec_top.proofs.PlanLemmas.{plan-count}
use Rattle.cec_top.proofs.RunLemmas.{some-all}
use Rattle.cec_top.proofs.WarnedLemmas.{progress-else}
use Rattle.cec_top.proofs.ToldLemmas.{all-left, cnf-no-proof, cnf-number, leaves-under, left_all, proof-number, shown_all, told_of, tolds, tolds-due, tolds-last, tolds-numbered}
use Rattle.cec_top.proofs.VerdictLemmas.{HasParts, all-front, all-last, book-last, few-told, is-last, is-left, promise-all, promise-one, some-parts, told-made}
use Rattle.cec_top.proofs.WitnessLemmas.{IsOutside, none-shown, others-same, witness-there}
use Rattle.cec_top.proofs.WordsLemmas.{check_or, same_request}
use Rattle.cec_top.proofs.WrittenLemmas.{eq-other, put-other}

-- ---- what is left and said in part

-- the files where some of these were written, or a first part of one
pub record HalfFiles (os : List Output) (before : Files) (now : Option Files) : Type 0 where
  pub after : Files
  pub are : now ≡ Some after
  pub others : (q : List ℕ) → AllByRecursion (λ o. q ≢ o.name) os → after q ≡ before q

same-files : (os : List Output) (before : Files) (now : Option Files) → now ≡ Some before → HalfFiles os before now
same-files os before now are = record { after = before; are = are; others = λ q none. refl }

put-files : (o : Output) (os : List Output) (part : List ℕ) (before : Files) (now : Option Files) → now ≡ Some (put o.name part before)
    → HalfFiles (o ∷ os) before now
put-files o os part before now are = record {
  after = put o.name part before;
  are = are;
  others = λ q none. put-other o.name part q before none.0;
}

-- of the text a first part is said, and of the files some stand, or a first part of one
pub record HalfLeft (os : List Output) (text : List ℕ) (old new : DeskState) : Type 0 where
  pub part : List ℕ
  pub rest : List ℕ
  pub is_part : text ≡ part ++ rest
  pub said : (earlier : List ℕ) → old.said ≡ Some earlier → new.said ≡ Some (earlier ++ part)
  pub files : (before : Files) → old.files ≡ Some before → HalfFiles os before new.files

-- nothing of it is said
unsaid : (os : List Output) (text : List ℕ) (old new : DeskState) → new.said ≡ old.said
    → ((before : Files) → old.files ≡ Some before → HalfFiles os before new.files) → HalfLeft os text old new
unsaid os text old new same files = record {
  part = [];
  rest = text;
  is_part = refl;
  said = λ earlier heard. same ∙ heard ∙ ap (λ (x : List ℕ). Some x) (sym (append-nil earlier));
  files = files;
}

-- a file that isn't written whole
stops-in : (o : Output) (os : List Output) (text : List ℕ) (old new : DeskState) (stop : Stop) → StopsIn o old new stop
    → HalfLeft (o ∷ os) text old new
stops-in o os text old new CannotWrite (inl w) =
    unsaid (o ∷ os) text old new (ap (λ (s : DeskState). s.said) w.stays)
    (λ before told. same-files (o ∷ os) before new.files (ap (λ (s : DeskState). s.files) w.stays ∙ told))
stops-in o os text old new CannotWrite (inr (inl w)) =
    unsaid (o ∷ os) text old new (ap (λ (s : DeskState). s.said) w.stays)
    (λ before told. put-files o os [] before new.files (ap (λ (s : DeskState). s.files) w.stays ∙ ap (option_map (put o.name [])) told))
stops-in o os text old new CannotWrite (inr (inr (inl p))) =
    unsaid (o ∷ os) text old new (ap (λ (s : DeskState). s.said) p.2.stays)
    (λ before told. put-files o os p.0 before new.files (ap (λ (s : DeskState). s.files) p.2.stays ∙ ap (option_map (put o.name p.0)) told))
stops-in o os text old new CannotWrite (inr (inr (inr w))) =
    unsaid (o ∷ os) text old new (ap (λ (s : DeskState). s.said) w.stays)
    (λ before told. put-files o os o.bytes before new.files (ap (λ (s : DeskState). s.files) w.stays ∙ ap (option_map (put o.name o.bytes)) told))
stops-in o os text old new OutOfMemory (inl e) =
    unsaid (o ∷ os) text old new (ap (λ (s : DeskState). s.said) e)
    (λ before told. same-files (o ∷ os) before new.files (ap (λ (s : DeskState). s.files) e ∙ told))
stops-in o os text old new OutOfMemory (inr p) =
    unsaid (o ∷ os) text old new (ap (λ (s : DeskState). s.said) p.2)
    (λ before told. put-files o os p.0 before new.files (ap (λ (s : DeskState). s.files) p.2 ∙ ap (option_map (put o.name p.0)) told))
stops-in o os text old new (CannotRead file) p = absurd p
stops-in o os text old new (TooLong file) p = absurd p
stops-in o os text old new (BadFile file why) p = absurd p
stops-in o os text old new (NotAlike why) p = absurd p

pub half-left : (os : List Output) (text : List ℕ) (old new : DeskState) (stop : Stop) → Leaves os text old new (Err stop) → HalfLeft os text old new
half-left [] text old new CannotWrite p = record {
  part = p.0;
  rest = p.1.0;
  is_part = p.1.1;
  said = λ earlier heard. ap (λ (s : DeskState). s.said) p.2.stays ∙ ap (option_map (λ x. x ++ p.0)) heard;
  files = λ before told. same-files [] before new.files (ap (λ (s : DeskState). s.files) p.2.stays ∙ told);
}
half-left [] text old new OutOfMemory p =
    unsaid [] text old new (ap (λ (s : DeskState). s.said) p)
    (λ before told. same-files [] before new.files (ap (λ (s : DeskState). s.files) p ∙ told))
half-left [] text old new (CannotRead file) p = absurd p
half-left [] text old new (TooLong file) p = absurd p
half-left [] text old new (BadFile file why) p = absurd p
half-left [] text old new (NotAlike why) p = absurd p
half-left (o ∷ os) text old new stop (inl p) = stops-in o os text old new stop p
half-left (o ∷ os) text old new stop (inr p) =
    let h = half-left os text (after_file old o) new stop p in
    record {
      part = h.part;
      rest = h.rest;
      is_part = h.is_part;
      said = h.said;
      files = λ before told.
          let f = h.files (put o.name o.bytes before) (ap (option_map (put o.name o.bytes)) told) in
          record {
            after = f.after;
            are = f.are;
            others = λ q none. f.others q none.1 ∙ put-other o.name o.bytes q before none.0;
          };
    }

-- where it leaves no file none is another
pub none-left : (text : List ℕ) (old new : DeskState) (stop : Stop) → Leaves [] text old new (Err stop) → new.files ≡ old.files
none-left text old new CannotWrite p = ap (λ (s : DeskState). s.files) p.2.stays
none-left text old new OutOfMemory p = ap (λ (s : DeskState). s.files) p
none-left text old new (CannotRead file) p = absurd p
none-left text old new (TooLong file) p = absurd p
none-left text old new (BadFile file why) p = absurd p
none-left text old new (NotAlike why) p = absurd p

-- ---- files that are read

pub record IsSilent (old new : DeskState) : Type 0 where
  pub files : new.files ≡ old.files
  pub said : new.said ≡ old.said

same-silent : (old new mid : DeskState) → new ≡ mid → mid.files ≡ old.files → mid.said ≡ old.said → IsSilent old new
same-silent old new mid is files said = record {
  files = ap (λ (s : DeskState). s.files) is ∙ files;
  said = ap (λ (s : DeskState). s.said) is ∙ said;
}

stops-silent : (k : ℕ) (i : Input) (earlier : List (List ℕ)) (old new : DeskState) (stop : Stop) → StopsAt k i earlier old new stop
    → IsSilent old new
stops-silent k i earlier old new (CannotRead j) p = same-silent old new _ p.1.stays refl refl
stops-silent k i earlier old new (TooLong j) p = same-silent old new _ p.2 refl refl
stops-silent k i earlier old new (BadFile j text) p = same-silent old new _ p.2 refl refl
stops-silent k i earlier old new OutOfMemory (inl e) = same-silent old new old e refl refl
stops-silent k i earlier old new OutOfMemory (inr e) = same-silent old new (after_read old i.name) e refl refl
stops-silent k i earlier old new (NotAlike text) p = absurd p
stops-silent k i earlier old new CannotWrite p = absurd p

pub reads-silent : (k : ℕ) (earlier : List (List ℕ)) (is : List Input) (old new : DeskState) (stop : Stop) → ReadsUpTo k earlier is old new stop
    → IsSilent old new
reads-silent k earlier [] old new stop p = absurd p
reads-silent k earlier (i ∷ is) old new stop (inl p) = stops-silent k i earlier old new stop p
reads-silent k earlier (i ∷ is) old new stop (inr p) =
    let s = reads-silent (k + 1) _ is (after_read old i.name) new stop p.3 in
    record { files = s.files; said = s.said }

-- ---- the promises of checks that were told

all-behind : {A : Type 0} (P : A → Type 0) (xs : List A) (y : A) → AllByRecursion P xs → P y → AllByRecursion P (xs ++ y ∷ [])
all-behind P [] y all last = (last, tt)
all-behind P (x ∷ xs) y all last = (all.0, all-behind P xs y all.1 last)

-- of all but the last of these, and of it
promise-parts : (how : How) (ms : List Made) (last : Made) → AllByRecursion (IsMade how) ms → IsMade how last
    → AllByRecursion (KeepsPromise how (kept_from 0 (ms ++ last ∷ []))) (tolds how.out 0 ms)
    × KeepsPromise how (kept_from 0 (ms ++ last ∷ [])) (told_of how.out (length ms) last)
promise-parts how ms last made is = (
  promise-all how 0 ms (kept_from 0 (ms ++ last ∷ [])) made (has-open ms last),
  promise-one how (length ms) last (kept_from 0 (ms ++ last ∷ [])) is (λ opens. has-last ms last),
)

promises : (how : How) (ms : List Made) → AllByRecursion (IsMade how) ms → AllByRecursion (KeepsPromise how (kept_from 0 ms)) (tolds how.out 0 ms)
promises how [] made = tt
promises how (m ∷ ms) made = go (some-parts (m ∷ ms) (due_of m) (map due_of ms ++ []) refl)
  where
    go : HasParts (m ∷ ms) → AllByRecursion (KeepsPromise how (kept_from 0 (m ∷ ms))) (tolds how.out 0 (m ∷ ms))
    go p =
        let all : AllByRecursion (IsMade how) (p.earlier ++ p.last ∷ []) = subst (AllByRecursion (IsMade how)) p.made_is made in
        let both = promise-parts how p.earlier p.last (all-front (IsMade how) p.earlier (p.last ∷ []) all) (all-last (IsMade how) p.earlier p.last all) in
        subst (λ (ns : List Made). AllByRecursion (KeepsPromise how (kept_from 0 ns)) (tolds how.out 0 ns)) (sym p.made_is)
        (subst (AllByRecursion (KeepsPromise how (kept_from 0 (p.earlier ++ p.last ∷ [])))) (sym (tolds-last how.out p.earlier p.last))
        (all-behind (KeepsPromise how (kept_from 0 (p.earlier ++ p.last ∷ []))) (tolds how.out 0 p.earlier) (told_of how.out (length p.earlier) p.last)
        both.0 both.1))

keeps-some : (stop : Stop) (kept all : List Kept) → KeepsOn stop kept all → AreSome kept all × (code_of (status_of stop) ≡ 6 → kept ≡ all)
keeps-some OutOfMemory kept all keeps = (keeps, λ code. absurd (omega (arith, code)))
keeps-some CannotWrite kept all keeps = (subst (AreSome kept) keeps (some-all kept), λ code. keeps)
keeps-some (CannotRead file) kept all keeps = (subst (AreSome kept) keeps (some-all kept), λ code. keeps)
keeps-some (TooLong file) kept all keeps = (subst (AreSome kept) keeps (some-all kept), λ code. keeps)
keeps-some (BadFile file text) kept all keeps = (subst (AreSome kept) keeps (some-all kept), λ code. keeps)
keeps-some (NotAlike text) kept all keeps = (subst (AreSome kept) keeps (some-all kept), λ code. keeps)

-- ---- their files

tolds-length : (out : Option (List ℕ)) (number : ℕ) (ms : List Made) → length (tolds out number ms) ≡ length ms
tolds-length out number [] = refl
tolds-length out number (m ∷ ms) = omega (arith, tolds-length out (number + 1) ms)

-- files that stood stand where those of a later check were written in part
still-each : (prefix : List ℕ) (number next : ℕ) (ms : List Made) (mid after : Files) → number + length ms ≤ next → next < 2 ^ 64
    → ((q : List ℕ) → IsNoFile prefix next q → after q ≡ mid q) → AllByRecursion (HasFiles prefix mid) (tolds (Some prefix) number ms)
    → AllByRecursion (HasFiles prefix after) (tolds (Some prefix) number ms)
still-each prefix number next [] mid after below small same each = tt
still-each prefix number next (m ∷ ms) mid after below small same each = (
  (
    same (cnf_name prefix number) (
      λ e. absurd (omega (arith, below, cnf-number prefix number next (omega (arith, below, small)) small e)),
      cnf-no-proof prefix number next,
    ) ∙ each.0.0,
    same (proof_name prefix number) (
      λ e. cnf-no-proof prefix next number (sym e),
      λ e. absurd (omega (arith, below, proof-number prefix number next (omega (arith, below, small)) small e)),
    ) ∙ each.0.1,
  ),
  still-each prefix (number + 1) next ms mid after (omega (arith, below)) small same each.1,
)

few-made : (net : AigPair) (lines : List (List ℕ)) (ms : List Made) (others : List Due) → length lines ≤ limit
    → map due_of ms ++ others ≡ (plan_of net lines).checks → length ms < 2 ^ 64
few-made net lines ms others few checks =
    omega (
      arith,
      ap (λ (ds : List Due). length ds) checks,
      length-append (map due_of ms) others,
      length-map ms due_of,
      plan-count net lines,
      few,
      lit< {m = 1073741826} {n = 2 ^ 64} tt,
    )

-- where nothing more was written
stand-all : (out : Option (List ℕ)) (ms : List Made) (names : List (List ℕ)) (before : Files) → length ms < 2 ^ 64
    → StandUnder out (tolds out 0 ms) names before (left_all out (tolds out 0 ms) before)
stand-all out ms names before small = go out names (leaves-under out ms before small)
  where
    go : (o : Option (List ℕ)) (names : List (List ℕ)) → LeavesUnder o (tolds o 0 ms) before (left_all o (tolds o 0 ms) before)
        → StandUnder o (tolds o 0 ms) names before (left_all o (tolds o 0 ms) before)
    go None [] same = same
    go None (name ∷ names) same = λ q others. ap (λ (f : Files). f q) same
    go (Some prefix) names l = record { each = l.each; others = λ q none next others. l.others q none }

-- and with a witness
stand-whole : (out witness : Option (List ℕ)) → IsOutside out witness → (ms : List Made) (dues : List Due) (names : List (List ℕ)) (before : Files)
    → length ms < 2 ^ 64 → StandAll out witness (tolds out 0 ms) dues names before (shown_all out witness (tolds out 0 ms) before)
stand-whole out None outside ms dues names before small =
    subst (StandUnder out (tolds out 0 ms) names before) (sym (none-shown out (tolds out 0 ms) before)) (stand-all out ms names before small)
stand-whole out (Some name) outside ms dues names before small = record {
  without = left_all out (tolds out 0 ms) before;
  under = stand-all out ms names before small;
  there = inl (witness-there out name outside ms before small);
  others = λ q other. others-same out name (tolds out 0 ms) before before q other refl;
}

-- files that hold this under one name
abbrev with_at : List ℕ → Option (List ℕ) → Files → Files
with_at name held files q = if bytes_eq name q then held else files q

at-other : (name : List ℕ) (held : Option (List ℕ)) (files : Files) (q : List ℕ) → q ≢ name → with_at name held files q ≡ files q
at-other name held files q other = rw (eq-other name q other) refl

-- which others hold there, and everywhere else where the first do
at-same : (name : List ℕ) (files others : Files) (q : List ℕ) → (q ≢ name → files q ≡ others q) → with_at name (others name) files q ≡ others q
at-same name files others q same = go (bytes_eq name q) refl
  where
    go : (b : Bool) → bytes_eq name q ≡ b → with_at name (others name) files q ≡ others q
    go true is = rw is (ap others ((bytes_eq-Decides name q).0 is))
    go false is =
        rw is (same (λ e. let t : bytes_eq name q ≡ true = (bytes_eq-Decides name q).1 (sym e) in cc))

-- where the next check was told in part
record HalfStands (out witness : Option (List ℕ)) (ts : List Told) (dues : List Due) (before : Files) (now : Option Files) : Type 0 where
  after : Files
  are : now ≡ Some after
  stand : StandAll out witness ts dues [] before after

-- it left no witness
stand-half : (out : Option (List ℕ)) (ms : List Made) (half : Made) (dues : List Due) (before : Files) (mid new : DeskState) (stop : Stop) → length ms < 2 ^ 64
    → mid.files ≡ Some (left_all out (tolds out 0 ms) before)
    → Leaves (left_of out None (length ms) half) (text_of_check out half) mid new (Err stop)
    → HalfStands out None (tolds out 0 ms) dues before new.files
stand-half None ms half dues before mid new stop small told p =
    record {
      after = left_all None (tolds None 0 ms) before;
      are = none-left (text_of_check None half) mid new stop p ∙ told;
      stand = leaves-under None ms before small;
    }
stand-half (Some prefix) ms half dues before mid new stop small told p =
    let ts : List Told = tolds (Some prefix) 0 ms in
    let there : Files = left_all (Some prefix) ts before in
    let f = (half-left (left_of (Some prefix) None (length ms) half) (text_of_check (Some prefix) half) mid new stop p).files there told in
    let l = leaves-under (Some prefix) ms before small in
    let count : length ts ≡ length ms = tolds-length (Some prefix) 0 ms in
    record {
      after = f.after;
      are = f.are;
      stand = record {
        each = still-each prefix 0 (length ms) ms there f.after (omega arith) small (λ q none. f.others q (none.0, (none.1, tt))) l.each;
        others = λ q none next others.
            let behind : IsNoFile prefix (length ms) q = subst (λ (n : ℕ). IsNoFile prefix n q) count next in
            f.others q (behind.0, (behind.1, tt)) ∙ l.others q none;
      };
    }

-- or it did, or may have
no-witness : (name : List ℕ) (net : AigPair) (found : Finding) (q : List ℕ) → q ≢ name → AllByRecursion (λ o. q ≢ o.name) (witness_files name net found)
no-witness name net Equivalent q other = tt
no-witness name net (Different j input) q other = (other, tt)
no-witness name net Undecided q other = tt

all-both : {A : Type 0} (P : A → Type 0) (xs ys : List A) → AllByRecursion P xs → AllByRecursion P ys → AllByRecursion P (xs ++ ys)
all-both P [] ys first later = later
all-both P (x ∷ xs) ys first later = (first.0, all-both P xs ys first.1 later)

module _ (name : List ℕ) (ms : List Made) (half : Made) (before : Files) (mid new : DeskState) (stop : Stop) (small : length ms < 2 ^ 64) where
  abbrev Half : Option (List ℕ) → Type 0
  Half out = HalfFiles (left_of out (Some name) (length ms) half) (shown_all out (Some name) (tolds out 0 ms) before) new.files

  half-other : (out : Option (List ℕ)) (f : Half out) (q : List ℕ) → AllByRecursion (λ o. q ≢ o.name) (outputs_of out (length ms) half) → q ≢ name
      → f.after q ≡ left_all out (tolds out 0 ms) before q
  half-other out f q none other =
      f.others q (all-both (λ o. q ≢ o.name) (outputs_of out (length ms) half) (witness_files name half.net half.finding) none
      (no-witness name half.net half.finding q other))
      ∙ others-same out name (tolds out 0 ms) before before q other refl

  stand-beside : (out : Option (List ℕ)) (due : Due) (dues : List Due) → Half out
      → HalfStands out (Some name) (tolds out 0 ms) (due ∷ dues) before new.files
  stand-beside None due dues f = record {
    after = f.after;
    are = f.are;
    stand = record {
      without = left_all None (tolds None 0 ms) before;
      under = leaves-under None ms before small;
      there = inr (λ none. cc);
      others = λ q other. half-other None f q tt other;
    };
  }
  stand-beside (Some prefix) due dues f =
      let ts : List Told = tolds (Some prefix) 0 ms in
      let there : Files = left_all (Some prefix) ts before in
      let without : Files = with_at name (there name) f.after in
      let l = leaves-under (Some prefix) ms before small in
      let count : length ts ≡ length ms = tolds-length (Some prefix) 0 ms in
      let same : (q : List ℕ) → IsNoFile prefix (length ms) q → without q ≡ there q =
      λ q none. at-same name f.after there q (λ other. half-other (Some prefix) f q (none.0, (none.1, tt)) other) in
      record {
        after = f.after;
        are = f.are;
        stand = record {
          without = without;
          under = record {
            each = still-each prefix 0 (length ms) ms there without (omega arith) small same l.each;
            others = λ q none next others.
                same q (subst (λ (n : ℕ). IsNoFile prefix n q) count next) ∙ l.others q none;
          };
          there = inr (λ none. cc);
          others = λ q other. sym (at-other name (there name) f.after q other);
        };
      }

stand-next : (out witness : Option (List ℕ)) (ms : List Made) (half : Made) (due : Due) (dues : List Due) (before : Files) (mid new : DeskState) (stop : Stop)
    → length ms < 2 ^ 64 → mid.files ≡ Some (shown_all out witness (tolds out 0 ms) before)
    → Leaves (left_of out witness (length ms) half) (text_of_check out half) mid new (Err stop)
    → HalfStands out witness (tolds out 0 ms) (due ∷ dues) before new.files
stand-next out None ms half due dues before mid new stop small told p =
    stand-half out ms half (due ∷ dues) before mid new stop small (told ∙ ap (λ (f : Files). Some f) (none-shown out (tolds out 0 ms) before)) p
stand-next out (Some name) ms half due dues before mid new stop small told p =
    stand-beside name ms half before mid new stop small out due dues
    ((half-left (left_of out (Some name) (length ms) half) (text_of_check out half) mid new stop p).files
    (shown_all out (Some name) (tolds out 0 ms) before) told)

-- no lemmas are saved before the last check was told
none-saved : (save : Option (List ℕ)) (refused : Option Refused) (due : Due) (dues : List Due) → saved_behind save refused (due ∷ dues) ≡ []
none-saved save None due dues = refl
none-saved save (Some line) due dues = refl

-- behind it they were saved in part
stand-saved : (c : CheckCommand) → IsApart c → (name : List ℕ) → c.save ≡ Some name → (ms : List Made) (before after : Files) → length ms < 2 ^ 64
    → ((q : List ℕ) → q ≢ name → after q ≡ left_all c.out (tolds c.out 0 ms) before q)
    → StandUnder c.out (tolds c.out 0 ms) (name ∷ []) before after
stand-saved c apart name save ms before after small same = go c.out refl same (leaves-under c.out ms before small)
  where
    go : (o : Option (List ℕ)) → c.out ≡ o → ((q : List ℕ) → q ≢ name → after q ≡ left_all o (tolds o 0 ms) before q)
        → LeavesUnder o (tolds o 0 ms) before (left_all o (tolds o 0 ms) before) → StandUnder o (tolds o 0 ms) (name ∷ []) before after
    go None out same l = λ q others. same q others.0 ∙ ap (λ (f : Files). f q) l
    go (Some prefix) out same l = record {
      each = still c apart prefix out (left_all (Some prefix) (tolds (Some prefix) 0 ms) before) after (λ q other. same q (other name save))
          0 ms (omega (arith, small)) l.each;
      others = λ q none next others. same q others.0 ∙ l.others q none;
    }

-- what they leave without a witness
abbrev unshown : CheckCommand → List Made → Files → Files
unshown c ms before = left_all c.out (tolds c.out 0 ms) before

-- and with a witness
stand-behind : (c : CheckCommand) (apart : IsApart c) (name : List ℕ) → c.save ≡ Some name → (ms : List Made) (before after : Files) → length ms < 2 ^ 64
    → ((q : List ℕ) → q ≢ name → after q ≡ shown_all c.out c.witness (tolds c.out 0 ms) before q)
    → StandAll c.out c.witness (tolds c.out 0 ms) [] (name ∷ []) before after
stand-behind c apart name save ms before after small same = go c.witness refl apart.witness same
  where
    go : (w : Option (List ℕ)) → c.witness ≡ w → IsOutside c.out w
        → ((q : List ℕ) → q ≢ name → after q ≡ shown_all c.out w (tolds c.out 0 ms) before q)
        → StandAll c.out w (tolds c.out 0 ms) [] (name ∷ []) before after
    go None named outside same =
        stand-saved c apart name save ms before after small
        (λ q other. same q other ∙ ap (λ (f : Files). f q) (none-shown c.out (tolds c.out 0 ms) before))
    go (Some w) named outside same = record {
      without = with_at w (unshown c ms before w) after;
      under = stand-saved c apart name save ms before (with_at w (unshown c ms before w) after) small
          (λ q other. at-same w after (unshown c ms before) q (λ beside. same q other ∙ others-same c.out w (tolds c.out 0 ms) before before q beside refl));
      there = inl (same w (apart.beside w name named save) ∙ witness-there c.out w outside ms before small);
      others = λ q other. sym (at-other w (unshown c ms before w) after q other);
    }

-- in the file that is named
save-named : (save : Option (List ℕ)) (kept : List Kept) (s t : DeskState) (stop : Stop) → StopsAmong (saved_of save kept) s t stop
    → (name : List ℕ) × (save ≡ Some name)
save-named None kept s t stop p = absurd p
save-named (Some name) kept s t stop p = (name, refl)

nil-front : (xs ys : List ℕ) → [] ≡ xs ++ ys → xs ≡ []
nil-front [] ys is = refl
nil-front (x ∷ xs) ys is = cc

-- ---- a run that stops

module _ (c : CheckCommand) (apart : IsApart c) (old new : DeskState) (before : Files) (told : old.files ≡ Some before) (status : Status) (kept : List Kept) where
  -- the desk when the cause came, and the line that was warned of it
  same-warned : (mid : DeskState) (line : List ℕ) (named : Status) → Warns line named mid new status → IsSilent mid new
  same-warned mid line named (inl (is, inl p)) = same-silent mid new _ p refl refl
  same-warned mid line named (inl (is, inr p)) = same-silent mid new _ p.2.stays refl refl
  same-warned mid line named (inr p) = same-silent mid new mid p.1 refl refl

  -- a status of 6 is that of the cause
  cause-code : (mid : DeskState) (line : List ℕ) (named : Status) → Warns line named mid new status → code_of status ≡ 6 → code_of named ≡ 6
  cause-code mid line named (inl p) code = sym (ap code_of p.0) ∙ code
  cause-code mid line named (inr p) code = absurd (omega (arith, code, ap code_of p.0))

  nothing : (mid : DeskState) → kept ≡ [] → IsSilent old mid → IsSilent mid new → Stopped c old new status kept before
  nothing mid none at line = inl (record {
    files = line.files ∙ at.files ∙ told;
    none = none;
    part = [];
    said = inl refl;
    heard = λ earlier heard. line.said ∙ at.said ∙ heard ∙ ap (λ (x : List ℕ). Some x) (sym (append-nil earlier));
  })

  -- how many lemmas are taken is said in part
  opening-told : (mid : DeskState) (stop : Stop) → kept ≡ [] → OpensNot c old mid stop → IsSilent mid new → Stopped c old new status kept before
  opening-told mid stop none p line = elim p.stops [
    | inl q ↦
        nothing mid none (same-silent old mid (after_lemmas c old) q.1 (lemmas-keep c old).files (lemmas-keep c old).said) line
    | inr q ↦
        let k = lemmas-keep c old in
        let text : List ℕ = opening_text (Some p.entries) q.0 in
        let half = half-left [] text (after_lemmas c old) mid stop q.2 in
        inl (record {
          files = line.files ∙ none-left text (after_lemmas c old) mid stop q.2 ∙ k.files ∙ told;
          none = none;
          part = half.part;
          said = inr (record {
            net = p.net;
            pair = spells-pair c old before told p.net p.asks.pair;
            lemmas = Some p.entries;
            from = q.0;
            loads = loads-are c old before told p.net p.lines (Some p.entries) p.asks q.0 q.1;
            rest = half.rest;
            is_part = half.is_part;
          });
          heard = λ earlier heard. line.said ∙ half.said earlier (k.said ∙ heard);
        })
  ]

  module _ (net : AigPair) (lines : List (List ℕ)) (lemmas : Option (List Entry)) (asks : AsksFor c old net lines lemmas) (from : Opening)
      (opens : IsOpening (how_of c).options net lemmas from) (mid : DeskState) (line : IsSilent mid new) where
    script : IsScript c.edits before lines × (length lines ≤ limit)
    script = spells-script c old before told net lines lemmas asks

    loads : Loads c before net lemmas from
    loads = loads-are c old before told net lines lemmas asks from opens

    abbrev start : DeskState
    start = at_start c old lemmas from

    abbrev text : List ℕ
    text = opening_text lemmas from

    -- some checks were told whole, and no other in part
    whole-told : (ms : List Made) (others : List Due) (at : DeskState) → IsSilent at new → GoesOn (how_of c) from (plan_of net lines) start ms others at
        → AreSome kept (kept_from 0 ms) → (code_of status ≡ 6 → kept ≡ kept_from 0 ms) → Stopped c old new status kept before
    whole-told ms others at same p some all =
        let k = start-keeps c old lemmas from in
        let left = all-left (how_of c) 0 ms start at p.told in
        let small = few-made net lines ms others script.1 p.checks in
        inr (record {
          net = net;
          pair = spells-pair c old before told net asks.pair;
          lines = lines;
          script = script.0;
          lemmas = lemmas;
          from = from;
          loads = loads;
          told = tolds c.out 0 ms;
          others = others;
          checks = ap (λ (ds : List Due). ds ++ others) (tolds-due c.out 0 ms) ∙ p.checks;
          numbers = tolds-numbered c.out 0 ms;
          books = kept_from 0 ms;
          some = some;
          all = all;
          promises = promises (how_of c) ms (told-made (how_of c) 0 ms start at p.told);
          part = [];
          next = inl refl;
          heard = λ earlier heard.
              let texts : List ℕ = flat_map (λ (t : Told). t.said) (tolds c.out 0 ms) in
              same.said ∙ left.said (earlier ++ text) (k.said earlier heard)
              ∙ ap (λ (x : List ℕ). Some x) (sym (append-nil ((earlier ++ text) ++ texts)));
          after = shown_all c.out c.witness (tolds c.out 0 ms) before;
          files = same.files ∙ left.files before (k.files ∙ told);
          stand = stand-whole c.out c.witness apart.witness ms others (saved_behind c.save (plan_of net lines).refused others) before small;
        })

    -- and the next one in part
    half-told : (stop : Stop) → BreaksOff (how_of c) from (plan_of net lines) start mid kept stop → (code_of status ≡ 6 → code_of (status_of stop) ≡ 6)
        → Stopped c old new status kept before
    half-told stop p code =
        let k = start-keeps c old lemmas from in
        let ms : List Made = p.made in
        let left = all-left (how_of c) 0 ms start p.mid p.before.told in
        let small = few-made net lines ms (due_of p.half ∷ p.others) script.1 p.before.checks in
        let begun : DeskState = p.breaks.0 in
        let same = progress-else c.progress p.mid begun p.breaks.1 in
        let there : begun.files ≡ Some (shown_all c.out c.witness (tolds c.out 0 ms) before) = same.files ∙ left.files before (k.files ∙ told) in
        let half = half-left (left_of c.out c.witness (length ms) p.half) (text_of_check c.out p.half) begun mid stop p.breaks.2 in
        let stands = stand-next c.out c.witness ms p.half (due_of p.half) p.others before begun mid stop small there p.breaks.2 in
        let both = promise-parts (how_of c) ms p.half (told-made (how_of c) 0 ms start p.mid p.before.told) p.is_made in
        let keeps = keeps-some stop kept (kept_from 0 (ms ++ p.half ∷ [])) p.keeps in
        inr (record {
          net = net;
          pair = spells-pair c old before told net asks.pair;
          lines = lines;
          script = script.0;
          lemmas = lemmas;
          from = from;
          loads = loads;
          told = tolds c.out 0 ms;
          others = due_of p.half ∷ p.others;
          checks = ap (λ (ds : List Due). ds ++ due_of p.half ∷ p.others) (tolds-due c.out 0 ms) ∙ p.before.checks;
          numbers = tolds-numbered c.out 0 ms;
          books = kept_from 0 (ms ++ p.half ∷ []);
          some = keeps.0;
          all = λ is. keeps.1 (code is);
          promises = both.0;
          part = half.part;
          next = inr (record {
            next = told_of c.out (length ms) p.half;
            number_is = sym (tolds-length c.out 0 ms);
            later = p.others;
            due = refl;
            promise = both.1;
            rest = half.rest;
            is_part = half.is_part;
          });
          heard = λ earlier heard.
              let texts : List ℕ = flat_map (λ (t : Told). t.said) (tolds c.out 0 ms) in
              line.said ∙ half.said ((earlier ++ text) ++ texts) (same.said ∙ left.said (earlier ++ text) (k.said earlier heard));
          after = stands.after;
          files = line.files ∙ stands.are;
          stand = subst
              (λ (names : List (List ℕ)). StandAll c.out c.witness (tolds c.out 0 ms) (due_of p.half ∷ p.others) names before stands.after)
              (sym (none-saved c.save (plan_of net lines).refused (due_of p.half) p.others)) stands.stand;
        })

    -- all were told, and their lemmas aren't saved whole
    not-saved : (stop : Stop) → NotSaved (how_of c) from (plan_of net lines) c.save start mid kept stop → Stopped c old new status kept before
    not-saved stop p =
        let k = start-keeps c old lemmas from in
        let l = is-last (how_of c) from net lines start p.mid p.status kept p.ends in
        let ms : List Made = l.earlier ++ l.last ∷ [] in
        let left = is-left c kept from net lines script.1 start p.mid l.earlier l.last l.whole l.keeps in
        let small = few-told c kept from net lines script.1 start p.mid l.earlier l.last l.whole l.keeps in
        let book = book-last c kept from net lines script.1 start p.mid l.earlier l.last l.whole l.keeps in
        let there : p.mid.files ≡ Some (shown_all c.out c.witness (tolds c.out 0 ms) before) = left.files before (k.files ∙ told) in
        let os : List Output = saved_of c.save kept in
        let half = half-left os [] p.mid mid stop (stops-among os p.mid mid stop p.stops []) in
        let none : half.part ≡ [] = nil-front half.part half.rest half.is_part in
        let f = half.files (shown_all c.out c.witness (tolds c.out 0 ms) before) there in
        let named = save-named c.save kept p.mid mid stop p.stops in
        let file : os ≡ saved_file named.0 l.last.book ∷ [] =
        ap (λ (o : Option (List ℕ)). saved_of o kept) named.1 ∙ saved-is named.0 kept l.last.book book in
        let names : saved_behind c.save (plan_of net lines).refused [] ≡ named.0 ∷ [] =
        ap (λ (r : Option Refused). saved_behind c.save r []) p.ends.accepted ∙ ap option_to_list named.1 in
        inr (record {
          net = net;
          pair = spells-pair c old before told net asks.pair;
          lines = lines;
          script = script.0;
          lemmas = lemmas;
          from = from;
          loads = loads;
          told = tolds c.out 0 ms;
          others = [];
          checks = ap (λ (ds : List Due). ds ++ []) (tolds-due c.out 0 ms) ∙ l.whole.checks;
          numbers = tolds-numbered c.out 0 ms;
          books = kept_from 0 ms;
          some = subst (AreSome kept) l.keeps (some-all kept);
          all = λ is. l.keeps;
          promises = promises (how_of c) ms (told-made (how_of c) 0 ms start p.mid l.whole.told);
          part = [];
          next = inl refl;
          heard = λ earlier heard.
              let texts : List ℕ = flat_map (λ (t : Told). t.said) (tolds c.out 0 ms) in
              line.said ∙ half.said ((earlier ++ text) ++ texts) (left.said (earlier ++ text) (k.said earlier heard))
              ∙ ap (λ (x : List ℕ). Some (((earlier ++ text) ++ texts) ++ x)) none;
          after = f.after;
          files = line.files ∙ f.are;
          stand = subst (λ (ns : List (List ℕ)). StandAll c.out c.witness (tolds c.out 0 ms) [] ns before f.after) (sym names)
              (stand-behind c apart named.0 named.1 ms before f.after small
              (λ q other. f.others q (subst (λ (xs : List Output). AllByRecursion (λ o. q ≢ o.name) xs) (sym file) (other, tt))));
        })

    checks-told : (stop : Stop) → StopsChecks (how_of c) from (plan_of net lines) start kept mid stop → (code_of status ≡ 6 → code_of (status_of stop) ≡ 6)
        → Stopped c old new status kept before
    checks-told stop (inl p) code = half-told stop p code
    checks-told stop (inr (inl p)) code =
        let same = progress-else c.progress p.mid mid p.warns in
        whole-told p.made p.others p.mid (record { files = line.files ∙ same.files; said = line.said ∙ same.said }) p.before p.keeps
        (λ is. absurd (omega (arith, code is, ap (λ (s : Stop). code_of (status_of s)) p.out)))
    checks-told stop (inr (inr p)) code =
        whole-told p.made [] mid line p.whole (subst (AreSome kept) p.keeps (some-all kept)) (λ is. p.keeps)

  stops-told : (mid : DeskState) (stop : Stop) → Stops c old kept mid stop → IsSilent mid new → (code_of status ≡ 6 → code_of (status_of stop) ≡ 6)
      → Stopped c old new status kept before
  stops-told mid stop (inl p) line code = nothing mid p.0 (reads-silent 0 [] (pair_of c) old mid stop p.1) line
  stops-told mid stop (inr (inl p)) line code = nothing mid p.0 (same-silent old mid (after_pair c old) p.1.new_is refl refl) line
  stops-told mid stop (inr (inr (inl p))) line code =
      let s = reads-silent 2 _ (script_of c ++ lemmas_of c.load) (after_pair c old) mid stop p.1.stops in
      nothing mid p.0 (record { files = s.files; said = s.said }) line
  stops-told mid stop (inr (inr (inr (inl p)))) line code = opening-told mid stop p.0 p.1 line
  stops-told mid stop (inr (inr (inr (inr p)))) line code = elim p.stops [
    | inl q ↦ checks-told p.net p.lines p.lemmas p.asks p.from p.opens mid line stop q code
    | inr q ↦ not-saved p.net p.lines p.lemmas p.asks p.from p.opens mid line stop q
  ]

  pub check-stopped : AnswersCheck c old new status kept → 6 ≤ code_of status → Stopped c old new status kept before
  check-stopped (inl p) above =
      let l = is-last (how_of c) p.from p.net p.lines (at_start c old p.lemmas p.from) p.mid status kept p.ends in
      absurd (omega (arith, above, subst (λ (s : Status). code_of s ≤ 2) l.status_is (finding-code l.last.finding)))
  check-stopped (inr p) above =
      stops-told p.mid p.stop p.cause (same-warned p.mid (stop_line (names_of c) p.stop) (status_of p.stop) p.warns)
      (cause-code p.mid (stop_line (names_of c) p.stop) (status_of p.stop) p.warns)

-- memory ran out before it was known what the words ask for
at-once : (c : CheckCommand) → IsApart c → (old new : DeskState) (status : Status) (kept : List Kept) (before : Files) → old.files ≡ Some before → kept ≡ []
    → EndsBy [] (IsAtOnce old) new status → Stopped c old new status kept before
at-once c apart old new status kept before told none p =
    nothing c apart old new before told status kept p.mid none (same-silent old p.mid old p.cause.1 refl refl)
    (same-warned c apart old new before told status kept p.mid (stop_line [] p.stop) (status_of p.stop) p.warns)

pub stopped : (words : List (List ℕ)) (old new : DeskState) (status : Status) (kept : List Kept)
    → ((words : List (List ℕ)) (r : Request) → Asks words r → ¬ (WantInfo words ⊎ AreRefused words))
    → Answers words old new status kept → (c : CheckCommand) → Asks words (CheckIt c) → IsApart c → (before : Files) → old.files ≡ Some before
    → 6 ≤ code_of status → Stopped c old new status kept before
stopped words old new status kept asked answers c asks apart before told above = elim answers [
  | inl p ↦
      let same : p.command ≡ c = ap (check_or c) (same_request words (CheckIt p.command) (CheckIt c) p.asked asks) in
      check-stopped c apart old new before told status kept (subst (λ (d : CheckCommand). AnswersCheck d old new status kept) same p.answers) above
  | inr (inl p) ↦ let t : LratIt p.command ≡ CheckIt c = same_request words (LratIt p.command) (CheckIt c) p.asked asks in cc
  | inr (inr (inl p)) ↦ let t : SelfIt p.command ≡ CheckIt c = same_request words (SelfIt p.command) (CheckIt c) p.asked asks in cc
  | inr (inr (inr (inl p))) ↦ let t : FraigIt p.command ≡ CheckIt c = same_request words (FraigIt p.command) (CheckIt c) p.asked asks in cc
  | inr (inr (inr (inr (inl p)))) ↦ absurd (asked words (CheckIt c) asks (inl p.wanted))
  | inr (inr (inr (inr (inr (inl p))))) ↦ absurd (asked words (CheckIt c) asks (inr p.refused))
  | inr (inr (inr (inr (inr (inr p))))) ↦ at-once c apart old new status kept before told p.none p.ends
]
