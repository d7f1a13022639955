-- What stands on the desk once checks were told, one after another.
use Rattle.std.proofs.Common.{◌≡◌, ◌≢◌, ℕ, ◌+◌, ◌<◌, ◌^◌, Bool, List, [], ◌∷◌, ◌++◌, length, option_map, Option, Some, None, Ok, refl, sym, ap, ◌∙◌, subst, arith, append_assoc, append-nil}
use Rattle.std.specs.Prelude.{codes, decimal, map}
use Rattle.std.specs.List.{AllByRecursion, flat_map}
use Rattle.std.proofs.lemmas.Fmt.{decimal_injective}
use Rattle.std.proofs.lemmas.List.{append_cancel_left, append_cancel_right}
use Rattle.desk_port.specs.Desk.{Files, DeskState, put, after_say}
use Rattle.check_session.specs.Files.{cnf_name, proof_name, cnf_text_of, proof_bytes}
use Rattle.endings.specs.Writing.{Output, Leaves, after_files}
use Rattle.cec_top.specs.Progress.{WarnsProgress}
use Rattle.cec_top.specs.Stats.{Reports}
use Rattle.cec_top.specs.Warned.{WarnsOnly}
use Rattle.cec_top.specs.Headline.{Told, AreNumbered, HasFiles, LeavesUnder, due_of_told}
use Rattle.cec_top.specs.Check.{How, Made, AreTold, due_of, left_of, lines_of, outputs_of, text_of_check, witness_files, witness_in}
use Rattle.cec_top.specs.Witness.{witness_text}
use Rattle.netlist.specs.Net.{AigPair}
use Rattle.check_session.specs.Finding.{Finding, Equivalent, Different, Undecided}
use Rattle.cec_top.proofs.WrittenLemmas.{eq-other, eq-same, files-saved, saved-append, with_saved}
use Rattle.cec_top.proofs.WarnedLemmas.{progress-else, progress-warns, reports-else, reports-warn, warns-none, warns-then}

-- what is left and said whole
pub left-whole : (os : List Output) (text : List ℕ) (old new : DeskState) → Leaves os text old new (Ok tt)
    → new ≡ after_say (after_files old os) text
left-whole [] text old new p = p
left-whole (o ∷ os) text old new p = left-whole os text _ new p

-- ---- names of files

-- the last element of a list that isn't empty
abbrev last_or : ℕ → List ℕ → ℕ
last_or d [] = d
last_or d (x ∷ xs) = last_or x xs

last-append : (d : ℕ) (xs : List ℕ) (y : ℕ) → last_or d (xs ++ y ∷ []) ≡ y
last-append d [] y = refl
last-append d (x ∷ xs) y = last-append x xs y

-- the names begin so
abbrev stem : List ℕ → ℕ → List ℕ
stem prefix number = prefix ++ codes "." ++ decimal number

-- a CNF's name is no proof's, whatever their numbers are
pub cnf-no-proof : (prefix : List ℕ) (i j : ℕ) → cnf_name prefix i ≢ proof_name prefix j
cnf-no-proof prefix i j same =
    let cnf : last_or 0 (cnf_name prefix i) ≡ 102 =
    ap (last_or 0) (sym (append_assoc (stem prefix i) (codes ".cn") (codes "f"))) ∙ last-append 0 (stem prefix i ++ codes ".cn") 102 in
    let proof : last_or 0 (proof_name prefix j) ≡ 116 =
    ap (last_or 0) (sym (append_assoc (stem prefix j) (codes ".lra") (codes "t"))) ∙ last-append 0 (stem prefix j ++ codes ".lra") 116 in
    absurd (omega (arith, cnf, proof, ap (last_or 0) same))

stem-number : (prefix : List ℕ) (i j : ℕ) → i < 2 ^ 64 → j < 2 ^ 64 → stem prefix i ≡ stem prefix j → i ≡ j
stem-number prefix i j small little same =
    decimal_injective i j small little (append_cancel_left (prefix ++ codes ".") (decimal i) (decimal j) same)

pub cnf-number : (prefix : List ℕ) (i j : ℕ) → i < 2 ^ 64 → j < 2 ^ 64 → cnf_name prefix i ≡ cnf_name prefix j → i ≡ j
cnf-number prefix i j small little same =
    stem-number prefix i j small little (append_cancel_right (stem prefix i) (stem prefix j) (codes ".cnf") same)

pub proof-number : (prefix : List ℕ) (i j : ℕ) → i < 2 ^ 64 → j < 2 ^ 64 → proof_name prefix i ≡ proof_name prefix j → i ≡ j
proof-number prefix i j small little same =
    stem-number prefix i j small little (append_cancel_right (stem prefix i) (stem prefix j) (codes ".lrat") same)

-- ---- checks as they were told

abbrev pub told_of : Option (List ℕ) → ℕ → Made → Told
told_of out number m = record {
  number = number;
  net = m.net;
  edits = m.edits;
  finding = m.finding;
  said = text_of_check out m;
  proof = proof_bytes m.net m.book.entries m.finding;
}

-- the checks from this number on
abbrev pub tolds : Option (List ℕ) → ℕ → List Made → List Told
tolds out number [] = []
tolds out number (m ∷ ms) = told_of out number m ∷ tolds out (number + 1) ms

tolds-last-from : (out : Option (List ℕ)) (number : ℕ) (ms : List Made) (last : Made)
    → tolds out number (ms ++ last ∷ []) ≡ tolds out number ms ++ told_of out (number + length ms) last ∷ []
tolds-last-from out number [] last =
    let count : number ≡ number + length {A = Made} [] = omega arith in
    ap (λ (n : ℕ). told_of out n last ∷ []) count
tolds-last-from out number (m ∷ ms) last =
    let count : (number + 1) + length ms ≡ number + length (m ∷ ms) = omega arith in
    ap (λ (ts : List Told). told_of out number m ∷ ts)
    (tolds-last-from out (number + 1) ms last ∙ ap (λ (n : ℕ). tolds out (number + 1) ms ++ told_of out n last ∷ []) count)

pub tolds-last : (out : Option (List ℕ)) (ms : List Made) (last : Made)
    → tolds out 0 (ms ++ last ∷ []) ≡ tolds out 0 ms ++ told_of out (length ms) last ∷ []
tolds-last out ms last =
    let count : 0 + length ms ≡ length ms = omega arith in
    tolds-last-from out 0 ms last ∙ ap (λ (n : ℕ). tolds out 0 ms ++ told_of out n last ∷ []) count

pub tolds-numbered : (out : Option (List ℕ)) (number : ℕ) (ms : List Made) → AreNumbered number (tolds out number ms)
tolds-numbered out number [] = tt
tolds-numbered out number (m ∷ ms) = (refl, tolds-numbered out (number + 1) ms)

pub tolds-due : (out : Option (List ℕ)) (number : ℕ) (ms : List Made) → map due_of_told (tolds out number ms) ≡ map due_of ms
tolds-due out number [] = refl
tolds-due out number (m ∷ ms) = ap (λ ds. due_of m ∷ ds) (tolds-due out (number + 1) ms)

-- ---- their files

-- the files after a check's two were written
abbrev pub with_both : List ℕ → Told → Files → Files
with_both prefix t before = put (proof_name prefix t.number) t.proof (put (cnf_name prefix t.number) (cnf_text_of t.net) before)

-- the files after one check, and after checks
abbrev pub under_by : Option (List ℕ) → Told → Files → Files
under_by None t before = before
under_by (Some prefix) t before = with_both prefix t before

abbrev pub left_all : Option (List ℕ) → List Told → Files → Files
left_all out [] before = before
left_all out (t ∷ ts) before = left_all out ts (under_by out t before)

-- a name that is none of a check's
abbrev pub IsOther : List ℕ → List ℕ → Told → Type 0
IsOther prefix q t = (q ≢ cnf_name prefix t.number) × (q ≢ proof_name prefix t.number)

pub both-other : (prefix : List ℕ) (t : Told) (before : Files) (q : List ℕ) → IsOther prefix q t → with_both prefix t before q ≡ before q
both-other prefix t before q other =
    rw (eq-other (proof_name prefix t.number) q other.1, eq-other (cnf_name prefix t.number) q other.0) refl

all-other : (prefix : List ℕ) (ts : List Told) (before : Files) (q : List ℕ) → AllByRecursion (IsOther prefix q) ts
    → left_all (Some prefix) ts before q ≡ before q
all-other prefix [] before q others = refl
all-other prefix (t ∷ ts) before q others =
    all-other prefix ts (with_both prefix t before) q others.1 ∙ both-other prefix t before q others.0

-- the names of a check are none of those of later ones
later-cnf : (prefix : List ℕ) (out : Option (List ℕ)) (k number : ℕ) (ms : List Made) → k < number → number + length ms < 2 ^ 64
    → AllByRecursion (IsOther prefix (cnf_name prefix k)) (tolds out number ms)
later-cnf prefix out k number [] below small = tt
later-cnf prefix out k number (m ∷ ms) below small = (
  (
    λ same. absurd (omega (arith, below, cnf-number prefix k number (omega (arith, below, small)) (omega (arith, small)) same)),
    cnf-no-proof prefix k number,
  ),
  later-cnf prefix out k (number + 1) ms (omega (arith, below)) (omega (arith, small)),
)

later-proof : (prefix : List ℕ) (out : Option (List ℕ)) (k number : ℕ) (ms : List Made) → k < number → number + length ms < 2 ^ 64
    → AllByRecursion (IsOther prefix (proof_name prefix k)) (tolds out number ms)
later-proof prefix out k number [] below small = tt
later-proof prefix out k number (m ∷ ms) below small = (
  (
    λ same. cnf-no-proof prefix number k (sym same),
    λ same. absurd (omega (arith, below, proof-number prefix k number (omega (arith, below, small)) (omega (arith, small)) same)),
  ),
  later-proof prefix out k (number + 1) ms (omega (arith, below)) (omega (arith, small)),
)

-- each check's files stand
all-files : (prefix : List ℕ) (number : ℕ) (ms : List Made) (before after : Files) → number + length ms < 2 ^ 64
    → ((q : List ℕ) → after q ≡ left_all (Some prefix) (tolds (Some prefix) number ms) before q)
    → AllByRecursion (HasFiles prefix after) (tolds (Some prefix) number ms)
all-files prefix number [] before after small is = tt
all-files prefix number (m ∷ ms) before after small is =
    let t : Told = told_of (Some prefix) number m in
    let later : List Told = tolds (Some prefix) (number + 1) ms in
    let both : Files = with_both prefix t before in (
      (
        is (cnf_name prefix number)
            ∙ all-other prefix later both (cnf_name prefix number)
            (later-cnf prefix (Some prefix) number (number + 1) ms (omega arith) (omega (arith, small)))
            ∙ rw (
              eq-other (proof_name prefix number) (cnf_name prefix number) (cnf-no-proof prefix number number),
              eq-same (cnf_name prefix number),
            ) refl,
        is (proof_name prefix number)
            ∙ all-other prefix later both (proof_name prefix number)
            (later-proof prefix (Some prefix) number (number + 1) ms (omega arith) (omega (arith, small)))
            ∙ rw (eq-same (proof_name prefix number)) refl,
      ),
      all-files prefix (number + 1) ms both after (omega (arith, small)) is,
    )

-- ---- and their witness

-- the files after the witness of one check
abbrev pub shown_in : List ℕ → AigPair → Finding → Files → Files
shown_in name net Equivalent before = before
shown_in name net (Different j input) before = put name (witness_text net.a input) before
shown_in name net Undecided before = before

abbrev pub with_witness : Option (List ℕ) → Told → Files → Files
with_witness None t before = before
with_witness (Some name) t before = shown_in name t.net t.finding before

-- after all files of checks
abbrev pub shown_all : Option (List ℕ) → Option (List ℕ) → List Told → Files → Files
shown_all out witness [] before = before
shown_all out witness (t ∷ ts) before = shown_all out witness ts (with_witness witness t (under_by out t before))

none-left : (ts : List Told) (before : Files) → left_all None ts before ≡ before
none-left [] before = refl
none-left (t ∷ ts) before = none-left ts before

pub leaves-under : (out : Option (List ℕ)) (ms : List Made) (before : Files) → length ms < 2 ^ 64
    → LeavesUnder out (tolds out 0 ms) before (left_all out (tolds out 0 ms) before)
leaves-under None ms before small = none-left (tolds None 0 ms) before
leaves-under (Some prefix) ms before small = record {
  each = all-files prefix 0 ms before (left_all (Some prefix) (tolds (Some prefix) 0 ms) before) (omega (arith, small)) (λ q. refl);
  others = λ q others. all-other prefix (tolds (Some prefix) 0 ms) before q others;
}

-- ---- the desk

abbrev texts : List Told → List ℕ
texts ts = flat_map (λ (t : Told). t.said) ts

-- what stands on the desk after these checks
pub record IsLeft (stats progress : Bool) (out witness : Option (List ℕ)) (ts : List Told) (old new : DeskState) : Type 0 where
  pub files : (before : Files) → old.files ≡ Some before → new.files ≡ Some (shown_all out witness ts before)
  pub said : (earlier : List ℕ) → old.said ≡ Some earlier → new.said ≡ Some (earlier ++ texts ts)
  pub quiet : WarnsOnly stats progress old new
  pub closed : old.started ≡ None → new.started ≡ None
  pub reads : new.read_faults ≡ old.read_faults
  pub writes : new.write_faults ≡ old.write_faults

-- after one
saved-witness : (name : List ℕ) (net : AigPair) (f : Finding) (before : Files) → with_saved (witness_files name net f) before ≡ shown_in name net f before
saved-witness name net Equivalent before = refl
saved-witness name net (Different j input) before = refl
saved-witness name net Undecided before = refl

saved-behind : (witness : Option (List ℕ)) (out : Option (List ℕ)) (number : ℕ) (m : Made) (before : Files)
    → with_saved (witness_in witness m.net m.finding) before ≡ with_witness witness (told_of out number m) before
saved-behind None out number m before = refl
saved-behind (Some name) out number m before = saved-witness name m.net m.finding before

saved-under : (out : Option (List ℕ)) (number : ℕ) (m : Made) (before : Files)
    → with_saved (outputs_of out number m) before ≡ under_by out (told_of out number m) before
saved-under None number m before = refl
saved-under (Some prefix) number m before = refl

saved-all : (out witness : Option (List ℕ)) (number : ℕ) (m : Made) (before : Files)
    → with_saved (left_of out witness number m) before ≡ shown_all out witness (told_of out number m ∷ []) before
saved-all out witness number m before =
    saved-append (outputs_of out number m) (witness_in witness m.net m.finding) before
    ∙ ap (with_saved (witness_in witness m.net m.finding)) (saved-under out number m before)
    ∙ saved-behind witness out number m (under_by out (told_of out number m) before)

one-left : (stats progress : Bool) (out witness : Option (List ℕ)) (number : ℕ) (m : Made) (old new : DeskState)
    → new ≡ after_say (after_files old (left_of out witness number m)) (text_of_check out m) → IsLeft stats progress out witness (told_of out number m ∷ []) old new
one-left stats progress out witness number m old new e =
    let k = files-saved (left_of out witness number m) old in
    record {
      files = λ before told.
          ap (λ (s : DeskState). s.files) e ∙ k.files before told ∙ ap (λ (f : Files). Some f) (saved-all out witness number m before);
      said = λ earlier heard.
          ap (λ (s : DeskState). s.said) e ∙ ap (option_map (λ x. x ++ text_of_check out m)) (k.said ∙ heard)
          ∙ ap (λ (x : List ℕ). Some (earlier ++ x)) (sym (append-nil (text_of_check out m)));
      quiet = warns-none stats progress old new (ap (λ (s : DeskState). s.warned) e ∙ k.warned) (ap (λ (s : DeskState). s.warn_faults) e ∙ k.warns);
      closed = λ none. ap (λ (s : DeskState). s.started) e ∙ k.closed none;
      reads = ap (λ (s : DeskState). s.read_faults) e ∙ k.reads;
      writes = ap (λ (s : DeskState). s.write_faults) e ∙ k.writes;
    }

-- and then its statistics
reported-left : (stats progress : Bool) (out witness : Option (List ℕ)) (ts : List Told) (m : Made) (old mid new : DeskState)
    → IsLeft stats progress out witness ts old mid → Reports stats m.net m.book.entries (lines_of out m) mid new
    → IsLeft stats progress out witness ts old new
reported-left stats progress out witness ts m old mid new left reports =
    let k = reports-else stats m.net m.book.entries (lines_of out m) mid new reports in
    record {
      files = λ before told. k.files ∙ left.files before told;
      said = λ earlier heard. k.said ∙ left.said earlier heard;
      quiet = warns-then stats progress old mid new left.quiet (reports-warn stats progress m.net m.book.entries (lines_of out m) mid new reports);
      closed = λ none. k.started ∙ left.closed none;
      reads = k.reads ∙ left.reads;
      writes = k.writes ∙ left.writes;
    }

-- and before it its progress
begun-left : (stats progress : Bool) (out witness : Option (List ℕ)) (ts : List Told) (old begun new : DeskState) → WarnsProgress progress old begun
    → IsLeft stats progress out witness ts begun new → IsLeft stats progress out witness ts old new
begun-left stats progress out witness ts old begun new warns left =
    let k = progress-else progress old begun warns in
    record {
      files = λ before told. left.files before (k.files ∙ told);
      said = λ earlier heard. left.said earlier (k.said ∙ heard);
      quiet = warns-then stats progress old begun new (progress-warns stats progress old begun warns) left.quiet;
      closed = λ none. left.closed (k.started ∙ none);
      reads = left.reads ∙ k.reads;
      writes = left.writes ∙ k.writes;
    }

both-left : (stats progress : Bool) (out witness : Option (List ℕ)) (t : Told) (ts : List Told) (old mid new : DeskState)
    → IsLeft stats progress out witness (t ∷ []) old mid → IsLeft stats progress out witness ts mid new → IsLeft stats progress out witness (t ∷ ts) old new
both-left stats progress out witness t ts old mid new first later = record {
  files = λ before told. later.files (with_witness witness t (under_by out t before)) (first.files before told);
  said = λ earlier heard.
      later.said (earlier ++ texts (t ∷ [])) (first.said earlier heard)
      ∙ ap (λ (x : List ℕ). Some ((earlier ++ x) ++ texts ts)) (append-nil t.said)
      ∙ ap (λ (x : List ℕ). Some x) (append_assoc earlier t.said (texts ts));
  quiet = warns-then stats progress old mid new first.quiet later.quiet;
  closed = λ none. later.closed (first.closed none);
  reads = later.reads ∙ first.reads;
  writes = later.writes ∙ first.writes;
}

-- after all
pub all-left : (how : How) (number : ℕ) (ms : List Made) (old new : DeskState) → AreTold how number ms old new
    → IsLeft how.stats how.progress how.out how.witness (tolds how.out number ms) old new
all-left how number [] old new told =
    subst (λ (s : DeskState). IsLeft how.stats how.progress how.out how.witness [] old s) (sym told) (record {
      files = λ before told. told;
      said = λ earlier heard. heard ∙ ap (λ (x : List ℕ). Some x) (sym (append-nil earlier));
      quiet = warns-none how.stats how.progress old old refl refl;
      closed = λ none. none;
      reads = refl;
      writes = refl;
    })
all-left how number (m ∷ ms) old new told =
    let told_m : List Told = told_of how.out number m ∷ [] in
    let t = told.2 in
    both-left how.stats how.progress how.out how.witness (told_of how.out number m) (tolds how.out (number + 1) ms) old told.0 new
    (begun-left how.stats how.progress how.out how.witness told_m old t.0 told.0 t.2
    (reported-left how.stats how.progress how.out how.witness told_m m t.0 t.1 told.0
    (one-left how.stats how.progress how.out how.witness number m t.0 t.1
    (left-whole (left_of how.out how.witness number m) (text_of_check how.out m) t.0 t.1 t.3)) t.4))
    (all-left how (number + 1) ms told.0 new told.3)
