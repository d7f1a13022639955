-- What each status promises where a reduced circuit is asked for, from what the program answers.
use Rattle.std.proofs.Common.{◌≡◌, ◌≢◌, ℕ, ◌<◌, ◌≤◌, inl, inr, false, List, [], ◌∷◌, ◌++◌, option_map, Option, Some, None, Err, refl, sym, ap, ◌∙◌, subst, arith, append-nil, append_assoc}
use Rattle.std.specs.Prelude.{◌⊎◌, IfSome, codes, decimal}
use Rattle.std.specs.List.{AllByRecursion}
use Rattle.std.proofs.lemmas.Fmt.{decimal_digit}
use Rattle.std.proofs.lemmas.Option.{same_Some}
use Rattle.desk_port.specs.Desk.{DeskState, Files, OfSomePrefix, Rose, after_say, put}
use Rattle.netlist.specs.Circuit.{Aig, IsCircuit}
use Rattle.circuit_text.specs.BinaryText.{IsInSequence, binary_text}
use Rattle.aiger_file.specs.File.{SpellsAiger}
use Rattle.endings.specs.declared.status.Status.{Status}
use Rattle.endings.specs.Status.{code_of}
use Rattle.endings.specs.declared.stop.Stop.{Stop}
use Rattle.endings.specs.declared.stop.Stop.TheVariants.{CannotRead, TooLong, BadFile, NotAlike, CannotWrite, OutOfMemory}
use Rattle.endings.specs.Reading.{after_reads}
use Rattle.endings.specs.Writing.{Output, Leaves, Says, StopsAmong, StopsIn, after_file, after_files}
use Rattle.endings.specs.Stops.{IsWarned, Warns, status_of, stop_line}
use Rattle.check_session.specs.Finding.{Equivalent}
use Rattle.check_session.specs.Files.{cnf_name, proof_name, cnf_text_of, proof_bytes}
use Rattle.command_line.specs.Saved.{IsFirstUnder}
use Rattle.command_line.specs.Words.{FraigCommand}
use Rattle.cec_top.specs.declared.kept.Kept.{Kept}
use Rattle.cec_top.specs.Answers.{KnowsNothing}
use Rattle.cec_top.specs.Check.{How, IsMade, outputs_of}
use Rattle.cec_top.specs.Complete.{NoFault}
use Rattle.cec_top.specs.Fraig.{AnswersFraig, BreaksFraig, EndsFraig, IsRight, ReadsCircuit, Reduction, StopsFraig, both, circuit_output, fraig_how, fraig_inputs, fraig_outputs, handed_back, reduced_text}
use Rattle.cec_top.specs.Headline.{Shows}
use Rattle.cec_top.specs.Reduced.{AllStand, CanReduce, HasProof, IsOther, IsReducedBy, IsReducedTo, MakesNothing, MakesPart, RefusesCircuit}
use Rattle.cec_top.proofs.ClosedLemmas.{leaves-code}
use Rattle.cec_top.proofs.CompleteLemmas.{IsExcused, excused-read, excused-verdict, leaves-stops, stops-file}
use Rattle.cec_top.proofs.HeadlineLemmas.{ends-code, file-spells, reads-keep}
use Rattle.cec_top.proofs.RefusedLemmas.{fault-at}
use Rattle.cec_top.proofs.WrittenLemmas.{files-saved, put-other, put-there, with_saved}
use Rattle.cec_top.proofs.StoppedLemmas.{half-left, none-left, reads-silent}
use Rattle.cec_top.proofs.TellLemmas.{stops-among}
use Rattle.cec_top.proofs.ToldLemmas.{cnf-no-proof, left-whole}
use Rattle.cec_top.proofs.VerdictLemmas.{are-equivalent}
use Rattle.cec_top.proofs.WordsLemmas.{once-code}

-- ---- the files that are left

-- the names of the proof's files
zero-text : decimal 0 ≡ codes "0"
zero-text = decimal_digit 0 (omega arith)

pub cnf-first : (prefix : List ℕ) → cnf_name prefix 0 ≡ prefix ++ codes ".0.cnf"
cnf-first prefix =
    ap (λ (d : List ℕ). prefix ++ codes "." ++ d ++ codes ".cnf") zero-text
    ∙ append_assoc (prefix ++ codes ".") (codes "0") (codes ".cnf")
    ∙ append_assoc prefix (codes ".") (codes "0" ++ codes ".cnf")

pub proof-first : (prefix : List ℕ) → proof_name prefix 0 ≡ prefix ++ codes ".0.lrat"
proof-first prefix =
    ap (λ (d : List ℕ). prefix ++ codes "." ++ d ++ codes ".lrat") zero-text
    ∙ append_assoc (prefix ++ codes ".") (codes "0") (codes ".lrat")
    ∙ append_assoc prefix (codes ".") (codes "0" ++ codes ".lrat")

-- the reduced circuit's is none of the proof's
abbrev pub IsApartFrom : FraigCommand → Type 0
IsApartFrom c = (prefix : List ℕ) → c.out ≡ Some prefix → ¬ IsFirstUnder prefix c.reduced

module _ (c : FraigCommand) (apart : IsApartFrom c) (r : Reduction) (is_right : IsMade (fraig_how c) (both r)) (before : Files) where
  abbrev start : Files
  start = put c.reduced (binary_text r.net.b) before

  abbrev ended : Option (List ℕ) → Files
  ended out = with_saved (outputs_of out 0 (both r)) start

  abbrev proof : List ℕ
  proof = proof_bytes r.net r.proof.entries Equivalent

  there : (out : Option (List ℕ)) → c.out ≡ out → ended out c.reduced ≡ Some (binary_text r.net.b)
  there None is = put-there c.reduced (binary_text r.net.b) before
  there (Some prefix) is =
      put-other (proof_name prefix 0) proof c.reduced (put (cnf_name prefix 0) (cnf_text_of r.net) start) (λ e. apart prefix is (inr (e ∙ proof-first prefix)))
      ∙ put-other (cnf_name prefix 0) (cnf_text_of r.net) c.reduced start (λ e. apart prefix is (inl (e ∙ cnf-first prefix)))
      ∙ put-there c.reduced (binary_text r.net.b) before

  has-proof : (out : Option (List ℕ)) → IfSome out (λ prefix. HasProof prefix (ended out) r.net)
  has-proof None = tt
  has-proof (Some prefix) =
      let how : How = record { options = (fraig_how c).options; out = Some prefix; witness = None; stats = false; progress = false } in
      let made : IsMade how (both r) = record { settled = is_right.settled; proof = is_right.proof } in
      record {
        cnf = put-other (proof_name prefix 0) proof (cnf_name prefix 0) (put (cnf_name prefix 0) (cnf_text_of r.net) start) (cnf-no-proof prefix 0 0)
            ∙ put-there (cnf_name prefix 0) (cnf_text_of r.net) start;
        bytes = proof;
        proof = put-there (proof_name prefix 0) proof (put (cnf_name prefix 0) (cnf_text_of r.net) start);
        refutes = (are-equivalent how 0 r.net [] r.proof Equivalent made refl).proof;
      }

  others : (out : Option (List ℕ)) → c.out ≡ out → (q : List ℕ) → IsOther c q → ended out q ≡ before q
  others None is q other = put-other c.reduced (binary_text r.net.b) q before other.reduced
  others (Some prefix) is q other =
      put-other (proof_name prefix 0) proof q (put (cnf_name prefix 0) (cnf_text_of r.net) start)
      (subst (λ (o : Option (List ℕ)). IfSome o (λ p. q ≢ proof_name p 0)) is other.proof)
      ∙ put-other (cnf_name prefix 0) (cnf_text_of r.net) q start (subst (λ (o : Option (List ℕ)). IfSome o (λ p. q ≢ cnf_name p 0)) is other.cnf)
      ∙ put-other c.reduced (binary_text r.net.b) q before other.reduced

  all-stand : AllStand c (ended c.out) r.net
  all-stand = record { there = there c.out refl; proof = has-proof c.out }

  -- OUT is none of the files of the proof
  none-over : AllByRecursion (λ o. c.reduced ≢ o.name) (outputs_of c.out 0 (both r))
  none-over = go c.out refl
    where
      go : (out : Option (List ℕ)) → c.out ≡ out → AllByRecursion (λ (o : Output). c.reduced ≢ o.name) (outputs_of out 0 (both r))
      go None is = tt
      go (Some prefix) is = (λ e. apart prefix is (inl (e ∙ cnf-first prefix)), (λ e. apart prefix is (inr (e ∙ proof-first prefix)), tt))

-- other names are none of theirs
none-named : (c : FraigCommand) (r : Reduction) (q : List ℕ) → IsOther c q → AllByRecursion (λ (o : Output). q ≢ o.name) (fraig_outputs c r)
none-named c r q other = (other.reduced, go c.out other.cnf other.proof)
  where
    go : (out : Option (List ℕ)) → IfSome out (λ prefix. q ≢ cnf_name prefix 0) → IfSome out (λ prefix. q ≢ proof_name prefix 0)
        → AllByRecursion (λ (o : Output). q ≢ o.name) (outputs_of out 0 (both r))
    go None cnf lines = tt
    go (Some prefix) cnf lines = (cnf, (lines, tt))

-- ---- what stands of OUT where it isn't told whole

-- one of the files isn't written whole, or the text isn't said whole behind them
leaves-cases : (os : List Output) (text : List ℕ) (old new : DeskState) (stop : Stop) → Leaves os text old new (Err stop)
    → StopsAmong os old new stop ⊎ Says text (after_files old os) new (Err stop)
leaves-cases [] text old new stop p = inr p
leaves-cases (o ∷ os) text old new stop (inl p) = inl (inl p)
leaves-cases (o ∷ os) text old new stop (inr p) = elim (leaves-cases os text (after_file old o) new stop p) [
  | inl q ↦ inl (inr q)
  | inr q ↦ inr q
]

at-name : (after files : Files) (now : Option Files) → now ≡ Some after → now ≡ Some files → (q : List ℕ) → after q ≡ files q
at-name after files now are is q = ap (λ (f : Files). f q) (same_Some after files (sym are ∙ is))

-- the file is as before, or a first part of its bytes stands in it
abbrev StandsSo : List ℕ → List ℕ → Files → Files → Type 0
StandsSo name bytes before after = (after name ≡ before name) ⊎ OfSomePrefix bytes (λ part. after name ≡ Some part)

stands-in : (o : Output) (old new : DeskState) (stop : Stop) → StopsIn o old new stop → (before after : Files) → old.files ≡ Some before
    → new.files ≡ Some after → StandsSo o.name o.bytes before after
stands-in o old new CannotWrite (inl w) before after told are =
    inl (at-name after before new.files are (ap (λ (s : DeskState). s.files) w.stays ∙ told) o.name)
stands-in o old new CannotWrite (inr (inl w)) before after told are = inr (
  [],
  (o.bytes, refl),
  at-name after (put o.name [] before) new.files are
      (ap (λ (s : DeskState). s.files) w.stays ∙ ap (option_map (put o.name [])) told) o.name
      ∙ put-there o.name [] before,
)
stands-in o old new CannotWrite (inr (inr (inl p))) before after told are = inr (
  p.0,
  p.1,
  at-name after (put o.name p.0 before) new.files are
      (ap (λ (s : DeskState). s.files) p.2.stays ∙ ap (option_map (put o.name p.0)) told) o.name
      ∙ put-there o.name p.0 before,
)
stands-in o old new CannotWrite (inr (inr (inr w))) before after told are = inr (
  o.bytes,
  ([], sym (append-nil o.bytes)),
  at-name after (put o.name o.bytes before) new.files are
      (ap (λ (s : DeskState). s.files) w.stays ∙ ap (option_map (put o.name o.bytes)) told) o.name
      ∙ put-there o.name o.bytes before,
)
stands-in o old new OutOfMemory (inl e) before after told are =
    inl (at-name after before new.files are (ap (λ (s : DeskState). s.files) e ∙ told) o.name)
stands-in o old new OutOfMemory (inr p) before after told are = inr (
  p.0,
  p.1,
  at-name after (put o.name p.0 before) new.files are
      (ap (λ (s : DeskState). s.files) p.2 ∙ ap (option_map (put o.name p.0)) told) o.name
      ∙ put-there o.name p.0 before,
)
stands-in o old new (CannotRead file) p before after told are = absurd p
stands-in o old new (TooLong file) p before after told are = absurd p
stands-in o old new (BadFile file why) p before after told are = absurd p
stands-in o old new (NotAlike why) p before after told are = absurd p

-- and so it is where one of the files behind it stops
stands-among : (o : Output) (os : List Output) (old new : DeskState) (stop : Stop) → AllByRecursion (λ (x : Output). o.name ≢ x.name) os
    → StopsAmong (o ∷ os) old new stop → (before after : Files) → old.files ≡ Some before → new.files ≡ Some after
    → StandsSo o.name o.bytes before after
stands-among o os old new stop apart (inl p) before after told are = stands-in o old new stop p before after told are
stands-among o os old new stop apart (inr p) before after told are =
    let half = half-left os [] (after_file old o) new stop (stops-among os (after_file old o) new stop p []) in
    let files = half.files (put o.name o.bytes before) (ap (option_map (put o.name o.bytes)) told) in
    inr (
      o.bytes,
      ([], sym (append-nil o.bytes)),
      at-name after files.after new.files are files.are o.name ∙ files.others o.name apart ∙ put-there o.name o.bytes before,
    )

none-part : (part rest : List ℕ) → [] ≡ part ++ rest → part ≡ []
none-part [] rest is = refl
none-part (b ∷ bs) rest is = cc

-- ---- each status

-- what holds of a circuit that was reduced
reduced-by : (c : FraigCommand) (old : DeskState) (before : Files) → old.files ≡ Some before → (r : Reduction) → ReadsCircuit c old r.net.a
    → IsRight (fraig_how c) r → ((x : Aig) → IsCircuit x → IsInSequence x → SpellsAiger (binary_text x) x) → (kept : List Kept)
    → kept ≡ handed_back r → IsReducedBy c kept before r.net
reduced-by c old before told r reads is_right written kept keeps = record {
  spells_a = file-spells old before told c.a reads.bytes r.net.a reads.read.0 reads.spells;
  book = r.book;
  handed = keeps;
  sweep_budget = is_right.sweep_budget;
  out_budget = is_right.out_budget;
  legal = is_right.legal;
  alone = is_right.alone;
  swept = is_right.swept;
  reduced = is_right.reduced;
  values = is_right.values;
  agree = is_right.equivalent.settled.means.agree;
  spells = written r.net.b is_right.circuit is_right.sequence;
}

module _ (c : FraigCommand) (old new : DeskState) (status : Status) (kept : List Kept)
    (answers : AnswersFraig c old new status kept ⊎ KnowsNothing old new status kept) where
  ends-whole : code_of status < 4 → EndsFraig c old new status kept
  ends-whole below = elim answers [
    | inl (inl p) ↦ p
    | inl (inr p) ↦ absurd (omega (arith, below, ends-code _ _ new status p))
    | inr p ↦ absurd (omega (arith, below, ends-code _ _ new status p.ends))
  ]

  pub reduced-to : IsApartFrom c → ((x : Aig) → IsCircuit x → IsInSequence x → SpellsAiger (binary_text x) x) → code_of status ≡ 0
      → Shows false false (IsReducedTo c kept) old new
  reduced-to apart written code before earlier told heard =
      let p = ends-whole (omega (arith, code)) in
      let r = p.made in
      let at = after_reads old (fraig_inputs c) in
      let read = reads-keep (fraig_inputs c) old in
      let os = fraig_outputs c r in
      let saved = files-saved os at in
      let whole : new ≡ after_say (after_files at os) (reduced_text r.net) = left-whole os (reduced_text r.net) at new p.tells in
      record {
        after = with_saved os before;
        said = reduced_text r.net;
        left = ap (λ (s : DeskState). s.files) whole ∙ saved.files before (read.files ∙ told);
        heard =
            ap (λ (s : DeskState). s.said) whole
            ∙ ap (option_map (λ (x : List ℕ). x ++ reduced_text r.net)) (saved.said ∙ read.said ∙ heard);
        quiet = (
          ap (λ (s : DeskState). s.warned) whole ∙ saved.warned ∙ read.warned,
          ap (λ (s : DeskState). s.warn_faults) whole ∙ saved.warns ∙ read.warns,
        );
        closed = λ none. ap (λ (s : DeskState). s.started) whole ∙ saved.closed (read.started ∙ none);
        promise = record {
          net = r.net;
          is_reduced = reduced-by c old before told r p.reads p.is_right written kept p.keeps;
          stand = all-stand c apart r p.is_right.equivalent before;
          others = others c apart r p.is_right.equivalent before c.out refl;
          says = refl;
        };
      }

  -- 1, 2 and 3 never come
  pub fraig-codes : (code_of status ≡ 0) ⊎ (4 ≤ code_of status)
  fraig-codes = elim answers [
    | inl (inl p) ↦ inl (ap code_of p.status_is)
    | inl (inr p) ↦ inr (omega (arith, ends-code _ _ new status p))
    | inr p ↦ inr (omega (arith, ends-code _ _ new status p.ends))
  ]

  -- a warning changes no file and says nothing
  warned-keeps : (mid : DeskState) (line : List ℕ) → IsWarned mid new line → (new.files ≡ mid.files) × (new.said ≡ mid.said)
  warned-keeps mid line (inl p) = (ap (λ (s : DeskState). s.files) p, ap (λ (s : DeskState). s.said) p)
  warned-keeps mid line (inr p) = (ap (λ (s : DeskState). s.files) p.2.stays, ap (λ (s : DeskState). s.said) p.2.stays)

  warns-keep : (mid : DeskState) (line : List ℕ) (named : Status) → Warns line named mid new status
      → (new.files ≡ mid.files) × (new.said ≡ mid.said)
  warns-keep mid line named (inl w) = warned-keeps mid line w.1
  warns-keep mid line named (inr w) = (ap (λ (s : DeskState). s.files) w.1, ap (λ (s : DeskState). s.said) w.1)

  module _ (before : Files) (told : old.files ≡ Some before) where
    -- ---- the file is refused

    refused-by : (mid : DeskState) (stop : Stop) → StopsFraig c old kept mid stop → code_of (status_of stop) ≡ 4
        → IsWarned mid new (stop_line (c.a ∷ []) stop) → RefusesCircuit c old new kept before
    refused-by mid stop (inr p) code w = absurd (omega (
      arith,
      code,
      leaves-code (fraig_outputs c p.made) (reduced_text p.made.net) (after_reads old (fraig_inputs c)) mid stop p.breaks,
    ))
    refused-by mid stop (inl p) code w = elim p.1 [
      | inl q ↦
          let f = fault-at before old told c.a (c.a ∷ []) 0 [] mid stop q code in
          let keeps = warned-keeps mid (stop_line (c.a ∷ []) stop) w in
          record {
            text = f.text;
            fault = f.fault;
            mid = mid;
            silent = ap (λ (s : DeskState). s.warned) f.at;
            warned = subst (IsWarned mid new) f.line w;
            files = keeps.0 ∙ ap (λ (s : DeskState). s.files) f.at ∙ told;
            said = keeps.1 ∙ ap (λ (s : DeskState). s.said) f.at;
            none = p.0;
          }
      | inr q ↦ absurd q.3
    ]

    pub refuses-circuit : code_of status ≡ 4 → RefusesCircuit c old new kept before
    refuses-circuit code = elim answers [
      | inl (inl p) ↦ absurd (omega (arith, code, ap code_of p.status_is))
      | inl (inr p) ↦ elim p.warns [
        | inl w ↦ refused-by p.mid p.stop p.cause (subst (λ (s : Status). code_of s ≡ 4) w.0 code) w.1
        | inr w ↦ absurd (omega (arith, code, ap code_of w.0))
      ]
      | inr p ↦ absurd (omega (arith, code, once-code old new status p.ends))
    ]

    -- ---- it isn't read or not told whole

    module _ (apart : IsApartFrom c) (written : (x : Aig) → IsCircuit x → IsInSequence x → SpellsAiger (binary_text x) x) where
      abbrev at : DeskState
      at = after_reads old (fraig_inputs c)

      at-told : at.files ≡ Some before
      at-told = (reads-keep (fraig_inputs c) old).files ∙ told

      -- a file isn't written whole
      in-files : (mid : DeskState) (stop : Stop) → (new.files ≡ mid.files) × (new.said ≡ mid.said) → (p : BreaksFraig c old mid kept stop)
          → StopsAmong (fraig_outputs c p.made) at mid stop → MakesPart c old new kept before
      in-files mid stop same p stops =
          let r = p.made in
          let half = half-left (fraig_outputs c r) [] at mid stop (stops-among (fraig_outputs c r) at mid stop stops []) in
          let files = half.files before at-told in
          record {
            net = r.net;
            is_reduced = reduced-by c old before told r p.reads p.is_right written kept p.keeps;
            after = files.after;
            files = same.0 ∙ files.are;
            out = stands-among (circuit_output c.reduced r.net.b) (outputs_of c.out 0 (both r)) at mid stop
                (none-over c apart r p.is_right.equivalent before) stops before files.after at-told files.are;
            others = λ q other. files.others q (none-named c r q other);
            part = [];
            rest = reduced_text r.net;
            is_part = refl;
            heard = λ earlier heard.
                same.1 ∙ half.said earlier ((reads-keep (fraig_inputs c) old).said ∙ heard)
                ∙ ap (λ (x : List ℕ). Some (earlier ++ x)) (none-part half.part half.rest half.is_part);
            told = inl refl;
          }

      -- the text isn't said whole
      in-text : (mid : DeskState) (stop : Stop) → (new.files ≡ mid.files) × (new.said ≡ mid.said) → (p : BreaksFraig c old mid kept stop)
          → Says (reduced_text p.made.net) (after_files at (fraig_outputs c p.made)) mid (Err stop) → MakesPart c old new kept before
      in-text mid stop same p says =
          let r = p.made in
          let os = fraig_outputs c r in
          let saved = files-saved os at in
          let half = half-left [] (reduced_text r.net) (after_files at os) mid stop says in
          record {
            net = r.net;
            is_reduced = reduced-by c old before told r p.reads p.is_right written kept p.keeps;
            after = with_saved os before;
            files = same.0 ∙ none-left (reduced_text r.net) (after_files at os) mid stop says ∙ saved.files before at-told;
            out = inr (binary_text r.net.b, ([], sym (append-nil (binary_text r.net.b))), (all-stand c apart r p.is_right.equivalent before).there);
            others = others c apart r p.is_right.equivalent before c.out refl;
            part = half.part;
            rest = half.rest;
            is_part = half.is_part;
            heard = λ earlier heard.
                same.1 ∙ half.said earlier (saved.said ∙ (reads-keep (fraig_inputs c) old).said ∙ heard);
            told = inr (all-stand c apart r p.is_right.equivalent before);
          }

      ends-so : (mid : DeskState) (stop : Stop) → StopsFraig c old kept mid stop → (new.files ≡ mid.files) × (new.said ≡ mid.said)
          → MakesNothing old new kept before ⊎ MakesPart c old new kept before
      ends-so mid stop (inl p) same =
          let silent = reads-silent 0 [] (fraig_inputs c) old mid stop p.1 in
          inl (record { files = same.0 ∙ silent.files ∙ told; said = same.1 ∙ silent.said; none = p.0 })
      ends-so mid stop (inr p) same =
          inr (elim (leaves-cases (fraig_outputs c p.made) (reduced_text p.made.net) at mid stop p.breaks) [
            | inl q ↦ in-files mid stop same p q
            | inr q ↦ in-text mid stop same p q
          ])

      pub fraig-stopped : 5 ≤ code_of status → MakesNothing old new kept before ⊎ MakesPart c old new kept before
      fraig-stopped above = elim answers [
        | inl (inl p) ↦ absurd (omega (arith, above, ap code_of p.status_is))
        | inl (inr p) ↦ ends-so p.mid p.stop p.cause (warns-keep p.mid _ _ p.warns)
        | inr p ↦
            let same = warns-keep p.ends.mid _ _ p.ends.warns in
            inl (record {
              files = same.0 ∙ ap (λ (s : DeskState). s.files) p.ends.cause.1 ∙ told;
              said = same.1 ∙ ap (λ (s : DeskState). s.said) p.ends.cause.1;
              none = p.none;
            })
      ]

  -- ---- it has to come to that

  excused : CanReduce c old → (mid : DeskState) (stop : Stop) → StopsFraig c old kept mid stop → IsExcused old mid stop
  excused can mid stop (inl p) = elim p.1 [
    | inl q ↦ excused-read old mid stop (stops-file old can.files can.told c.a can.circuit can.spells can.within 0 [] mid stop q)
    | inr q ↦ absurd q.3
  ]
  excused can mid stop (inr p) =
      elim (leaves-stops (fraig_outputs c p.made) (reduced_text p.made.net) (after_reads old (fraig_inputs c)) mid stop p.breaks) [
        | inl out ↦ inl out
        | inr rose ↦ inr (inr (subst (λ (n : ℕ). Rose n mid.write_faults) (reads-keep (fraig_inputs c) old).writes rose))
      ]

  verdict-code : (code_of status ≤ 2) ⊎ (code_of status ≡ 7) → 3 < code_of status → code_of status ≡ 7
  verdict-code (inl below) above = absurd (omega (arith, below, above))
  verdict-code (inr is) above = is

  pub fraig-complete : CanReduce c old → NoFault old new → (code_of status ≡ 0) ⊎ (code_of status ≡ 7)
  fraig-complete can none = elim answers [
    | inl (inl p) ↦ inl (ap code_of p.status_is)
    | inl (inr p) ↦ inr (verdict-code
        (excused-verdict _ old p.mid new p.stop status none p.warns (excused can p.mid p.stop p.cause)) (ends-code _ _ new status p))
    | inr p ↦ inr (once-code old new status p.ends)
  ]
