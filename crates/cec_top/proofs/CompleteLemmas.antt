-- A check that can be made comes to a verdict, where the desk has no fault and memory suffices.
use Rattle.std.proofs.Common.{◌≡◌, ◌≢◌, ℕ, ◌<◌, ◌≤◌, ◌^◌, inl, inr, List, [], ◌∷◌, ◌++◌, length, map, Option, Some, None, Ok, Err, refl, sym, ap, ap₂, ◌∙◌, subst, arith, eq-eqb}
use Rattle.std.specs.Prelude.{Result, ◌⊎◌, IfSome, IsSomeAnd, option_map}
use Rattle.std.specs.List.{AllByRecursion}
use Rattle.std.specs.Option.{option_to_list}
use Rattle.std.proofs.lemmas.List.{append-nil, map-append}
use Rattle.std.proofs.lemmas.Option.{none-some, same_Some}
use Rattle.desk_port.specs.Desk.{DeskState, Files, Rose, HasMore, after_read}
use Rattle.byte_scan.specs.declared.errors.AigerErr.{AigerErr}
use Rattle.netlist.specs.Circuit.{Aig}
use Rattle.netlist.specs.Net.{AigPair}
use Rattle.netlist.specs.Miter.{variables_of}
use Rattle.netlist.specs.Unlike.{unlike_of}
use Rattle.netlist.specs.Pairing.{matched_to, unlike_in}
use Rattle.netlist.proofs.Facts.{matched-is, none-against}
use Rattle.aiger_file.specs.File.{SpellsAiger}
use Rattle.endings.specs.declared.status.Status.{Status}
use Rattle.endings.specs.Status.{code_of}
use Rattle.endings.specs.declared.stop.Stop.{Stop}
use Rattle.endings.specs.declared.stop.Stop.TheVariants.{CannotRead, TooLong, BadFile, NotAlike, CannotWrite, OutOfMemory}
use Rattle.endings.specs.Reading.{FileIs, StopsAt, ReadsUpTo, limit}
use Rattle.endings.specs.Writing.{Output, Leaves, after_file}
use Rattle.endings.specs.Stops.{IsWarned, Warns, status_of, stop_line}
use Rattle.command_line.specs.Words.{CheckCommand, Request, CheckIt, FraigIt, LratIt, SelfIt, Asks, WantInfo, AreRefused}
use Rattle.cec_top.specs.declared.kept.Kept.{Kept}
use Rattle.book_file.specs.Reading.{SpellsBook}
use Rattle.lemma_book.specs.declared.entry.Entry.{Entry}
use Rattle.netlist_edits.specs.Script.{script_lines}
use Rattle.cec_top.specs.Headline.{AreLemmas, SpellPair, IsScript}
use Rattle.cec_top.specs.Script.{Due, Plan, plan_of}
use Rattle.check_session.specs.Finding.{Finding, Equivalent, Different, Undecided}
use Rattle.check_session.specs.Check.{IsWithinFor}
use Rattle.cec_top.specs.Check.{How, Opening, status_of_finding, BreaksOff, due_of, saved_of, StopsChecks, left_of, text_of_check}
use Rattle.cec_top.specs.Answers.{Answers, AnswersCheck, AreUnlike, AsksFor, OpensNot, Stops, StopsLater, IsAtOnce, pair_of, lemmas_of, how_of, after_lemmas, after_pair, at_start, opening_text}
use Rattle.cec_top.specs.Inputs.{fault_in, lemma_fault_in, circuit_file, script_file}
use Rattle.cec_top.specs.Complete.{NoFault, IsWithinLimit, CanCheck, IsAmple, HasVerdict}
use Rattle.cec_top.proofs.VerdictLemmas.{all-last, is-last, made-last}
use Rattle.cec_top.proofs.HeadlineLemmas.{FileSpells, ends-code, spells-pair, spells-script}
use Rattle.cec_top.proofs.SavingLemmas.{lemmas-keep, start-keeps}
use Rattle.cec_top.proofs.TellLemmas.{stops-among}
use Rattle.cec_top.proofs.WarnedLemmas.{progress-else}
use Rattle.cec_top.proofs.ToldLemmas.{all-left}
use Rattle.cec_top.proofs.WordsLemmas.{check_or, same_request}

-- memory ran out, or a fault was counted
abbrev pub IsExcused : DeskState → DeskState → Stop → Type 0
IsExcused old new stop = (stop ≡ OutOfMemory) ⊎ Rose old.read_faults new.read_faults ⊎ Rose old.write_faults new.write_faults

-- what may stop a reader may stop a command
pub excused-read : (old new : DeskState) (stop : Stop) → (stop ≡ OutOfMemory) ⊎ Rose old.read_faults new.read_faults → IsExcused old new stop
excused-read old new stop (inl e) = inl e
excused-read old new stop (inr r) = inr (inl r)

-- what stops while files are left and the verdict is said
pub leaves-stops : (os : List Output) (text : List ℕ) (s t : DeskState) (stop : Stop) → Leaves os text s t (Err stop)
    → (stop ≡ OutOfMemory) ⊎ Rose s.write_faults t.write_faults
leaves-stops [] text s t CannotWrite p = inr p.2.rose
leaves-stops [] text s t OutOfMemory p = inl refl
leaves-stops [] text s t (CannotRead file) p = absurd p
leaves-stops [] text s t (TooLong file) p = absurd p
leaves-stops [] text s t (BadFile file why) p = absurd p
leaves-stops [] text s t (NotAlike why) p = absurd p
leaves-stops (o ∷ os) text s t stop (inr p) = leaves-stops os text (after_file s o) t stop p
leaves-stops (o ∷ os) text s t OutOfMemory (inl p) = inl refl
leaves-stops (o ∷ os) text s t CannotWrite (inl (inl p)) = inr p.rose
leaves-stops (o ∷ os) text s t CannotWrite (inl (inr (inl p))) = inr p.rose
leaves-stops (o ∷ os) text s t CannotWrite (inl (inr (inr (inl p)))) = inr p.2.rose
leaves-stops (o ∷ os) text s t CannotWrite (inl (inr (inr (inr p)))) = inr p.rose
leaves-stops (o ∷ os) text s t (CannotRead file) (inl p) = absurd p
leaves-stops (o ∷ os) text s t (TooLong file) (inl p) = absurd p
leaves-stops (o ∷ os) text s t (BadFile file why) (inl p) = absurd p
leaves-stops (o ∷ os) text s t (NotAlike why) (inl p) = absurd p

-- what stops the checks that are asked for, where no line is refused
module _ (how : How) (from : Opening) (plan : Plan) (accepted : plan.refused ≡ None) (old new : DeskState) (kept : List Kept) (stop : Stop) where
  breaks-stop : BreaksOff how from plan old new kept stop → (stop ≡ OutOfMemory) ⊎ Rose old.write_faults new.write_faults
  breaks-stop p = go (leaves-stops (left_of how.out how.witness (length p.made) p.half) (text_of_check how.out p.half) p.breaks.0 new stop p.breaks.2)
    where
      go : (stop ≡ OutOfMemory) ⊎ Rose p.breaks.0.write_faults new.write_faults → (stop ≡ OutOfMemory) ⊎ Rose old.write_faults new.write_faults
      go (inl e) = inl e
      go (inr r) =
          inr (subst (λ (n : ℕ). Rose n new.write_faults)
          ((progress-else how.progress p.mid p.breaks.0 p.breaks.1).writes ∙ (all-left how 0 p.made old p.mid p.before.told).writes) r)

  pub checks-stop : StopsChecks how from plan old kept new stop → (stop ≡ OutOfMemory) ⊎ Rose old.write_faults new.write_faults
  checks-stop (inl p) = breaks-stop p
  checks-stop (inr (inl p)) = inl p.out
  checks-stop (inr (inr p)) = absurd (none-some p.line (sym accepted ∙ p.refused))

-- no bytes are both longer than the limit and within it
pub too-long : (o : Option (List ℕ)) → IsSomeAnd o (λ b. limit < length b) → IfSome o (λ b. length b ≤ limit) → ⊥
too-long None p q = p
too-long (Some b) p q = absurd (omega (arith, p, q))

-- the file of a circuit
module _ (s : DeskState) (files : Files) (told : s.files ≡ Some files) (name : List ℕ) (c : Aig) (spells : FileSpells files name c) (within : IsWithinLimit files name) where
  spelt-at : (o : Option (List ℕ)) → IsSomeAnd o (λ b. SpellsAiger b c) → (bytes : List ℕ) → o ≡ Some bytes → SpellsAiger bytes c
  spelt-at None p bytes e = absurd p
  spelt-at (Some b) p bytes e = subst (λ (x : List ℕ). SpellsAiger x c) (same_Some b bytes e) p

  -- its bytes spell the circuit
  spelt : (bytes : List ℕ) → FileIs s name bytes → SpellsAiger bytes c
  spelt bytes is = spelt-at (files name) spells bytes (subst (λ (o : Option Files). IfSome o (λ f. f name ≡ Some bytes)) told is.0)

  pub stops-file : (k : ℕ) (earlier : List (List ℕ)) (t : DeskState) (stop : Stop) → StopsAt k (circuit_file name) earlier s t stop
      → (stop ≡ OutOfMemory) ⊎ Rose s.read_faults t.read_faults
  stops-file k earlier t (CannotRead j) p = inr p.1.rose
  stops-file k earlier t (TooLong j) p =
      absurd (too-long (files name) (subst (λ (o : Option Files). IfSome o (λ f. HasMore f name limit)) told p.1) within)
  stops-file k earlier t (BadFile j text) p =
      absurd (none-some _ (sym (ap fault_in (spelt p.1.0 p.1.1)) ∙ p.1.2))
  stops-file k earlier t OutOfMemory p = inl refl
  stops-file k earlier t (NotAlike text) p = absurd p
  stops-file k earlier t CannotWrite p = absurd p

-- bytes spell one circuit at most
abbrev pub circuit_or : Aig → Result Aig AigerErr → Aig
circuit_or d (Ok c) = c
circuit_or d (Err e) = d

abbrev pub ok_is : Aig → Aig → Type 0
ok_is a b = let r : Result Aig AigerErr = Ok a in r ≡ Ok b

ok-equal : (a b : Aig) → ok_is a b → a ≡ b
ok-equal a b e = ap (circuit_or a) e

alike-from : (a b : Aig) → length a.inputs ≡ length b.inputs → length a.outputs ≡ length b.outputs → unlike_of a b ≡ None
alike-from a b i o = rw (eq-eqb (length a.inputs) (length b.inputs) i, eq-eqb (length a.outputs) (length b.outputs) o) refl

-- a file spells one circuit at most
spells-one : (files : Files) (name : List ℕ) (x y : Aig) → FileSpells files name x → FileSpells files name y → x ≡ y
spells-one files name x y p q = go (files name) p q
  where
    go : (o : Option (List ℕ)) → IsSomeAnd o (λ b. SpellsAiger b x) → IsSomeAnd o (λ b. SpellsAiger b y) → x ≡ y
    go None p q = absurd p
    go (Some b) p q = ok-equal x y (sym p ∙ q)

-- so two files spell one pair at most
pair-one : (c : CheckCommand) (files : Files) (m n : AigPair) → SpellPair c files m → SpellPair c files n → m ≡ n
pair-one c files m n p q =
    let same_a : m.a ≡ n.a = spells-one files c.a m.a n.a p.spells_a q.spells_a in
    let same_b : m.b ≡ n.b =
    matched-is m.a p.second c.by_name m.b p.matched
    ∙ ap₂ (matched_to c.by_name) same_a (spells-one files c.b p.second q.second p.spells_b q.spells_b)
    ∙ sym (matched-is n.a q.second c.by_name n.b q.matched) in
    ap₂ (λ (x y : Aig). record { a = x; b = y }) same_a same_b

-- and a file of a script has one list of lines at most
script-one : (name : Option (List ℕ)) (files : Files) (m n : List (List ℕ)) → IsScript name files m → IsScript name files n → m ≡ n
script-one None files m n p q = p ∙ sym q
script-one (Some name) files m n p q = go (files name) p q
  where
    go : (o : Option (List ℕ)) → IsSomeAnd o (λ b. m ≡ script_lines b) → IsSomeAnd o (λ b. n ≡ script_lines b) → m ≡ n
    go None p q = absurd p
    go (Some b) p q = p ∙ sym q

module _ (c : CheckCommand) (old : DeskState) (can : CanCheck c old) (kept : List Kept) where
  reads-stop : (new : DeskState) (stop : Stop) → ReadsUpTo 0 [] (pair_of c) old new stop → IsExcused old new stop
  reads-stop new stop (inl p) = excused-read old new stop (stops-file old can.files can.told c.a can.net.a can.pair.spells_a can.a 0 [] new stop p)
  reads-stop new stop (inr p) = second p.3
    where
      second : ReadsUpTo 1 (p.0 ∷ []) (circuit_file c.b ∷ []) (after_read old c.a) new stop → IsExcused old new stop
      second (inl q) = excused-read old new stop (stops-file (after_read old c.a) can.files can.told c.b can.pair.second can.pair.spells_b can.b 1 (p.0 ∷ []) new stop q)
      second (inr q) = absurd q.3

  -- circuits that fit aren't refused
  not-unlike : (new : DeskState) (stop : Stop) → AreUnlike c old new stop → IsExcused old new stop
  not-unlike new stop p =
      let a = (spelt old can.files can.told c.a can.net.a can.pair.spells_a can.a p.reads.a p.reads.read.0) in
      let b = (spelt old can.files can.told c.b can.pair.second can.pair.spells_b can.b p.reads.b p.reads.read.2.0) in
      let same_a : p.first ≡ can.net.a = ok-equal p.first can.net.a (sym p.reads.spells_a ∙ a) in
      let same_b : p.second ≡ can.pair.second = ok-equal p.second can.pair.second (sym p.reads.spells_b ∙ b) in
      let alike : unlike_in c.by_name p.first p.second ≡ None =
      ap₂ (unlike_in c.by_name) same_a same_b
      ∙ none-against can.net.a can.pair.second c.by_name can.net.b can.pair.matched
      (alike-from can.net.a can.net.b can.pair.inputs can.pair.outputs) in
      absurd (none-some p.unlike (sym alike ∙ p.differ))

  -- the lemmas are read
  not-bad : (k : ℕ) (load : Option (List ℕ)) → AreLemmas load can.files can.lemmas → IfSome load (IsWithinLimit can.files)
      → (earlier : List (List ℕ)) (s new : DeskState) (stop : Stop) → s.files ≡ Some can.files → ReadsUpTo k earlier (lemmas_of load) s new stop
      → (stop ≡ OutOfMemory) ⊎ Rose s.read_faults new.read_faults
  not-bad k None spelled within earlier s new stop told p = absurd p
  not-bad k (Some name) spelled within earlier s new stop told (inr p) = absurd p.3
  not-bad k (Some name) spelled within earlier s new (CannotRead j) told (inl p) = inr p.1.rose
  not-bad k (Some name) spelled within earlier s new (TooLong j) told (inl p) =
      absurd (too-long (can.files name) (subst (λ (o : Option Files). IfSome o (λ f. HasMore f name limit)) told p.1) within)
  not-bad k (Some name) spelled within earlier s new (BadFile j text) told (inl p) =
      let there : can.files name ≡ Some p.1.0 = subst (λ (o : Option Files). IfSome o (λ f. f name ≡ Some p.1.0)) told p.1.1.0 in
      let read = subst (λ (o : Option (List ℕ)). IsSomeAnd o (λ b. (entries : List Entry) × SpellsBook b entries × (can.lemmas ≡ Some entries)))
      there spelled in
      absurd (none-some _ (sym (ap lemma_fault_in read.1) ∙ p.1.2))
  not-bad k (Some name) spelled within earlier s new OutOfMemory told (inl p) = inl refl
  not-bad k (Some name) spelled within earlier s new (NotAlike text) told (inl p) = absurd p
  not-bad k (Some name) spelled within earlier s new CannotWrite told (inl p) = absurd p

  -- and so is the script before them
  not-long : (name : Option (List ℕ)) → IfSome name (IsWithinLimit can.files) → (earlier : List (List ℕ)) (s new : DeskState) (stop : Stop)
      → s.files ≡ Some can.files → ReadsUpTo 2 earlier (option_to_list (option_map script_file name) ++ lemmas_of c.load) s new stop
      → (stop ≡ OutOfMemory) ⊎ Rose s.read_faults new.read_faults
  not-long None within earlier s new stop told p = not-bad 2 c.load can.spelled can.load earlier s new stop told p
  not-long (Some name) within earlier s new stop told (inr p) =
      not-bad 3 c.load can.spelled can.load _ (after_read s name) new stop told p.3
  not-long (Some name) within earlier s new (CannotRead j) told (inl p) = inr p.1.rose
  not-long (Some name) within earlier s new (TooLong j) told (inl p) =
      absurd (too-long (can.files name) (subst (λ (o : Option Files). IfSome o (λ f. HasMore f name limit)) told p.1) within)
  not-long (Some name) within earlier s new (BadFile j text) told (inl p) = absurd (none-some _ p.1.2)
  not-long (Some name) within earlier s new OutOfMemory told (inl p) = inl refl
  not-long (Some name) within earlier s new (NotAlike text) told (inl p) = absurd p
  not-long (Some name) within earlier s new CannotWrite told (inl p) = absurd p

  -- and no line of it is refused
  line-accepted : (net : AigPair) (lines : List (List ℕ)) (lemmas : Option (List Entry)) → AsksFor c old net lines lemmas
      → (plan_of net lines).refused ≡ None
  line-accepted net lines lemmas asks =
      let same : net ≡ can.net = pair-one c can.files net can.net (spells-pair c old can.files can.told net asks.pair) can.pair in
      let lines_same : lines ≡ can.lines =
      script-one c.edits can.files lines can.lines (spells-script c old can.files can.told net lines lemmas asks).0 can.script in
      ap₂ (λ (n : AigPair) (ls : List (List ℕ)). (plan_of n ls).refused) same lines_same ∙ can.accepted

  -- what stops behind that, where the count of failed writes was as at first
  excused-write : (mid new : DeskState) (stop : Stop) → mid.write_faults ≡ old.write_faults
      → (stop ≡ OutOfMemory) ⊎ Rose mid.write_faults new.write_faults → IsExcused old new stop
  excused-write mid new stop same (inl e) = inl e
  excused-write mid new stop same (inr r) = inr (inr (subst (λ (n : ℕ). Rose n new.write_faults) same r))

  opens-excused : (new : DeskState) (stop : Stop) → OpensNot c old new stop → IsExcused old new stop
  opens-excused new stop p = elim p.stops [
    | inl q ↦ inl q.0
    | inr q ↦ excused-write (after_lemmas c old) new stop (lemmas-keep c old).writes
        (leaves-stops [] (opening_text (Some p.entries) q.0) (after_lemmas c old) new stop q.2)
  ]

  later-excused : (new : DeskState) (stop : Stop) → StopsLater c old kept new stop → IsExcused old new stop
  later-excused new stop p =
      let start : DeskState = at_start c old p.lemmas p.from in
      let same : start.write_faults ≡ old.write_faults = (start-keeps c old p.lemmas p.from).writes in
      elim p.stops [
        | inl q ↦ excused-write start new stop same
            (checks-stop (how_of c) p.from (plan_of p.net p.lines) (line-accepted p.net p.lines p.lemmas p.asks) start new kept stop q)
        | inr q ↦ excused-write q.mid new stop ((all-left (how_of c) 0 q.ends.made start q.mid q.ends.whole.told).writes ∙ same)
            (leaves-stops (saved_of c.save kept) [] q.mid new stop (stops-among (saved_of c.save kept) q.mid new stop q.stops []))
      ]

  pub stops-excused : (new : DeskState) (stop : Stop) → Stops c old kept new stop → IsExcused old new stop
  stops-excused new stop (inl p) = reads-stop new stop p.1
  stops-excused new stop (inr (inl p)) = not-unlike new stop p.1
  stops-excused new stop (inr (inr (inl p))) =
      excused-read old new stop (not-long c.edits can.edits _ (after_pair c old) new stop can.told p.1.stops)
  stops-excused new stop (inr (inr (inr (inl p)))) = opens-excused new stop p.1
  stops-excused new stop (inr (inr (inr (inr p)))) = later-excused new stop p

-- the warning changes no count of reads or writes
pub warned-counts : (mid new : DeskState) (line : List ℕ) → IsWarned mid new line
    → (new.read_faults ≡ mid.read_faults) × (new.write_faults ≡ mid.write_faults)
warned-counts mid new line (inl p) = (ap (λ (s : DeskState). s.read_faults) p, ap (λ (s : DeskState). s.write_faults) p)
warned-counts mid new line (inr p) =
    (ap (λ (s : DeskState). s.read_faults) p.2.stays, ap (λ (s : DeskState). s.write_faults) p.2.stays)

pub finding-code : (f : Finding) → code_of (status_of_finding f) ≤ 2
finding-code Equivalent = omega arith
finding-code (Different j input) = omega arith
finding-code Undecided = omega arith

-- a stop that is excused comes to a verdict on a desk without a fault
pub excused-verdict : (line : List ℕ) (old mid new : DeskState) (stop : Stop) (status : Status) → NoFault old new
    → Warns line (status_of stop) mid new status → IsExcused old mid stop → HasVerdict status
excused-verdict line old mid new stop status none (inr w) excuse = inr (ap code_of w.0)
excused-verdict line old mid new stop status none (inl w) (inl memory) = inr (ap code_of w.0 ∙ ap (λ (s : Stop). code_of (status_of s)) memory)
excused-verdict line old mid new stop status none (inl w) (inr (inl reads)) =
    absurd (none.reads (subst (λ (n : ℕ). Rose old.read_faults n) (sym (warned-counts mid new line w.1).0) reads))
excused-verdict line old mid new stop status none (inl w) (inr (inr writes)) =
    absurd (none.writes (subst (λ (n : ℕ). Rose old.write_faults n) (sym (warned-counts mid new line w.1).1) writes))

pub check-complete : (c : CheckCommand) (old new : DeskState) (status : Status) (kept : List Kept) → CanCheck c old → NoFault old new
    → AnswersCheck c old new status kept → HasVerdict status
check-complete c old new status kept can none (inl p) =
    let l = is-last (how_of c) p.from p.net p.lines (at_start c old p.lemmas p.from) p.mid status kept p.ends in
    inl (subst (λ (s : Status). code_of s ≤ 2) l.status_is (finding-code l.last.finding))
check-complete c old new status kept can none (inr p) =
    excused-verdict _ old p.mid new p.stop status none p.warns (stops-excused c old can kept p.mid p.stop p.cause)

-- ---- a budget that no query spends

within-code : (net : AigPair) (budget : ℕ) (f : Finding) → IsWithinFor net budget f → code_of (status_of_finding f) ≡ 2
    → budget ≤ 3 ^ length (variables_of net)
within-code net budget Undecided within code = within
within-code net budget Equivalent within code = cc
within-code net budget (Different j input) within code = cc

check-decided : (c : CheckCommand) (old new : DeskState) (status : Status) (kept : List Kept) → IsAmple c old
    → AnswersCheck c old new status kept → code_of status ≢ 2
check-decided c old new status kept ample (inl p) = λ code.
    let start : DeskState = at_start c old p.lemmas p.from in
    let l = is-last (how_of c) p.from p.net p.lines start p.mid status kept p.ends in
    let script = spells-script c old ample.files ample.told p.net p.lines p.lemmas p.asks in
    let settled = (made-last c kept p.from p.net p.lines script.1 start p.mid l.earlier l.last l.whole l.keeps).settled in
    let within : l.last.book.out_budget ≤ 3 ^ length (variables_of l.last.net) =
    within-code l.last.net l.last.book.out_budget l.last.finding settled.within (ap code_of l.status_is ∙ code) in
    let same : p.net ≡ ample.net = pair-one c ample.files p.net ample.net (spells-pair c old ample.files ample.told p.net p.asks.pair) ample.pair in
    let lines_same : p.lines ≡ ample.lines = script-one c.edits ample.files p.lines ample.lines script.0 ample.script in
    let dues : (plan_of ample.net ample.lines).checks ≡ map due_of l.earlier ++ due_of l.last ∷ [] =
    sym (ap₂ (λ (n : AigPair) (ls : List (List ℕ)). (plan_of n ls).checks) same lines_same) ∙ sym l.whole.checks
    ∙ append-nil (map due_of (l.earlier ++ l.last ∷ [])) ∙ map-append due_of l.earlier (l.last ∷ []) in
    let enough : 3 ^ length (variables_of l.last.net) < c.budget =
    all-last (λ (d : Due). 3 ^ length (variables_of d.net) < c.budget) (map due_of l.earlier) (due_of l.last)
    (subst (AllByRecursion (λ (d : Due). 3 ^ length (variables_of d.net) < c.budget)) dues ample.ample) in
    absurd (omega (arith, within, settled.budget_is, enough))
check-decided c old new status kept ample (inr p) = λ code. absurd (omega (arith, code, ends-code _ _ new status p))

-- what ends before any command of the words is run ends for want of memory
pub at-once : (old new : DeskState) (status : Status) (stop : Stop) (mid : DeskState) → IsAtOnce old mid stop
    → Warns (stop_line [] stop) (status_of stop) mid new status → HasVerdict status
at-once old new status stop mid cause (inl w) = inr (ap code_of w.0 ∙ ap (λ (s : Stop). code_of (status_of s)) cause.0)
at-once old new status stop mid cause (inr w) = inr (ap code_of w.0)

module _ (words : List (List ℕ)) (old new : DeskState) (status : Status) (kept : List Kept)
    (asked : (words : List (List ℕ)) (r : Request) → Asks words r → ¬ (WantInfo words ⊎ AreRefused words))
    (answers : Answers words old new status kept) where
  pub complete : (c : CheckCommand) → Asks words (CheckIt c) → CanCheck c old → NoFault old new → HasVerdict status
  complete c asks can none = elim answers [
    | inl p ↦
        let same : p.command ≡ c = ap (check_or c) (same_request words (CheckIt p.command) (CheckIt c) p.asked asks) in
        check-complete c old new status kept can none (subst (λ (d : CheckCommand). AnswersCheck d old new status kept) same p.answers)
    | inr (inl p) ↦ let t : LratIt p.command ≡ CheckIt c = same_request words (LratIt p.command) (CheckIt c) p.asked asks in cc
    | inr (inr (inl p)) ↦ let t : SelfIt p.command ≡ CheckIt c = same_request words (SelfIt p.command) (CheckIt c) p.asked asks in cc
    | inr (inr (inr (inl p))) ↦ let t : FraigIt p.command ≡ CheckIt c = same_request words (FraigIt p.command) (CheckIt c) p.asked asks in cc
    | inr (inr (inr (inr (inl p)))) ↦ absurd (asked words (CheckIt c) asks (inl p.wanted))
    | inr (inr (inr (inr (inr (inl p))))) ↦ absurd (asked words (CheckIt c) asks (inr p.refused))
    | inr (inr (inr (inr (inr (inr p))))) ↦ at-once old new status p.ends.stop p.ends.mid p.ends.cause p.ends.warns
  ]

  pub decided : (c : CheckCommand) → Asks words (CheckIt c) → IsAmple c old → code_of status ≢ 2
  decided c asks ample = λ code. elim answers [
    | inl p ↦
        let same : p.command ≡ c = ap (check_or c) (same_request words (CheckIt p.command) (CheckIt c) p.asked asks) in
        check-decided c old new status kept ample (subst (λ (d : CheckCommand). AnswersCheck d old new status kept) same p.answers) code
    | inr (inl p) ↦ let t : LratIt p.command ≡ CheckIt c = same_request words (LratIt p.command) (CheckIt c) p.asked asks in cc
    | inr (inr (inl p)) ↦ let t : SelfIt p.command ≡ CheckIt c = same_request words (SelfIt p.command) (CheckIt c) p.asked asks in cc
    | inr (inr (inr (inl p))) ↦ let t : FraigIt p.command ≡ CheckIt c = same_request words (FraigIt p.command) (CheckIt c) p.asked asks in cc
    | inr (inr (inr (inr (inl p)))) ↦ absurd (asked words (CheckIt c) asks (inl p.wanted))
    | inr (inr (inr (inr (inr (inl p))))) ↦ absurd (asked words (CheckIt c) asks (inr p.refused))
    | inr (inr (inr (inr (inr (inr p))))) ↦ absurd (omega (arith, code, ends-code _ _ new status p.ends))
  ]
