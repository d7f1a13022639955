-- Logs: each of their lines is asked for, with what it cites, so it is written, and nothing that it cites is deleted.
use Rattle.std.proofs.Common.{◌≡◌, ℕ, suc, ◌+◌, ◌-◌, ◌<◌, ◌≤◌, ◌^◌, Bool, true, false, ◌||◌, eqb, List, [], ◌∷◌, ◌++◌, length, map, if◌then◌else◌, refl, sym, ap, ◌∙◌, subst, arith, append_assoc, length-append}
use Rattle.std.specs.Prelude.{All, Err, Ok, OnOk, Result, replicate}
use Rattle.std.specs.List.{range_with_len, AllByRecursion}
use Rattle.std.proofs.lemmas.Bool.{or_left, or_right, or_parts}
use Rattle.std.proofs.lemmas.List.{append-nil}
use Rattle.lits.specs.declared.step.Step.{Step}
use Rattle.lits.proofs.Facts.{all-append}
use Rattle.netlist.specs.Net.{AigPair}
use Rattle.netlist.specs.Miter.{miter_of}
use Rattle.lemma_book.specs.declared.entry.Entry.{Entry}
use Rattle.lemma_book.specs.Entry.{outputs_of}
use Rattle.lrat_text.specs.declared.step.LratStep.{LratStep}
use Rattle.lrat_text.specs.declared.step.LratStep.TheVariants.{Add, Del}
use Rattle.proof_stitch.specs.declared.by_step.ByStep.{ByStep}
use Rattle.proof_stitch.specs.declared.logs.Span.{Span}
use Rattle.proof_stitch.specs.declared.proof_text.ProofText.{ProofText}
use Rattle.proof_stitch.specs.Derivation.{all_lines, derivation_of, is_for_logs, log_lines, shown_units, span_of, spans_from, spent_log, written_lines}
use Rattle.proof_stitch.specs.Ids.{HasIds}
use Rattle.desk_port.specs.Desk.{DeskState, Sizes}
use Rattle.desk_port.specs.declared.errors.PutErr.{PutErr}
use Rattle.proof_stitch.specs.Progress.{Goes, GoesOn, IsAtLine, text_left}
use Rattle.proof_stitch.specs.Steps.{additions_from, additions}
use Rattle.proof_stitch.specs.Table.{AreMarked, HasMarks, IsStepId, KeepsShape, always, last_use, marked, named_ids, number_at}
use Rattle.proof_stitch.specs.Text.{proof_text}
use Rattle.proof_stitch.specs.Trimmed.{has_id, id_in, is_addition, is_asked, is_cited, reached}
use Rattle.proof_stitch.specs.Written.{shown_ids, book_additions}
use Rattle.proof_stitch.proofs.BookLemmas.{IsSoundBook, log-derived, total}
use Rattle.proof_stitch.proofs.DerivationLemmas.{length-log_lines, lines-few, lines-row}
use Rattle.proof_stitch.proofs.TrimmedLemmas.{trimmed-short}
use Rattle.proof_stitch.proofs.MarkLemmas.{last_use-none, same-ids}
use Rattle.proof_stitch.proofs.ProgressLemmas.{at-start, text-start}
use Rattle.proof_stitch.proofs.ReachLemmas.{marks-next, marks-nothing, number-zero}
use Rattle.proof_stitch.proofs.RefutationLemmas.{length-additions_from}
use Rattle.proof_stitch.proofs.RowLemmas.{all-has_id, reached-all}
use Rattle.proof_stitch.proofs.WriterLemmas.{ShownFit, shown-fit, derived-ids}

-- ---- lines that steps make

-- the line's id is from a on and below b
pub record IsBetween (a b : ℕ) (line : LratStep) : Type 0 where
  pub low : a ≤ id_in line
  pub high : id_in line < b

pub wider : (a b c d : ℕ) (xs : List LratStep) → c ≤ a → b ≤ d → AllByRecursion (IsBetween a b) xs → AllByRecursion (IsBetween c d) xs
wider a b c d [] low high all = tt
wider a b c d (x ∷ xs) low high all =
    let here : IsBetween a b x = all.0 in
    (record { low = omega (arith, here.low); high = omega (arith, here.high) }, wider a b c d xs low high all.1)

between-from : (net : AigPair) (shown : List ℕ) (first id : ℕ) (steps : List Step) → AllByRecursion (IsBetween id (id + length steps)) (additions_from net shown first id steps)
between-from net shown first id [] = tt
between-from net shown first id (s ∷ ss) = (
  record { low = omega arith; high = omega arith },
  wider (id + 1) (id + 1 + length ss) id (id + suc (length ss)) (additions_from net shown first (id + 1) ss) (omega arith) (omega arith) (between-from net shown first (id + 1) ss),
)

pub between-lists : (net : AigPair) (shown : List ℕ) (id : ℕ) (lists : List (List Step)) → AllByRecursion (IsBetween id (id + total lists)) (additions net shown id lists)
between-lists net shown id [] = tt
between-lists net shown id (steps ∷ lists) =
    all-append (IsBetween id (id + (length steps + total lists))) (additions_from net shown id id steps) (additions net shown (id + length steps) lists)
    (wider id (id + length steps) id (id + (length steps + total lists)) (additions_from net shown id id steps) (omega arith) (omega arith) (between-from net shown id id steps))
    (wider (id + length steps) (id + length steps + total lists) id (id + (length steps + total lists)) (additions net shown (id + length steps) lists)
    (omega arith) (omega arith) (between-lists net shown (id + length steps) lists))

-- each of them is an addition
pub added-from : (net : AigPair) (shown : List ℕ) (first id : ℕ) (steps : List Step) → AllByRecursion (λ l. is_addition l ≡ true) (additions_from net shown first id steps)
added-from net shown first id [] = tt
added-from net shown first id (s ∷ ss) = (refl, added-from net shown first (id + 1) ss)

pub added-lists : (net : AigPair) (shown : List ℕ) (id : ℕ) (lists : List (List Step)) → AllByRecursion (λ l. is_addition l ≡ true) (additions net shown id lists)
added-lists net shown id [] = tt
added-lists net shown id (steps ∷ lists) =
    all-append (λ l. is_addition l ≡ true) (additions_from net shown id id steps) (additions net shown (id + length steps) lists)
    (added-from net shown id id steps) (added-lists net shown (id + length steps) lists)

-- ---- what is asked for

has_id-append : (xs ys : List ℕ) (n : ℕ) → has_id (xs ++ ys) n ≡ (has_id xs n || has_id ys n)
has_id-append [] ys n = refl
has_id-append (x ∷ xs) ys n = go (eqb x n) refl (has_id-append xs ys n)
  where
    go : (b : Bool) → eqb x n ≡ b → has_id (xs ++ ys) n ≡ (has_id xs n || has_id ys n) → has_id (x ∷ (xs ++ ys)) n ≡ (has_id (x ∷ xs) n || has_id ys n)
    go true e rest = rw e refl
    go false e rest = rw e rest

or-grouped : (x y z : Bool) → (x || (y || z)) ≡ ((x || y) || z)
or-grouped true y z = refl
or-grouped false y z = refl

-- what lines name is their ids and what they cite
pub named-ids : (lines : List LratStep) (n : ℕ) → AllByRecursion (λ l. is_addition l ≡ true) lines
    → has_id (named_ids lines) n ≡ (has_id (map id_in lines) n || is_cited lines n)
named-ids [] n all = refl
named-ids (Del ids ∷ ls) n all = cc
named-ids (Add id clause hints ∷ ls) n all = go (eqb id n) (has_id hints n) refl refl (named-ids ls n all.1)
  where
    Same : Type 0
    Same = has_id (named_ids ls) n ≡ (has_id (map id_in ls) n || is_cited ls n)

    go : (b c : Bool) → eqb id n ≡ b → has_id hints n ≡ c → Same
        → has_id (id ∷ (hints ++ named_ids ls)) n ≡ (has_id (id ∷ map id_in ls) n || (has_id hints n || is_cited ls n))
    go true c e f rest = rw e refl
    go false true e f rest = rw (e, has_id-append hints (named_ids ls) n, f) (sym (or_right (has_id (map id_in ls) n) true refl))
    go false false e f rest = rw (e, has_id-append hints (named_ids ls) n, f) rest

-- lines that are asked for are asked for by their ids
pub goals-asked : (units : List ℕ) (lines : List LratStep) → AllByRecursion (λ l. is_asked units lines (id_in l) ≡ true) lines
goals-asked units lines = go lines (all-has_id (λ n. is_asked units lines n ≡ true) (map id_in lines) here)
  where
    here : (n : ℕ) → has_id (map id_in lines) n ≡ true → is_asked units lines n ≡ true
    here n h = or_left (has_id units n || has_id (map id_in lines) n) (is_cited lines n) (or_right (has_id units n) (has_id (map id_in lines) n) h)

    go : (ls : List LratStep) → AllByRecursion (λ n. is_asked units lines n ≡ true) (map id_in ls) → AllByRecursion (λ l. is_asked units lines (id_in l) ≡ true) ls
    go [] all = tt
    go (l ∷ ls) all = (all.0, go ls all.1)

-- and so is what they cite
pub goals-cites : (units : List ℕ) (lines : List LratStep) (n : ℕ) → is_cited lines n ≡ true → is_asked units lines n ≡ true
goals-cites units lines n h = or_right (has_id units n || has_id (map id_in lines) n) (is_cited lines n) h

-- all lines that are asked for are reached
pub reached-asked : (asked : ℕ → Bool) (xs ys : List LratStep) → AllByRecursion (λ l. asked (id_in l) ≡ true) xs
    → reached asked (xs ++ ys) ≡ xs ++ reached asked ys
reached-asked asked [] ys all = refl
reached-asked asked (x ∷ xs) ys all =
    rw (or_left (asked (id_in x)) (is_cited (reached asked (xs ++ ys)) (id_in x)) all.0)
    (ap (λ (l : List LratStep). x ∷ l) (reached-asked asked xs ys all.1))

pub all-reached : (asked : ℕ → Bool) (xs : List LratStep) → AllByRecursion (λ l. asked (id_in l) ≡ true) xs → reached asked xs ≡ xs
all-reached asked xs all =
    ap (reached asked) (sym (append-nil xs)) ∙ reached-asked asked xs [] all ∙ append-nil xs

-- the logs are
pub logs-asked : (net : AigPair) (entries : List Entry) → AllByRecursion (λ l. is_for_logs net entries (id_in l) ≡ true) (log_lines net entries)
logs-asked net entries = goals-asked (shown_units net entries) (log_lines net entries)

pub logs-reached : (net : AigPair) (entries : List Entry) → reached (is_for_logs net entries) (log_lines net entries) ≡ log_lines net entries
logs-reached net entries = all-reached (is_for_logs net entries) (log_lines net entries) (logs-asked net entries)

-- the marks of what is asked for
pub log-marks : (net : AigPair) (entries : List Entry) (steps : ℕ) (zero mid t : ByStep) → zero.numbers.items ≡ replicate steps 0
    → KeepsShape zero mid → KeepsShape mid t → AreMarked (shown_units net entries) always zero mid
    → AreMarked (named_ids (log_lines net entries)) always mid t
    → HasMarks (is_for_logs net entries) (reached (is_for_logs net entries) (log_lines net entries)) t
log-marks net entries steps zero mid t zeros shape shape' units logs = record {
  marks = λ n within. each n (same-ids zero mid shape n (same-ids mid t shape' n within));
  ids =
      reached-all (λ l. 1 ≤ id_in l) (is_for_logs net entries) (log_lines net entries)
      (some (log_lines net entries) (between-lists net (shown_ids net entries) start lists));
}
  where
    start : ℕ
    start = length (miter_of net) + length (book_additions net entries) + 1

    lists : List (List Step)
    lists = map (spent_log entries) (outputs_of net)

    some : (ls : List LratStep) → AllByRecursion (IsBetween start (start + total lists)) ls → AllByRecursion (λ l. 1 ≤ id_in l) ls
    some [] all = tt
    some (l ∷ ls) all = let here : IsBetween start (start + total lists) l = all.0 in (omega (arith, here.low), some ls all.1)

    kept : List LratStep
    kept = reached (is_for_logs net entries) (log_lines net entries)

    all : AreMarked (shown_units net entries ++ named_ids (log_lines net entries)) always zero t
    all = marks-next zero mid t (shown_units net entries) (named_ids (log_lines net entries)) always (omega arith) shape units logs

    each : (n : ℕ) → IsStepId zero n → number_at t n ≡ (if is_for_logs net entries n then always else last_use kept n)
    each n within = all n within ∙ go (is_for_logs net entries n) refl
      where
        same : has_id (shown_units net entries ++ named_ids (log_lines net entries)) n ≡ is_for_logs net entries n
        same =
            has_id-append (shown_units net entries) (named_ids (log_lines net entries)) n
            ∙ ap (λ (b : Bool). has_id (shown_units net entries) n || b) (named-ids (log_lines net entries) n (added-lists net (shown_ids net entries) start lists))
            ∙ or-grouped (has_id (shown_units net entries) n) (has_id (map id_in (log_lines net entries)) n) (is_cited (log_lines net entries) n)

        go : (b : Bool) → is_for_logs net entries n ≡ b
            → marked (number_at zero n) (has_id (shown_units net entries ++ named_ids (log_lines net entries)) n) always
            ≡ (if is_for_logs net entries n then always else last_use kept n)
        go true e = rw (number-zero zero steps zeros n, same, e) refl
        go false e =
            let parts = or_parts (has_id (shown_units net entries) n || has_id (map id_in (log_lines net entries)) n) (is_cited (log_lines net entries) n) e in
            rw (number-zero zero steps zeros n, same, e)
            (sym (last_use-none kept n (ap (λ (l : List LratStep). is_cited l n) (logs-reached net entries) ∙ parts.1)))

-- lines that are asked for are all written
pub at-last : {m : ℕ} {asked : ℕ → Bool} {all left : List LratStep} {next next' : ℕ} {names names' : ByStep} {proof proof' : ProofText} (xs : List LratStep)
    → IsAtLine m asked all (xs ++ left) next names proof → IsAtLine m asked all left next' names' proof'
    → AllByRecursion (λ l. asked (id_in l) ≡ true) xs → proof'.last ≡ proof.last + length xs
at-last {m} {asked} {all} {left} xs before after each =
    omega (
      arith,
      before.last_is,
      after.last_is,
      ap length (sym before.parts ∙ after.parts),
      length-append before.done (reached asked (xs ++ left)),
      length-append after.done (reached asked left),
      ap length (reached-asked asked xs left each),
      length-append xs (reached asked left),
    )

-- the steps of all logs are few, behind those of the entries
pub logs-small : (net : AigPair) (out : ℕ) (entries : List Entry) → IsSoundBook net out entries → length (miter_of net) < 2 ^ 32
    → length (miter_of net) + length (book_additions net entries) + 1 + total (map (spent_log entries) (outputs_of net)) < 2 ^ 60
logs-small net out entries book few =
    omega (
      arith,
      lines-few net out entries book few,
      length-append (book_additions net entries) (log_lines net entries),
      length-log_lines net entries,
    )

-- what a log names has ids
pub logs-ids : (net : AigPair) (out : ℕ) (entries : List Entry) → IsSoundBook net out entries → length (miter_of net) < 2 ^ 32
    → (shown : List ℕ) → shown ≡ shown_ids net entries → (j next : ℕ) → next + length (spent_log entries j) < 2 ^ 64
    → All (HasIds net shown next) (spent_log entries j)
logs-ids net out entries book few shown same j next room =
    derived-ids net shown entries (subst (λ (l : List ℕ). ShownFit l entries) (sym same) (shown-fit net out entries book few))
    (spent_log entries j) next (log-derived net out entries book j) room

-- ---- the writer of logs

pub all-front : (P : LratStep → Type 0) (xs ys : List LratStep) → AllByRecursion P (xs ++ ys) → AllByRecursion P xs × AllByRecursion P ys
all-front P [] ys all = (tt, all)
all-front P (x ∷ xs) ys all = let rest = all-front P xs ys all.1 in ((all.0, rest.0), rest.1)

-- where it stands with some of the outputs left; the first log has the id `first0`, and the text had the last id `last0`
pub record IsAtLog (net : AigPair) (entries : List Entry) (first0 last0 : ℕ) (left : List ℕ) (next : ℕ) (names : ByStep) (proof : ProofText)
    (spans : List Span) : Type 0 where
  pub at :
      IsAtLine (length (miter_of net)) (is_for_logs net entries) (all_lines net entries)
      (additions net (shown_ids net entries) next (map (spent_log entries) left)) next names proof
  pub asked :
      AllByRecursion (λ l. is_for_logs net entries (id_in l) ≡ true) (additions net (shown_ids net entries) next (map (spent_log entries) left))
  pub next_is : next + total (map (spent_log entries) left) ≡ first0 + total (map (spent_log entries) (outputs_of net))
  pub spans_is : spans ++ spans_from entries (proof.last + 1) left ≡ spans_from entries (last0 + 1) (outputs_of net)
  pub behind : proof.last < next

pub log-start : (net : AigPair) (entries : List Entry) (first : ℕ) (names : ByStep) (proof : ProofText)
    → first ≡ length (miter_of net) + length (book_additions net entries) + 1
    → IsAtLine (length (miter_of net)) (is_for_logs net entries) (all_lines net entries) (log_lines net entries) first names proof
    → proof.last < first → IsAtLog net entries first proof.last (outputs_of net) first names proof []
log-start net entries first names proof is at behind = record {
  at =
      subst (λ (n : ℕ). IsAtLine (length (miter_of net)) (is_for_logs net entries) (all_lines net entries)
      (additions net (shown_ids net entries) n (map (spent_log entries) (outputs_of net))) first names proof) (sym is) at;
  asked =
      subst (λ (n : ℕ). AllByRecursion (λ l. is_for_logs net entries (id_in l) ≡ true)
      (additions net (shown_ids net entries) n (map (spent_log entries) (outputs_of net)))) (sym is) (logs-asked net entries);
  next_is = refl;
  spans_is = refl;
  behind = behind;
}

-- the lines of the logs that are left, and how the writer goes through those of the next output
abbrev pub logs_left : AigPair → List Entry → ℕ → List ℕ → List LratStep
logs_left net entries next left = additions net (shown_ids net entries) next (map (spent_log entries) left)

module _ {A : Type 0} (net : AigPair) (entries : List Entry) (j : ℕ) (js : List ℕ) (clauses : ℕ) (shown : List ℕ) (steps : List Step)
    (next : ℕ) (names names' : ByStep) (proof proof' : ProofText) (s0 s1 : DeskState) (z0 z1 : Sizes) (r : Result A PutErr) where
  pub log-goes : clauses ≡ length (miter_of net) → shown ≡ shown_ids net entries → steps ≡ spent_log entries j
      → ((left : List LratStep) → Goes clauses (is_for_logs net entries) (all_lines net entries) (additions_from net shown next next steps ++ left) left
      next (next + length steps) names names' proof proof' s0 s1 z0 z1 r)
      → Goes (length (miter_of net)) (is_for_logs net entries) (all_lines net entries) (logs_left net entries next (j ∷ js))
      (logs_left net entries (next + length (spent_log entries j)) js) next (next + length (spent_log entries j)) names names' proof proof' s0 s1 z0 z1 r
  log-goes same same_shown same_steps pushes =
      let later = logs_left net entries (next + length (spent_log entries j)) js in
      let asked = is_for_logs net entries in
      let all = all_lines net entries in
      subst (λ (k : ℕ). Goes k asked all (additions_from net (shown_ids net entries) next next (spent_log entries j) ++ later) later
      next (next + length (spent_log entries j)) names names' proof proof' s0 s1 z0 z1 r) same
      (subst (λ (l : List ℕ). Goes clauses asked all (additions_from net l next next (spent_log entries j) ++ later) later
      next (next + length (spent_log entries j)) names names' proof proof' s0 s1 z0 z1 r) same_shown
      (subst (λ (l : List Step). Goes clauses asked all (additions_from net shown next next l ++ later) later
      next (next + length l) names names' proof proof' s0 s1 z0 z1 r) same_steps (pushes later)))

-- the output that comes next
pub log-range : {net : AigPair} {entries : List Entry} {first0 last0 : ℕ} {next : ℕ} {names : ByStep} {proof : ProofText} {spans : List Span}
    (j n : ℕ) → j < n → IsAtLog net entries first0 last0 (range_with_len j (n - j)) next names proof spans
    → IsAtLog net entries first0 last0 (j ∷ range_with_len (j + 1) (n - (j + 1))) next names proof spans
log-range {net} {entries} {first0} {last0} {next} {names} {proof} {spans} j n lt at =
    let count : n - j ≡ suc (n - (j + 1)) = omega arith in
    subst (λ (k : ℕ). IsAtLog net entries first0 last0 (range_with_len j k) next names proof spans) count at

module _ {net : AigPair} {entries : List Entry} {first0 last0 : ℕ} {j : ℕ} {js : List ℕ} {next : ℕ} {names : ByStep} {proof : ProofText} {spans : List Span}
    (at : IsAtLog net entries first0 last0 (j ∷ js) next names proof spans) where
  -- what the log's lines need
  pub log-small : (out : ℕ) → IsSoundBook net out entries → length (miter_of net) < 2 ^ 32
      → first0 ≡ length (miter_of net) + length (book_additions net entries) + 1 → next + length (spent_log entries j) < 2 ^ 60
  log-small out book few is = omega (arith, at.next_is, is, logs-small net out entries book few)

  pub log-ids : (out : ℕ) → IsSoundBook net out entries → length (miter_of net) < 2 ^ 32
      → first0 ≡ length (miter_of net) + length (book_additions net entries) + 1 → (shown : List ℕ) → shown ≡ shown_ids net entries
      → All (HasIds net shown next) (spent_log entries j)
  log-ids out book few is shown same = logs-ids net out entries book few shown same j next (omega (arith, log-small out book few is))

  pub log-above : length (miter_of net) < next
  log-above = omega (arith, at.at.next_is, at.at.least)

  pub log-within : first0 ≡ length (miter_of net) + length (book_additions net entries) + 1
      → next + length (spent_log entries j) ≤ length (miter_of net) + (length (book_additions net entries) + length (log_lines net entries)) + 1
  log-within is = omega (arith, at.next_is, is, length-log_lines net entries)

  module _ {names' : ByStep} {proof' : ProofText} (after : IsAtLine (length (miter_of net)) (is_for_logs net entries) (all_lines net entries)
      (additions net (shown_ids net entries) (next + length (spent_log entries j)) (map (spent_log entries) js))
      (next + length (spent_log entries j)) names' proof') where
    abbrev here : List LratStep
    here = additions_from net (shown_ids net entries) next next (spent_log entries j)

    abbrev behind : List LratStep
    behind = additions net (shown_ids net entries) (next + length (spent_log entries j)) (map (spent_log entries) js)

    both : AllByRecursion (λ l. is_for_logs net entries (id_in l) ≡ true) here × AllByRecursion (λ l. is_for_logs net entries (id_in l) ≡ true) behind
    both = all-front (λ l. is_for_logs net entries (id_in l) ≡ true) here behind at.asked

    pub log-last : proof'.last ≡ proof.last + length (spent_log entries j)
    log-last =
        omega (arith, at-last here at.at after both.0, length-additions_from net (shown_ids net entries) next next (spent_log entries j))

    -- one output more
    pub log-next : (spans' : List Span) → spans' ≡ spans ++ span_of entries (proof.last + 1) j → proof'.last < next + length (spent_log entries j)
        → IsAtLog net entries first0 last0 js (next + length (spent_log entries j)) names' proof' spans'
    log-next spans' f low = record {
      at = after;
      asked = both.1;
      next_is = omega (arith, at.next_is);
      spans_is =
          rw (f, shift)
          (append_assoc spans (span_of entries (proof.last + 1) j) (spans_from entries (proof.last + 1 + length (spent_log entries j)) js) ∙ at.spans_is);
      behind = low;
    }
      where
        shift : proof'.last + 1 ≡ proof.last + 1 + length (spent_log entries j)
        shift = omega (arith, log-last)

-- behind the last output
pub log-done : {net : AigPair} {entries : List Entry} {first0 last0 : ℕ} {next : ℕ} {names : ByStep} {proof : ProofText} {spans : List Span}
    (j n : ℕ) → n ≤ j → IsAtLog net entries first0 last0 (range_with_len j (n - j)) next names proof spans
    → IsAtLog net entries first0 last0 [] next names proof spans
log-done {net} {entries} {first0} {last0} {next} {names} {proof} {spans} j n past found =
    let none : n - j ≡ 0 = omega arith in
    subst (λ (k : ℕ). IsAtLog net entries first0 last0 (range_with_len j k) next names proof spans) none found

-- the lines of the logs from that output on
pub logs-range : (net : AigPair) (entries : List Entry) (next : ℕ) {first : ℕ} {names names' : ByStep} {proof proof' : ProofText} {s0 s1 : DeskState} {z0 z1 : Sizes}
    (j n : ℕ) → j < n
    → GoesOn (length (miter_of net)) (is_for_logs net entries) (all_lines net entries) (log_lines net entries)
    (logs_left net entries next (range_with_len j (n - j))) first next names names' proof proof' s0 s1 z0 z1
    → GoesOn (length (miter_of net)) (is_for_logs net entries) (all_lines net entries) (log_lines net entries)
    (logs_left net entries next (j ∷ range_with_len (j + 1) (n - (j + 1)))) first next names names' proof proof' s0 s1 z0 z1
logs-range net entries next {first} {names} {names'} {proof} {proof'} {s0} {s1} {z0} {z1} j n lt p =
    let count : n - j ≡ suc (n - (j + 1)) = omega arith in
    subst (λ (k : ℕ). GoesOn (length (miter_of net)) (is_for_logs net entries) (all_lines net entries) (log_lines net entries)
    (logs_left net entries next (range_with_len j k)) first next names names' proof proof' s0 s1 z0 z1) count p

pub logs-none : (net : AigPair) (entries : List Entry) (next j n : ℕ) → n ≤ j → logs_left net entries next (range_with_len j (n - j)) ≡ []
logs-none net entries next j n past =
    let none : n - j ≡ 0 = omega arith in
    ap (λ (k : ℕ). logs_left net entries next (range_with_len j k)) none

-- ---- counting, and asking

-- the steps of the outputs' logs from that one on
pub total-range : (entries : List Entry) (j n : ℕ) → j < n
    → total (map (spent_log entries) (range_with_len j (n - j)))
    ≡ length (spent_log entries j) + total (map (spent_log entries) (range_with_len (j + 1) (n - (j + 1))))
total-range entries j n lt =
    let count : n - j ≡ suc (n - (j + 1)) = omega arith in
    ap (λ (k : ℕ). total (map (spent_log entries) (range_with_len j k))) count

pub total-none : (entries : List Entry) (j n : ℕ) → n ≤ j → total (map (spent_log entries) (range_with_len j (n - j))) ≡ 0
total-none entries j n past =
    let none : n - j ≡ 0 = omega arith in
    ap (λ (k : ℕ). total (map (spent_log entries) (range_with_len j k))) none

named-append : (xs ys : List LratStep) → named_ids (xs ++ ys) ≡ named_ids xs ++ named_ids ys
named-append [] ys = refl
named-append (Add id clause hints ∷ xs) ys =
    ap (λ (l : List ℕ). id ∷ l)
    (ap (λ (l : List ℕ). hints ++ l) (named-append xs ys) ∙ sym (append_assoc hints (named_ids xs) (named_ids ys)))
named-append (Del ids ∷ xs) ys = named-append xs ys

-- whoever marks what is left has marked all
abbrev pub AsksRest : AigPair → List Entry → ByStep → List ℕ → ℕ → ByStep → Type 0
AsksRest net entries old left next now =
    (t : ByStep) → AreMarked (named_ids (additions net (shown_ids net entries) next (map (spent_log entries) left))) always now t
    → AreMarked (named_ids (log_lines net entries)) always old t

pub asks-next : (net : AigPair) (entries : List Entry) (old now now' : ByStep) (j n next : ℕ) → j < n
    → AsksRest net entries old (range_with_len j (n - j)) next now → KeepsShape now now'
    → AreMarked (named_ids (additions_from net (shown_ids net entries) next next (spent_log entries j))) always now now'
    → AsksRest net entries old (range_with_len (j + 1) (n - (j + 1))) (next + length (spent_log entries j)) now'
asks-next net entries old now now' j n next lt rest shape here t behind =
    rest t
    (subst (λ (l : List ℕ). AreMarked (named_ids (additions net (shown_ids net entries) next (map (spent_log entries) l))) always now t) (sym split)
    (subst (λ (l : List ℕ). AreMarked l always now t) (sym (named-append own (additions net (shown_ids net entries) (next + length (spent_log entries j)) later)))
    (marks-next now now' t (named_ids own) (named_ids (additions net (shown_ids net entries) (next + length (spent_log entries j)) later)) always
    (omega arith) shape here behind)))
  where
    split : range_with_len j (n - j) ≡ j ∷ range_with_len (j + 1) (n - (j + 1))
    split = let count : n - j ≡ suc (n - (j + 1)) = omega arith in ap (range_with_len j) count

    own : List LratStep
    own = additions_from net (shown_ids net entries) next next (spent_log entries j)

    later : List (List Step)
    later = map (spent_log entries) (range_with_len (j + 1) (n - (j + 1)))

pub asks-none : (net : AigPair) (entries : List Entry) (old now : ByStep) (j n next : ℕ) → n ≤ j
    → AsksRest net entries old (range_with_len j (n - j)) next now → AreMarked (named_ids (log_lines net entries)) always old now
asks-none net entries old now j n next past rest =
    let none : n - j ≡ 0 = omega arith in
    subst (λ (k : ℕ). AsksRest net entries old (range_with_len j k) next now) none rest now (marks-nothing now always)

-- ---- the whole derivation

-- before the first line
pub derivation-start : (net : AigPair) (out : ℕ) (entries : List Entry) → IsSoundBook net out entries → (names : ByStep) (proof : ProofText)
    → proof.last ≡ length (miter_of net) → proof.lines ≡ 0
    → IsAtLine (length (miter_of net)) (is_for_logs net entries) (all_lines net entries) (all_lines net entries) (length (miter_of net) + 1) names proof
derivation-start net out entries book names proof last lines =
    at-start (length (miter_of net)) (is_for_logs net entries) (all_lines net entries) names proof (lines-row net out entries book) last lines

pub derivation-whole : (net : AigPair) (entries : List Entry)
    → text_left (length (miter_of net)) (is_for_logs net entries) (all_lines net entries) (all_lines net entries)
    ≡ proof_text net (derivation_of net entries)
unfolding derivation_of
derivation-whole net entries = text-start (length (miter_of net)) (is_for_logs net entries) (all_lines net entries)

-- before the first log
pub derivation-last : (net : AigPair) (entries : List Entry) (next : ℕ) (names : ByStep) (proof : ProofText)
    → IsAtLine (length (miter_of net)) (is_for_logs net entries) (all_lines net entries) (log_lines net entries) next names proof
    → proof.last ≡ length (miter_of net) + length (written_lines net entries) - length (log_lines net entries)
derivation-last net entries next names proof at =
    omega (
      arith,
      at.last_is,
      ap length at.parts,
      length-append at.done (reached (is_for_logs net entries) (log_lines net entries)),
      ap length (logs-reached net entries),
    )

-- behind the last line
at-end-lines : (net : AigPair) (out : ℕ) (entries : List Entry) → IsSoundBook net out entries → (next : ℕ) (names : ByStep) (proof : ProofText)
    → length (miter_of net) < 2 ^ 32
    → IsAtLine (length (miter_of net)) (is_for_logs net entries) (all_lines net entries) [] next names proof
    → proof.lines ≡ length (derivation_of net entries)
unfolding derivation_of
at-end-lines net out entries book next names proof few at =
    omega (
      arith,
      at.lines_is,
      trimmed-short (length (miter_of net)) (is_for_logs net entries) (all_lines net entries),
      lines-few net out entries book few,
    )

pub derivation-lines : {A : Type 0} (r : Result A PutErr) (net : AigPair) (out : ℕ) (entries : List Entry) → IsSoundBook net out entries
    → (next next' : ℕ) (names names' : ByStep) (proof proof' : ProofText) (s0 s1 : DeskState) (z0 z1 : Sizes) → length (miter_of net) < 2 ^ 32
    → IsAtLine (length (miter_of net)) (is_for_logs net entries) (all_lines net entries) (log_lines net entries) next names proof
    → Goes (length (miter_of net)) (is_for_logs net entries) (all_lines net entries) (log_lines net entries) [] next next' names names' proof proof' s0 s1 z0 z1 r
    → OnOk r (proof'.lines ≡ length (derivation_of net entries))
derivation-lines (Ok a) net out entries book next next' names names' proof proof' s0 s1 z0 z1 few at goes =
    at-end-lines net out entries book next' names' proof' few (goes.stands at)
derivation-lines (Err e) net out entries book next next' names names' proof proof' s0 s1 z0 z1 few at goes = tt
