-- What a legal book's derivation is.
use Rattle.std.proofs.Common.{◌≡◌, ℕ, zero, suc, ◌+◌, ◌*◌, ◌-◌, ◌<◌, ◌≤◌, ◌^◌, Bool, true, false, List, [], ◌∷◌, ◌++◌, length, map, refl, sym, ap, subst, arith, length-append}
use Rattle.std.specs.Prelude.{All}
use Rattle.std.specs.List.{range_with_len, AllByRecursion}
use Rattle.std.proofs.lemmas.List.{append-nil}
use Rattle.std.proofs.lemmas.List.Elements.{All-from_recursion}
use Rattle.lits.specs.declared.step.Step.{Step}
use Rattle.netlist.specs.Net.{AigPair}
use Rattle.netlist.specs.Miter.{miter_of}
use Rattle.lemma_book.specs.declared.entry.Entry.{Entry}
use Rattle.lrat_text.specs.declared.step.LratStep.{LratStep}
use Rattle.proof_stitch.specs.Written.{written_steps, shown_ids, book_additions}
use Rattle.lemma_book.specs.Entry.{has_spent, outputs_of}
use Rattle.proof_stitch.specs.Derivation.{IsDerivation, all_lines, derivation_of, is_for_logs, log_lines, spans_from, spent_log}
use Rattle.proof_stitch.specs.Progress.{InRow}
use Rattle.proof_stitch.proofs.GrowLemmas.{Formula, Grows}
use Rattle.proof_stitch.proofs.StepLemmas.{clauses_in, IsDerived, grows-lists}
use Rattle.proof_stitch.proofs.ShownLemmas.{merges-live, grows-entries}
use Rattle.proof_stitch.proofs.BookLemmas.{IsSoundBook, log-derived, log-short, log-whole, total}
use Rattle.proof_stitch.proofs.RefutationLemmas.{fits_dimacs, length-additions, length-clauses_in, total-few}
use Rattle.proof_stitch.proofs.RowLemmas.{grows-row}
use Rattle.proof_stitch.proofs.TrimmedLemmas.{Spelling, trimmed-written}
use Rattle.proof_stitch.proofs.XorLemmas.{miter-some}

all-logs : (net : AigPair) (out : ℕ) (entries : List Entry) (js : List ℕ) → IsSoundBook net out entries
    → AllByRecursion (IsDerived net entries) (map (spent_log entries) js)
all-logs net out entries [] book = tt
all-logs net out entries (j ∷ js) book = (log-derived net out entries book j, all-logs net out entries js book)

logs-most : (net : AigPair) (out : ℕ) (entries : List Entry) (n a : ℕ) → IsSoundBook net out entries
    → total (map (spent_log entries) (range_with_len a n)) ≤ n * 1000000000
logs-most net out entries zero a book = omega arith
logs-most net out entries (suc n) a book =
    omega (arith, log-short net out entries book.sound a, book.low, logs-most net out entries n (a + 1) book)

-- all logs are few steps
pub logs-few : (net : AigPair) (out : ℕ) (entries : List Entry) → IsSoundBook net out entries
    → total (map (spent_log entries) (outputs_of net)) ≤ 16777216 * 1000000000
logs-few net out entries book =
    omega (arith, book.is_net.a.count, logs-most net out entries (length net.a.outputs) 0 book)

-- as many lines as steps
pub length-log_lines : (net : AigPair) (entries : List Entry) → length (log_lines net entries) ≡ total (map (spent_log entries) (outputs_of net))
length-log_lines net entries =
    length-additions net (shown_ids net entries) (length (miter_of net) + length (book_additions net entries) + 1) (map (spent_log entries) (outputs_of net))

module _ (net : AigPair) (out : ℕ) (entries : List Entry) (book : IsSoundBook net out entries) where
  abbrev m : ℕ
  m = length (miter_of net)

  abbrev logs : List (List Step)
  logs = map (spent_log entries) (outputs_of net)

  behind : (f : Formula) → f ≡ miter_of net ++ clauses_in net (map written_steps entries) → Grows f (log_lines net entries)
  behind f e =
      subst (λ (l : List LratStep). Grows f l) (append-nil (log_lines net entries))
      (grows-lists net book.is_net (fits_dimacs net book.is_net) (shown_ids net entries) entries logs f
      (record { more = clauses_in net (map written_steps entries); is = e })
      (merges-live net entries entries [] (sym (append-nil entries)) book.shown f e) [] (m + length (book_additions net entries) + 1) next
      (all-logs net out entries (outputs_of net) book) (λ g h. tt))
    where
      next : m + length (book_additions net entries) + 1 ≡ length f + 1
      next =
          let l : length f ≡ length (miter_of net ++ clauses_in net (map written_steps entries)) = ap length e in
          omega (
            arith,
            l,
            length-append (miter_of net) (clauses_in net (map written_steps entries)),
            length-clauses_in net (map written_steps entries),
            length-additions net (shown_ids net entries) (m + 1) (map written_steps entries),
          )

  -- the miter grows by all steps and the logs
  pub lines-grow : Grows (miter_of net) (all_lines net entries)
  lines-grow =
      grows-entries net book.is_net (fits_dimacs net book.is_net) entries [] entries refl tt book.shown book.in_turn (miter_of net)
      (sym (append-nil (miter_of net))) (log_lines net entries) (m + 1) refl behind

  pub lines-row : InRow m (all_lines net entries)
  lines-row = grows-row (miter_of net) (all_lines net entries) lines-grow

  pub lines-few : m < 2 ^ 32 → m + length (all_lines net entries) < 2 ^ 59
  lines-few few =
      omega (
        arith,
        few,
        length-append (book_additions net entries) (log_lines net entries),
        length-additions net (shown_ids net entries) (m + 1) (map written_steps entries),
        length-log_lines net entries,
        total-few net out entries book,
        logs-few net out entries book,
      )

  -- the derivation derives
  pub derivation-derives : Spelling → m < 2 ^ 32 → IsDerivation net (derivation_of net entries)
  unfolding derivation_of
  derivation-derives spelling few =
      let written =
      trimmed-written (miter_of net) (is_for_logs net entries) (all_lines net entries) spelling lines-grow
      (miter-some net) (omega (arith, few)) (omega (arith, lines-few few)) in
      record { spells = written.spells; derives = written.derives; ids = written.ids }

-- each span is as long as the budget
spans-from-whole : (net : AigPair) (out : ℕ) (entries : List Entry) (id : ℕ) (js : List ℕ) → 1 ≤ out → IsSoundBook net out entries
    → AllByRecursion (λ s. s.last + 1 ≡ s.first + out) (spans_from entries id js)
spans-from-whole net out entries id [] some book = tt
spans-from-whole net out entries id (j ∷ js) some book =
    go (has_spent entries j) refl (spans-from-whole net out entries (id + length (spent_log entries j)) js some book)
  where
    Rest : Type 0
    Rest = AllByRecursion (λ s. s.last + 1 ≡ s.first + out) (spans_from entries (id + length (spent_log entries j)) js)

    go : (b : Bool) → has_spent entries j ≡ b → Rest → AllByRecursion (λ s. s.last + 1 ≡ s.first + out) (spans_from entries id (j ∷ js))
    go true f rest =
        let whole : id + length (spent_log entries j) - 1 + 1 ≡ id + out = omega (arith, log-whole net out entries book.sound j f) in
        rw f (whole, rest)
    go false f rest = rw f rest

pub spans-whole : (net : AigPair) (out : ℕ) (entries : List Entry) (id : ℕ) (js : List ℕ) → 1 ≤ out → IsSoundBook net out entries
    → All (λ s. s.last + 1 ≡ s.first + out) (spans_from entries id js)
spans-whole net out entries id js some book =
    All-from_recursion (λ s. s.last + 1 ≡ s.first + out) (spans_from entries id js) (spans-from-whole net out entries id js some book)
