-- The lines with the ids of a span add the clauses of the log of its output.
use Rattle.std.proofs.Common.{◌≡◌, ℕ, suc, ◌+◌, ◌-◌, ◌<◌, ◌≤◌, Bool, true, false, not, ◌||◌, List, [], ◌∷◌, ◌++◌, length, map, if◌then◌else◌, refl, sym, ap, ◌∙◌, subst, arith, add-zero, inl, inr, ◌⊎◌, append_assoc, length-append}
use Rattle.std.specs.Prelude.{filter, nat_le, ◌&&◌}
use Rattle.std.specs.List.{AllByRecursion}
use Rattle.std.proofs.lemmas.List.{append-nil, length-map, map-append}
use Rattle.std.proofs.lemmas.List.Elements.{filter-append, All-from_recursion}
use Rattle.std.proofs.lemmas.Bool.{le-leb, or_left, or_right}
use Rattle.std.proofs.lemmas.Bool.Decides.{leb_tells}
use Rattle.lits.specs.Dimacs.{DimacsLiteral}
use Rattle.lits.specs.declared.step.Step.{Step}
use Rattle.lits.proofs.Facts.{all-append}
use Rattle.netlist.specs.Net.{AigPair}
use Rattle.netlist.specs.Miter.{miter_of, numbered}
use Rattle.lemma_book.specs.declared.entry.Entry.{Entry}
use Rattle.lrat_text.specs.declared.step.LratStep.{LratStep}
use Rattle.lrat_text.specs.declared.step.LratStep.TheVariants.{Add, Del}
use Rattle.proof_stitch.specs.declared.logs.Span.{Span}
use Rattle.proof_stitch.specs.Steps.{additions_from, additions}
use Rattle.proof_stitch.specs.Written.{shown_ids, book_additions}
use Rattle.proof_stitch.specs.Trimmed.{HaveNoGaps, cites, deletion, id_in, is_addition, is_cited, last_cited, new_id, reached, renamed, trimmed, with_deletions}
use Rattle.lemma_book.specs.Entry.{has_spent, outputs_of}
use Rattle.proof_stitch.specs.Derivation.{AreSpans, IsSpan, all_lines, clause_in, derivation_of, is_for_logs, log_clauses, log_lines, shown_units, spans_from, spans_of, spent_log, with_ids, written_lines}
use Rattle.proof_stitch.proofs.DerivationLemmas.{lines-row}
use Rattle.proof_stitch.proofs.BookLemmas.{IsSoundBook}
use Rattle.proof_stitch.proofs.LogLemmas.{IsBetween, added-from, added-lists, all-reached, goals-cites, logs-asked, wider}
use Rattle.proof_stitch.proofs.RefutationLemmas.{length-additions_from}
use Rattle.proof_stitch.proofs.TrimmedLemmas.{trimmed-additions}

-- an id outside, and one inside
is_out : (p q i : ℕ) → (i < p) ⊎ (q < i) → (nat_le p i && nat_le i q) ≡ false
is_out p q i apart =
    elim (leb_tells p i) [
      | inl low ↦
          elim (leb_tells i q) [
            | inl high ↦ elim apart [ inl e ↦ absurd (omega (arith, low.1)) | inr e ↦ absurd (omega (arith, high.1)) ]
            | inr high ↦ rw (low.0, high.0) refl
          ]
      | inr low ↦ rw low.0 refl
    ]

is_in : (p q i : ℕ) → p ≤ i → i ≤ q → (nat_le p i && nat_le i q) ≡ true
is_in p q i low high = rw (le-leb p i low, le-leb i q high) refl

-- of lines with other ids none is taken, and of those with such ids each
none-with : (p q a b : ℕ) (xs : List LratStep) → (b ≤ p) ⊎ (q < a) → AllByRecursion (IsBetween a b) xs → with_ids p q xs ≡ []
none-with p q a b [] apart all = refl
none-with p q a b (x ∷ xs) apart all =
    let here : IsBetween a b x = all.0 in
    let past : (id_in x < p) ⊎ (q < id_in x) = elim apart [ inl e ↦ inl (omega (arith, here.high)) | inr e ↦ inr (omega (arith, here.low)) ] in
    rw (is_out p q (id_in x) past) (none-with p q a b xs apart all.1)

all-with : (p q a b : ℕ) (xs : List LratStep) → p ≤ a → b ≤ q + 1 → AllByRecursion (IsBetween a b) xs → with_ids p q xs ≡ xs
all-with p q a b [] low high all = refl
all-with p q a b (x ∷ xs) low high all =
    let here : IsBetween a b x = all.0 in
    let f : p ≤ id_in x = omega (arith, here.low) in
    let g : id_in x ≤ q = omega (arith, here.high) in
    rw (is_in p q (id_in x) f g) (ap (λ (l : List LratStep). x ∷ l) (all-with p q a b xs low high all.1))

with-append : (p q : ℕ) (xs ys : List LratStep) → with_ids p q (xs ++ ys) ≡ with_ids p q xs ++ with_ids p q ys
with-append p q xs ys = filter-append (λ l. nat_le p (id_in l) && nat_le (id_in l) q) xs ys

-- the lines of one log between others
own-lines : (before own behind : List LratStep) (first n end : ℕ) → 1 ≤ first → AllByRecursion (IsBetween 0 first) before
    → AllByRecursion (IsBetween first (first + n)) own → AllByRecursion (IsBetween (first + n) end) behind
    → with_ids first (first + n - 1) (before ++ (own ++ behind)) ≡ own
own-lines before own behind first n end some low here high =
    with-append first (first + n - 1) before (own ++ behind)
    ∙ rw (none-with first (first + n - 1) 0 first before (inl (omega arith)) low)
    (with-append first (first + n - 1) own behind
    ∙ rw (
      all-with first (first + n - 1) first (first + n) own (omega arith) (omega arith) here,
      none-with first (first + n - 1) (first + n) end behind (inr (omega arith)) high,
    ) (append-nil own))

-- ---- what is written of all lines

-- lines that are asked for stand behind those of the others that are reached
kept-split : (asked : ℕ → Bool) (xs ys : List LratStep) → AllByRecursion (λ l. asked (id_in l) ≡ true) ys
    → (front : List LratStep) × (reached asked (xs ++ ys) ≡ front ++ ys)
kept-split asked [] ys all = ([], all-reached asked ys all)
kept-split asked (x ∷ xs) ys all =
    go (asked (id_in x) || is_cited (reached asked (xs ++ ys)) (id_in x)) refl (kept-split asked xs ys all)
  where
    go : (b : Bool) → (asked (id_in x) || is_cited (reached asked (xs ++ ys)) (id_in x)) ≡ b
        → ((front : List LratStep) × (reached asked (xs ++ ys) ≡ front ++ ys))
        → (front : List LratStep) × (reached asked (x ∷ (xs ++ ys)) ≡ front ++ ys)
    go true e rest = (x ∷ rest.0, rw e (ap (λ (l : List LratStep). x ∷ l) rest.1))
    go false e rest = (rest.0, rw e rest.1)

deletions-split : (asked : ℕ → Bool) (before xs ys : List LratStep)
    → (front : List LratStep) × (with_deletions asked before (xs ++ ys) ≡ front ++ with_deletions asked (before ++ xs) ys)
deletions-split asked before [] ys = ([], ap (λ (l : List LratStep). with_deletions asked l ys) (sym (append-nil before)))
deletions-split asked before (x ∷ xs) ys =
    let rest = deletions-split asked (before ++ x ∷ []) xs ys in
    let gone = deletion (last_cited asked before x (xs ++ ys)) in (
      x ∷ (gone ++ rest.0),
      ap (λ (l : List LratStep). x ∷ (gone ++ l))
          (rest.1 ∙ ap (λ (l : List LratStep). rest.0 ++ with_deletions asked l ys) (append_assoc before (x ∷ []) xs))
          ∙ ap (λ (l : List LratStep). x ∷ l) (sym (append_assoc gone rest.0 (with_deletions asked (before ++ (x ∷ xs)) ys))),
    )

filter-none : (test : ℕ → Bool) (ns : List ℕ) → ((n : ℕ) → test n ≡ false) → filter test ns ≡ []
filter-none test [] none = refl
filter-none test (n ∷ ns) none = rw (none n) (filter-none test ns none)

-- nothing is deleted that is asked for
no-deletions : (asked : ℕ → Bool) (before ys : List LratStep) → ((n : ℕ) → is_cited ys n ≡ true → asked n ≡ true)
    → with_deletions asked before ys ≡ ys
no-deletions asked before [] each = refl
no-deletions asked before (y ∷ ys) each =
    rw (filter-none (λ n. cites y n && not (asked n || is_cited ys n)) (map id_in before) none)
    (ap (λ (l : List LratStep). y ∷ l)
    (no-deletions asked (before ++ y ∷ []) ys (λ n h. each n (or_right (cites y n) (is_cited ys n) h))))
  where
    none : (n : ℕ) → (cites y n && not (asked n || is_cited ys n)) ≡ false
    none n = go (cites y n) refl
      where
        go : (b : Bool) → cites y n ≡ b → (cites y n && not (asked n || is_cited ys n)) ≡ false
        go false e = rw e refl
        go true e = rw (e, each n (or_left (cites y n) (is_cited ys n) e)) refl

-- how many of some lines are additions
abbrev additions_in : List LratStep → ℕ
additions_in lines = length (filter is_addition lines)

-- ids without gaps are between the first and the last
gaps-front : (last : ℕ) (xs ys : List LratStep) → HaveNoGaps last (xs ++ ys)
    → AllByRecursion (IsBetween 0 (last + additions_in xs + 1)) xs × HaveNoGaps (last + additions_in xs) ys
gaps-front last [] ys gaps = (tt, subst (λ (n : ℕ). HaveNoGaps n ys) (sym (add-zero last)) gaps)
gaps-front last (Add id clause hints ∷ xs) ys gaps =
    let rest = gaps-front id xs ys gaps.1 in
    let sum : id + additions_in xs ≡ last + suc (additions_in xs) = omega (arith, gaps.0) in (
      (
        record { low = omega arith; high = omega (arith, gaps.0) },
        wider 0 (id + additions_in xs + 1) 0 (last + suc (additions_in xs) + 1) xs (omega arith) (omega (arith, gaps.0)) rest.0,
      ),
      subst (λ (n : ℕ). HaveNoGaps n ys) sum rest.1,
    )
gaps-front last (Del ids ∷ xs) ys gaps =
    let rest = gaps-front last xs ys gaps in
    ((record { low = omega arith; high = omega arith }, rest.0), rest.1)

gaps-added : (last : ℕ) (xs ys : List LratStep) → AllByRecursion (λ l. is_addition l ≡ true) xs → HaveNoGaps last (xs ++ ys)
    → AllByRecursion (IsBetween (last + 1) (last + 1 + length xs)) xs × HaveNoGaps (last + length xs) ys
gaps-added last [] ys all gaps = (tt, subst (λ (n : ℕ). HaveNoGaps n ys) (sym (add-zero last)) gaps)
gaps-added last (Del ids ∷ xs) ys all gaps = cc
gaps-added last (Add id clause hints ∷ xs) ys all gaps =
    let rest = gaps-added id xs ys all.1 gaps.1 in
    let sum : id + length xs ≡ last + suc (length xs) = omega (arith, gaps.0) in (
      (
        record { low = omega (arith, gaps.0); high = omega (arith, gaps.0) },
        wider (id + 1) (id + 1 + length xs) (last + 1) (last + 1 + suc (length xs)) xs (omega (arith, gaps.0)) (omega (arith, gaps.0)) rest.0,
      ),
      subst (λ (n : ℕ). HaveNoGaps n ys) sum rest.1,
    )

added-renamed : (name : ℕ → ℕ) (xs : List LratStep) → AllByRecursion (λ l. is_addition l ≡ true) xs
    → AllByRecursion (λ l. is_addition l ≡ true) (map (renamed name) xs)
added-renamed name [] all = tt
added-renamed name (Add id clause hints ∷ xs) all = (refl, added-renamed name xs all.1)
added-renamed name (Del ids ∷ xs) all = cc

count-added : (xs : List LratStep) → AllByRecursion (λ l. is_addition l ≡ true) xs → additions_in xs ≡ length xs
count-added [] all = refl
count-added (x ∷ xs) all = rw all.0 (ap suc (count-added xs all.1))

-- the clauses of a log's lines, under whatever ids
clauses-renamed : (net : AigPair) (name : ℕ → ℕ) (shown : List ℕ) (first id : ℕ) (steps : List Step)
    → map clause_in (map (renamed name) (additions_from net shown first id steps)) ≡ log_clauses net steps
clauses-renamed net name shown first id [] = refl
clauses-renamed net name shown first id (s ∷ ss) =
    ap (λ (l : List (List DimacsLiteral)). map (numbered net) s.clause ∷ l) (clauses-renamed net name shown first (id + 1) ss)

-- the spans of some outputs' logs that stand behind other lines
module _ (net : AigPair) (entries : List Entry) where
  abbrev Lines : List LratStep → Span → Type 0
  Lines all s = map clause_in (with_ids s.first s.last all) ≡ log_clauses net (spent_log entries s.output)

  abbrev renumbered : (ℕ → ℕ) → ℕ → List ℕ → List LratStep
  renumbered name p js = map (renamed name) (additions net (shown_ids net entries) p (map (spent_log entries) js))

  spans-lines : (name : ℕ → ℕ) (before : List LratStep) (p last : ℕ) (js : List ℕ) → AllByRecursion (IsBetween 0 (last + 1)) before
      → HaveNoGaps last (renumbered name p js)
      → AllByRecursion (Lines (before ++ renumbered name p js)) (spans_from entries (last + 1) js)
  spans-lines name before p last [] low gaps = tt
  spans-lines name before p last (j ∷ js) low gaps =
      subst (λ (l : List LratStep). AllByRecursion (Lines (before ++ l)) (spans_from entries (last + 1) (j ∷ js))) (sym parts)
      (go (has_spent entries j) refl (spans-lines name (before ++ own) next (last + length (spent_log entries j)) js further rest))
    where
      log : List Step
      log = spent_log entries j

      own : List LratStep
      own = map (renamed name) (additions_from net (shown_ids net entries) p p (spent_log entries j))

      next : ℕ
      next = p + length (spent_log entries j)

      behind : List LratStep
      behind = renumbered name (p + length (spent_log entries j)) js

      parts : renumbered name p (j ∷ js) ≡ own ++ behind
      parts =
          map-append (renamed name) (additions_from net (shown_ids net entries) p p (spent_log entries j))
          (additions net (shown_ids net entries) (p + length (spent_log entries j)) (map (spent_log entries) js))

      count : length own ≡ length (spent_log entries j)
      count =
          omega (
            arith,
            length-map (additions_from net (shown_ids net entries) p p (spent_log entries j)) (renamed name),
            length-additions_from net (shown_ids net entries) p p (spent_log entries j),
          )

      added : AllByRecursion (λ l. is_addition l ≡ true) own
      added =
          added-renamed name (additions_from net (shown_ids net entries) p p (spent_log entries j))
          (added-from net (shown_ids net entries) p p (spent_log entries j))

      ids : AllByRecursion (IsBetween (last + 1) (last + 1 + length own)) own × HaveNoGaps (last + length own) behind
      ids = gaps-added last own behind added (subst (λ (l : List LratStep). HaveNoGaps last l) parts gaps)

      rest : HaveNoGaps (last + length (spent_log entries j)) (renumbered name next js)
      rest = subst (λ (n : ℕ). HaveNoGaps (last + n) behind) count ids.1

      here : AllByRecursion (IsBetween (last + 1) (last + 1 + length (spent_log entries j))) own
      here = subst (λ (n : ℕ). AllByRecursion (IsBetween (last + 1) (last + 1 + n)) own) count ids.0

      further : AllByRecursion (IsBetween 0 (last + length (spent_log entries j) + 1)) (before ++ own)
      further =
          all-append (IsBetween 0 (last + length (spent_log entries j) + 1)) before own
          (wider 0 (last + 1) 0 (last + length (spent_log entries j) + 1) before (omega arith) (omega arith) low)
          (wider (last + 1) (last + 1 + length (spent_log entries j)) 0 (last + length (spent_log entries j) + 1) own (omega arith) (omega arith) here)

      last-ids : AllByRecursion (IsBetween (last + 1 + length (spent_log entries j)) (last + 1 + length (spent_log entries j) + length behind)) behind
      last-ids =
          let whole = gaps-added (last + length (spent_log entries j)) behind []
          (added-renamed name (additions net (shown_ids net entries) (p + length (spent_log entries j)) (map (spent_log entries) js))
          (added-lists net (shown_ids net entries) (p + length (spent_log entries j)) (map (spent_log entries) js)))
          (subst (λ (l : List LratStep). HaveNoGaps (last + length (spent_log entries j)) l) (sym (append-nil behind)) rest) in
          wider (last + length (spent_log entries j) + 1) (last + length (spent_log entries j) + 1 + length behind)
          (last + 1 + length (spent_log entries j)) (last + 1 + length (spent_log entries j) + length behind) behind (omega arith) (omega arith) whole.0

      Rest : List LratStep → Type 0
      Rest l = AllByRecursion (Lines l) (spans_from entries (last + length (spent_log entries j) + 1) js)

      regrouped : Rest ((before ++ own) ++ behind) → AllByRecursion (Lines (before ++ (own ++ behind))) (spans_from entries (last + 1 + length (spent_log entries j)) js)
      regrouped given =
          let shift : last + length (spent_log entries j) + 1 ≡ last + 1 + length (spent_log entries j) = omega arith in
          subst (λ (n : ℕ). AllByRecursion (Lines (before ++ (own ++ behind))) (spans_from entries n js)) shift
          (subst Rest (append_assoc before own behind) given)

      go : (b : Bool) → has_spent entries j ≡ b → Rest ((before ++ own) ++ behind)
          → AllByRecursion (Lines (before ++ (own ++ behind)))
          ((if b then record { output = j; first = last + 1; last = last + 1 + length (spent_log entries j) - 1 } ∷ [] else [])
          ++ spans_from entries (last + 1 + length (spent_log entries j)) js)
      go true f given = (
        ap (map clause_in)
            (own-lines before own behind (last + 1) (length (spent_log entries j)) (last + 1 + length (spent_log entries j) + length behind) (omega arith) low here last-ids)
            ∙ clauses-renamed net name (shown_ids net entries) p p (spent_log entries j),
        regrouped given,
      )
      go false f given = regrouped given

  spans-count : (id : ℕ) (js : List ℕ) → 1 ≤ id → AllByRecursion (λ s. s.last + 1 ≡ s.first + length (spent_log entries s.output)) (spans_from entries id js)
  spans-count id [] some = tt
  spans-count id (j ∷ js) some = go (has_spent entries j) refl (spans-count (id + length (spent_log entries j)) js (omega arith))
    where
      go : (b : Bool) → has_spent entries j ≡ b
          → AllByRecursion (λ s. s.last + 1 ≡ s.first + length (spent_log entries s.output)) (spans_from entries (id + length (spent_log entries j)) js)
          → AllByRecursion (λ s. s.last + 1 ≡ s.first + length (spent_log entries s.output))
          ((if b then record { output = j; first = id; last = id + length (spent_log entries j) - 1 } ∷ [] else []) ++ spans_from entries (id + length (spent_log entries j)) js)
      go true f rest = (omega arith, rest)
      go false f rest = rest

  spans-outputs : (id : ℕ) (js : List ℕ) → map (λ s. s.output) (spans_from entries id js) ≡ filter (has_spent entries) js
  spans-outputs id [] = refl
  spans-outputs id (j ∷ js) = go (has_spent entries j) refl (spans-outputs (id + length (spent_log entries j)) js)
    where
      go : (b : Bool) → has_spent entries j ≡ b
          → map (λ s. s.output) (spans_from entries (id + length (spent_log entries j)) js) ≡ filter (has_spent entries) js
          → map (λ s. s.output) ((if b then record { output = j; first = id; last = id + length (spent_log entries j) - 1 } ∷ [] else []) ++ spans_from entries (id + length (spent_log entries j)) js)
          ≡ (if b then j ∷ filter (has_spent entries) js else filter (has_spent entries) js)
      go true f rest = ap (λ (l : List ℕ). j ∷ l) rest
      go false f rest = rest

-- those of the book's derivation
module _ (net : AigPair) (out : ℕ) (entries : List Entry) (book : IsSoundBook net out entries) where
  abbrev m : ℕ
  m = length (miter_of net)

  abbrev asked : ℕ → Bool
  asked = is_for_logs net entries

  abbrev name : ℕ → ℕ
  name = new_id (length (miter_of net)) (written_lines net entries)

  abbrev logs : List LratStep
  logs = log_lines net entries

  kept : (front : List LratStep) × (written_lines net entries ≡ front ++ log_lines net entries)
  kept = kept-split asked (book_additions net entries) (log_lines net entries) (logs-asked net entries)

  front : (front : List LratStep) × (with_deletions asked [] (written_lines net entries) ≡ front ++ log_lines net entries)
  front =
      let split = deletions-split asked [] kept.0 (log_lines net entries) in (
        split.0,
        ap (with_deletions asked []) kept.1 ∙ split.1
            ∙ ap (λ (l : List LratStep). split.0 ++ l)
            (no-deletions asked kept.0 (log_lines net entries) (goals-cites (shown_units net entries) (log_lines net entries))),
      )

  -- the lines of the derivation
  lines-are : trimmed m asked (all_lines net entries) ≡ map (renamed name) front.0 ++ map (renamed name) (log_lines net entries)
  lines-are = ap (map (renamed name)) front.1 ∙ map-append (renamed name) front.0 (log_lines net entries)

  parts : derivation_of net entries ≡ map (renamed name) front.0 ++ map (renamed name) (log_lines net entries)
  unfolding derivation_of
  parts = lines-are

  -- how many of them stand before the logs
  abbrev before : ℕ
  before = length (written_lines net entries) - length (log_lines net entries)

  count : additions_in (map (renamed name) front.0) ≡ before
  count =
      let all = trimmed-additions m asked (all_lines net entries) (lines-row net out entries book) in
      omega (
        arith,
        all,
        ap additions_in lines-are,
        ap length (filter-append is_addition (map (renamed name) front.0) (map (renamed name) (log_lines net entries))),
        length-append (filter is_addition (map (renamed name) front.0)) (filter is_addition (map (renamed name) (log_lines net entries))),
        count-added (map (renamed name) (log_lines net entries))
            (added-renamed name (log_lines net entries)
            (added-lists net (shown_ids net entries) (m + length (book_additions net entries) + 1) (map (spent_log entries) (outputs_of net)))),
        length-map (log_lines net entries) (renamed name),
      )

  -- as many as the reached lines have ids before the logs
  pub logs-within : length (log_lines net entries) ≤ length (written_lines net entries)
  logs-within = omega (arith, ap length kept.1, length-append kept.0 (log_lines net entries))

  pub spans-are : HaveNoGaps m (derivation_of net entries) → AreSpans net entries (spans_of net entries)
  spans-are gaps = record {
    outputs = spans-outputs net entries (m + length (written_lines net entries) - length (log_lines net entries) + 1) (outputs_of net);
    each =
        All-from_recursion (IsSpan net entries) (spans_of net entries)
        (both (spans_of net entries) lines
        (spans-count net entries (m + length (written_lines net entries) - length (log_lines net entries) + 1) (outputs_of net) (omega arith)));
  }
    where
      split : AllByRecursion (IsBetween 0 (m + additions_in (map (renamed name) front.0) + 1)) (map (renamed name) front.0)
          × HaveNoGaps (m + additions_in (map (renamed name) front.0)) (map (renamed name) (log_lines net entries))
      split = gaps-front m (map (renamed name) front.0) (map (renamed name) (log_lines net entries)) (subst (λ (l : List LratStep). HaveNoGaps m l) parts gaps)

      start : m + additions_in (map (renamed name) front.0) ≡ m + length (written_lines net entries) - length (log_lines net entries)
      start = omega (arith, count, logs-within)

      lines : AllByRecursion (Lines net entries (derivation_of net entries)) (spans_of net entries)
      lines =
          subst (λ (l : List LratStep). AllByRecursion (Lines net entries l) (spans_of net entries)) (sym parts)
          (spans-lines net entries name (map (renamed name) front.0) (m + length (book_additions net entries) + 1)
          (m + length (written_lines net entries) - length (log_lines net entries)) (outputs_of net)
          (subst (λ (n : ℕ). AllByRecursion (IsBetween 0 (n + 1)) (map (renamed name) front.0)) start split.0)
          (subst (λ (n : ℕ). HaveNoGaps n (map (renamed name) (log_lines net entries))) start split.1))

      both : (spans : List Span) → AllByRecursion (Lines net entries (derivation_of net entries)) spans
          → AllByRecursion (λ s. s.last + 1 ≡ s.first + length (spent_log entries s.output)) spans → AllByRecursion (IsSpan net entries) spans
      both [] p q = tt
      both (s ∷ ss) p q = (record { lines = p.0; count = q.0 }, both ss p.1 q.1)
