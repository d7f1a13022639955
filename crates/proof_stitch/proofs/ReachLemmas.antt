-- What is marked while a book's steps are gone through from the last to the first.
use Rattle.std.proofs.Common.{◌≡◌, ℕ, zero, suc, ◌+◌, ◌-◌, ◌<◌, ◌≤◌, ◌^◌, Bool, true, false, ◌||◌, eqb, drop, List, [], ◌∷◌, ◌++◌, length, map, if◌then◌else◌, refl, sym, ap, ◌∙◌, subst, arith, append_assoc}
use Rattle.std.specs.Prelude.{slice_get, All, replicate, nat_le}
use Rattle.std.specs.List.{slice_index_or}
use Rattle.std.proofs.lemmas.List.{get_or-replicate, get_or_past, length-replicate}
use Rattle.std.proofs.lemmas.Bool.{ne_eqb, eq-eqb, eqb-true, cases_lt}
use Rattle.std.proofs.Common.{inl, inr}
use Rattle.std.proofs.lemmas.Option.{get_or_from_slice_get, slice_get_within}
use Rattle.lits.specs.declared.step.Ref.{Ref}
use Rattle.lits.specs.declared.step.Step.{Step}
use Rattle.lits.proofs.Facts.{all-slice_get}
use Rattle.netlist.specs.Net.{AigPair}
use Rattle.netlist.specs.Miter.{miter_of}
use Rattle.lemma_book.specs.declared.entry.Entry.{Entry}
use Rattle.lrat_text.specs.declared.step.LratStep.{LratStep}
use Rattle.proof_stitch.specs.Ids.{HasIds}
use Rattle.proof_stitch.specs.Steps.{addition, additions_from, additions}
use Rattle.proof_stitch.specs.declared.by_step.ByStep.{ByStep}
use Rattle.proof_stitch.specs.Table.{AreMarked, HasMarks, IsPut, IsStepId, KeepsShape, always, last_use, marked, number_at}
use Rattle.proof_stitch.specs.Stitch.{unit_ids, empty_addition, empty_line, is_for_empty}
use Rattle.proof_stitch.proofs.RowLemmas.{reached-all}
use Rattle.proof_stitch.specs.Trimmed.{has_id, id_in, is_cited, reached}
use Rattle.proof_stitch.specs.Written.{written_steps, shown_ids, book_additions}
use Rattle.std.proofs.Common.{Some, get_or, ◌&&◌}
use Rattle.std.proofs.Math.ListN.{drop_of_length-le}
use Rattle.std.proofs.Math.Seq.{drop-cons}
use Rattle.proof_stitch.proofs.StepLemmas.{IsDerived}
use Rattle.proof_stitch.proofs.BookLemmas.{IsSoundBook, total}
use Rattle.proof_stitch.proofs.MarkLemmas.{same-ids, last_use-none}
use Rattle.proof_stitch.proofs.WriterLemmas.{ShownFit, shown-fit, derived-ids, next-drop}

-- the same steps
pub shape-refl : (t : ByStep) → KeepsShape t t
shape-refl t = record { clauses = refl; steps = refl }

pub shape-trans : (a b c : ByStep) → KeepsShape a b → KeepsShape b c → KeepsShape a c
shape-trans a b c p q = record { clauses = q.clauses ∙ p.clauses; steps = q.steps ∙ p.steps }

-- what holds of each hint holds of the one at a place
pub hint-has : (P : Ref → Type 0) (hints : List Ref) (i : ℕ) (hint : Ref) → slice_get hints i ≡ Some hint → All P hints → P hint
hint-has P hints i hint at all =
    subst P (get_or_from_slice_get hints i hint hint at) (all i hint (slice_get_within hints i hint at))

-- two lots of marks, one after the other
marked-twice : (mark by : ℕ) (p q : Bool) → 1 ≤ by → marked (marked mark p by) q by ≡ marked mark (p || q) by
marked-twice mark by p q some = go (eqb mark 0) p refl
  where
    stays : (x : ℕ) (b : Bool) → eqb x 0 ≡ false → marked x b by ≡ x
    stays x b e = rw e refl

    set : (x : ℕ) (b : Bool) → 1 ≤ x → marked x b by ≡ x
    set x b least = stays x b (ne_eqb x 0 (λ (e : x ≡ 0). omega (arith, e, least)))

    first : (b : Bool) → eqb mark 0 ≡ true → marked mark b by ≡ (if b then by else mark)
    first b e = rw e refl

    go : (b c : Bool) → eqb mark 0 ≡ b → marked (marked mark c by) q by ≡ marked mark (c || q) by
    go false c e = ap (λ (u : ℕ). marked u q by) (stays mark c e) ∙ stays mark q e ∙ sym (stays mark (c || q) e)
    go true true e = ap (λ (u : ℕ). marked u q by) (first true e) ∙ set by q some ∙ sym (first true e)
    go true false e = ap (λ (u : ℕ). marked u q by) (first false e)

pub marks-next : (a b c : ByStep) (xs ys : List ℕ) (by : ℕ) → 1 ≤ by → KeepsShape a b → AreMarked xs by a b → AreMarked ys by b c → AreMarked (xs ++ ys) by a c
marks-next a b c xs ys by some shape p q n is =
    q n (omega (arith, is.0, shape.clauses), omega (arith, is.1, shape.clauses, shape.steps))
    ∙ ap (λ (u : ℕ). marked u (has_id ys n) by) (p n is)
    ∙ marked-twice (number_at a n) by (has_id xs n) (has_id ys n) some
    ∙ ap (λ (b : Bool). marked (number_at a n) b by) (sym (any-append xs))
  where
    any-append : (zs : List ℕ) → has_id (zs ++ ys) n ≡ (has_id zs n || has_id ys n)
    any-append [] = refl
    any-append (z ∷ zs) = go (eqb z n) refl (any-append zs)
      where
        go : (b : Bool) → eqb z n ≡ b → has_id (zs ++ ys) n ≡ (has_id zs n || has_id ys n) → has_id (z ∷ (zs ++ ys)) n ≡ (has_id (z ∷ zs) n || has_id ys n)
        go true e rest = rw e refl
        go false e rest = rw e rest

-- no number is set at first
pub number-zero : (t : ByStep) (steps : ℕ) → t.numbers.items ≡ replicate steps 0 → (n : ℕ) → number_at t n ≡ 0
number-zero t steps is n = go (nat_le n t.clauses) refl
  where
    zeros : List ℕ
    zeros = replicate steps 0

    none : slice_index_or zeros (n - t.clauses - 1) 0 ≡ 0
    none = elim (cases_lt (n - t.clauses - 1) steps) [
      | inl lt ↦ get_or-replicate {A = ℕ} steps (n - t.clauses - 1) 0 0 lt
      | inr le ↦ get_or_past zeros (n - t.clauses - 1) 0 (omega (arith, le, length-replicate {A = ℕ} steps 0))
    ]

    go : (b : Bool) → nat_le n t.clauses ≡ b → number_at t n ≡ 0
    go true e = rw e refl
    go false e = rw (e, is) none

-- an entry's steps can be written
pub entry-ids : (net : AigPair) (out : ℕ) (entries : List Entry) → IsSoundBook net out entries → length (miter_of net) < 2 ^ 32
    → (shown : List ℕ) → shown ≡ shown_ids net entries → (i : ℕ) (e : Entry) → slice_get entries i ≡ Some e
    → (first : ℕ) → first + length (written_steps e) < 2 ^ 64 → All (HasIds net shown first) (written_steps e)
entry-ids net out entries book few shown is i e at first room =
    derived-ids net shown entries (subst (λ (l : List ℕ). ShownFit l entries) (sym is) (shown-fit net out entries book few))
    (written_steps e) first (all-slice_get (λ x. IsDerived net entries (written_steps x)) entries i e book.derived at) room

-- no step is marked by no id
pub marks-nothing : (t : ByStep) (by : ℕ) → AreMarked [] by t t
marks-nothing t by n is = sym (go (eqb (number_at t n) 0))
  where
    go : (b : Bool) → (if b && false then by else number_at t n) ≡ number_at t n
    go true = refl
    go false = refl

-- a step without a mark gets one
pub mark-put : (old new : ByStep) (id by : ℕ) → number_at old id ≡ 0 → IsPut id by old new → AreMarked (id ∷ []) by old new
mark-put old new id by none put n is = put n is ∙ go (eqb n id) refl
  where
    go : (b : Bool) → eqb n id ≡ b → (if b then by else number_at old n) ≡ marked (number_at old n) (has_id (id ∷ []) n) by
    go true e =
        let same : n ≡ id = eqb-true n id e in
        let zero : number_at old n ≡ 0 = ap (number_at old) same ∙ none in
        rw (zero, eq-eqb id n (sym same)) refl
    go false e =
        let other : eqb id n ≡ false = ne_eqb id n (λ (f : id ≡ n). let g : true ≡ false = sym (eq-eqb n id (sym f)) ∙ e in cc) in
        rw other (sym (nothing (eqb (number_at old n) 0)))
      where
        nothing : (b : Bool) → (if b && false then by else number_at old n) ≡ number_at old n
        nothing true = refl
        nothing false = refl

-- and one that has one keeps it
pub mark-stays : (t : ByStep) (id by : ℕ) → (number_at t id ≡ 0 → ⊥) → AreMarked (id ∷ []) by t t
mark-stays t id by some n is = sym (go (eqb (number_at t n) 0) (eqb id n) refl refl)
  where
    go : (b c : Bool) → eqb (number_at t n) 0 ≡ b → eqb id n ≡ c → (if b && (c || false) then by else number_at t n) ≡ number_at t n
    go false c e f = refl
    go true false e f = refl
    go true true e f = absurd (some (ap (number_at t) (eqb-true id n f) ∙ eqb-true (number_at t n) 0 e))

-- ---- a list of steps from the back

-- the step before those that are done
pub step-at : (net : AigPair) (shown : List ℕ) (first : ℕ) (steps : List Step) (k : ℕ) (s : Step) → k < length steps → s ≡ get_or steps k s
    → additions_from net shown first (first + k) (drop k steps)
    ≡ addition net shown first (first + k) s ∷ additions_from net shown first (first + (k + 1)) (drop (k + 1) steps)
step-at net shown first steps k s lt at =
    let next : k + 1 ≡ suc k = omega arith in
    let id : first + k + 1 ≡ first + suc k = omega arith in
    rw next
    (ap (additions_from net shown first (first + k)) (drop-cons steps k s lt ∙ ap (λ (x : Step). x ∷ drop (suc k) steps) (sym at))
    ∙ ap (λ (n : ℕ). addition net shown first (first + k) s ∷ additions_from net shown first n (drop (suc k) steps)) id)

-- none is done at first
pub steps-none : (net : AigPair) (shown : List ℕ) (first id : ℕ) (steps : List Step) (k : ℕ) → length steps ≤ k
    → additions_from net shown first id (drop k steps) ≡ []
steps-none net shown first id steps k le = let e : drop k steps ≡ [] = drop_of_length-le steps le in rw e refl

-- ---- the entries from the back

-- how many the entries from that one on have
pub total-drop : (entries : List Entry) (k : ℕ) (e : Entry) → slice_get entries k ≡ Some e
    → total (map written_steps (drop k entries)) ≡ length (written_steps e) + total (map written_steps (drop (k + 1) entries))
total-drop entries k e at = ap (λ (l : List Entry). total (map written_steps l)) (next-drop k e entries at)

-- the lines of the entries from that one on
pub lines-drop : (net : AigPair) (shown : List ℕ) (id : ℕ) (entries : List Entry) (k : ℕ) (e : Entry) (behind : List LratStep)
    → slice_get entries k ≡ Some e
    → additions net shown id (map written_steps (drop k entries)) ++ behind
    ≡ additions_from net shown id id (written_steps e)
    ++ (additions net shown (id + length (written_steps e)) (map written_steps (drop (k + 1) entries)) ++ behind)
lines-drop net shown id entries k e behind at =
    ap (λ (l : List Entry). additions net shown id (map written_steps l) ++ behind) (next-drop k e entries at)
    ∙ append_assoc (additions_from net shown id id (written_steps e))
    (additions net shown (id + length (written_steps e)) (map written_steps (drop (k + 1) entries))) behind

-- none are past the last one
pub total-past : (entries : List Entry) (k : ℕ) → length entries ≤ k → total (map written_steps (drop k entries)) ≡ 0
total-past entries k le = let e : drop k entries ≡ [] = drop_of_length-le entries le in rw e refl

pub lines-past : (net : AigPair) (shown : List ℕ) (id : ℕ) (entries : List Entry) (k : ℕ) (behind : List LratStep) → length entries ≤ k
    → additions net shown id (map written_steps (drop k entries)) ++ behind ≡ behind
lines-past net shown id entries k behind le = let e : drop k entries ≡ [] = drop_of_length-le entries le in rw e refl

-- what is asked for where the empty clause's hints are marked
pub asked-marks : (net : AigPair) (entries : List Entry) (t blank : ByStep) (hints : List ℕ)
    → hints ≡ unit_ids net entries ++ length (miter_of net) ∷ []
    → ((n : ℕ) → number_at blank n ≡ 0) → KeepsShape blank t → blank.clauses ≡ length (miter_of net)
    → length blank.numbers.items ≡ length (book_additions net entries) → AreMarked hints always blank t
    → HasMarks (is_for_empty net entries) (reached (is_for_empty net entries) (empty_line net entries)) t
asked-marks net entries t blank hints is none shape clauses steps marks = record {
  marks = λ n within. each n (same-ids blank t shape n within);
  ids = reached-all (λ l. 1 ≤ id_in l) (is_for_empty net entries) (empty_line net entries) (omega arith, tt);
}
  where
    empty_id : ℕ
    empty_id = length (miter_of net) + length (book_additions net entries) + 1

    kept : List LratStep
    kept = reached (is_for_empty net entries) (empty_line net entries)

    each : (n : ℕ) → IsStepId blank n → number_at t n ≡ (if is_for_empty net entries n then always else last_use kept n)
    each n within = marks n within ∙ go (has_id hints n) refl
      where
        other : eqb empty_id n ≡ false
        other = ne_eqb empty_id n (λ (e : empty_id ≡ n). omega (arith, e, within.1, clauses, steps))

        here : has_id hints n ≡ has_id (unit_ids net entries ++ length (miter_of net) ∷ []) n
        here = ap (λ (l : List ℕ). has_id l n) is

        go : (b : Bool) → has_id hints n ≡ b → marked (number_at blank n) (has_id hints n) always ≡ (if is_for_empty net entries n then always else last_use kept n)
        go true e = let f = sym here ∙ e in rw (none n, e, other, f) refl
        go false e =
            let f = sym here ∙ e in
            let uncited : is_cited kept n ≡ false = not-cited (is_for_empty net entries empty_id || false) in
            rw (none n, e, other, f) (sym (last_use-none kept n uncited))
          where
            not-cited : (b : Bool) → is_cited (if b then empty_addition net entries empty_id ∷ [] else []) n ≡ false
            not-cited true = rw (sym here ∙ e) refl
            not-cited false = refl

-- those of the last entries are among all of them
pub total-rest : (entries : List Entry) (k : ℕ) → total (map written_steps (drop k entries)) ≤ total (map written_steps entries)
total-rest entries zero = omega arith
total-rest [] (suc k) = omega arith
total-rest (e ∷ es) (suc k) = omega (arith, total-rest es k)
