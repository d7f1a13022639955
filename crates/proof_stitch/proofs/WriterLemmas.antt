-- What a writer of a book's Merge and Out entries has written at each entry, and which ids it has noted.
use Rattle.std.proofs.Common.{◌≡◌, ℕ, suc, ◌+◌, ◌-◌, ◌<◌, ◌≤◌, ◌^◌, drop, Option, Some, None, Bool, true, false, List, [], ◌∷◌, ◌++◌, length, map, if◌then◌else◌, refl, sym, ap, ap₂, ◌∙◌, subst, arith, add-one, append_assoc, length-append, Bor}
use Rattle.std.specs.Prelude.{slice_get, IsSome, All, filter}
use Rattle.std.specs.Option.{option_copied}
use Rattle.std.specs.List.{range_with_len, slice_index_or, AllByRecursion}
use Rattle.std.proofs.lemmas.List.{append-nil, length-map}
use Rattle.std.proofs.lemmas.Option.{none-some, slice_get_within, get_or_from_slice_get, slice_get-get_or}
use Rattle.std.proofs.Math.ListN.{drop_of_length-le}
use Rattle.std.proofs.Math.Seq.{drop-cons}
use Rattle.std.proofs.lemmas.List.Elements.{All-from_recursion}
use Rattle.lits.specs.declared.literal.Lit.{Lit}
use Rattle.lits.specs.declared.step.Ref.{Ref}
use Rattle.lits.specs.declared.step.Ref.TheVariants.{Axiom, Entry as Shown, Own, Bound}
use Rattle.lits.specs.declared.step.Step.{Step}
use Rattle.lits.specs.Same.{same_lit, opposite}
use Rattle.netlist.specs.Net.{AigPair, bound_of}
use Rattle.netlist.specs.Miter.{bound_number_of, variable_of, cnf_number_of, miter_of}
use Rattle.unit_prop.specs.Log.{with_own, InTurn, IsStepAfter}
use Rattle.lemma_book.specs.declared.entry.Entry.{Entry}
use Rattle.lemma_book.specs.Good.{AreOver, merge_clause, out_clause}
use Rattle.proof_stitch.specs.Ids.{HasId, HasIds}
use Rattle.proof_stitch.specs.Written.{written_steps, shown_clauses, shown_from, shown_ids}
use Rattle.proof_stitch.proofs.AxiomLemmas.{axiom-numbered, unit-numbered}
use Rattle.proof_stitch.proofs.GrowLemmas.{IsFound, step-found, live-range}
use Rattle.proof_stitch.proofs.StepLemmas.{clauses_in, IsDerived}
use Rattle.proof_stitch.proofs.ShownLemmas.{IsShown, merges-live}
use Rattle.proof_stitch.proofs.BookLemmas.{IsSoundBook, total}
use Rattle.proof_stitch.proofs.RefutationLemmas.{length-clauses_in, total-few}

some_number : (net : AigPair) (l : Lit) → IsSome (variable_of net l.node) → IsSome (cnf_number_of net l)
some_number net l some = go (variable_of net l.node) refl some
  where
    go : (o : Option ℕ) → variable_of net l.node ≡ o → IsSome o → IsSome (cnf_number_of net l)
    go None e h = cc
    go (Some k) e h = rw e refl

some_numbers : (net : AigPair) (c : List Lit) → AllByRecursion (λ l. IsSome (variable_of net l.node)) c → AllByRecursion (λ l. IsSome (cnf_number_of net l)) c
some_numbers net [] all = tt
some_numbers net (l ∷ ls) all = (some_number net l all.0, some_numbers net ls all.1)

-- each merge's clauses have ids that fit
abbrev pub ShownFit : List ℕ → List Entry → Type 0
ShownFit shown known = (i k : ℕ) (c : List Lit) → merge_clause known i k ≡ Some c → slice_index_or shown i 0 + k < 2 ^ 64

pub shown-fit : (net : AigPair) (out : ℕ) (entries : List Entry) → IsSoundBook net out entries → length (miter_of net) < 2 ^ 32
    → ShownFit (shown_ids net entries) entries
shown-fit net out entries book few i k c e =
    let formula = miter_of net ++ clauses_in net (map written_steps entries) in
    let lives = merges-live net entries entries [] (sym (append-nil entries)) book.shown formula refl in
    let range = live-range (formula ++ []) (slice_index_or (shown_ids net entries) i 0 + k) _ (lives.live i k c e []).1 in
    omega (
      arith,
      range.1,
      length-append formula [],
      length-append (miter_of net) (clauses_in net (map written_steps entries)),
      length-clauses_in net (map written_steps entries),
      total-few net out entries book,
    )

-- the hints of a step behind some others have ids
module _ (net : AigPair) (shown : List ℕ) (known : List Entry) (fit : ShownFit shown known) where
  found-ids : (before : List Step) (first : ℕ) → first + length before < 2 ^ 64 → (hints : List Ref)
      → AllByRecursion (IsFound (with_own (out_clause net known) before)) hints → AllByRecursion (HasId net shown first) hints
  found-ids before first room [] found = tt
  found-ids before first room (h ∷ hs) found = (here h found.0, found-ids before first room hs found.1)
    where
      here : (name : Ref) → IsFound (with_own (out_clause net known) before) name → HasId net shown first name
      here (Axiom node k) f = let n = axiom-numbered net node k f.clause f.is in rw n.is refl
      here (Shown entry k) f = fit entry k f.clause f.is
      here (Own k) f = go (slice_get before k) refl
        where
          go : (o : Option Step) → slice_get before k ≡ o → first + k < 2 ^ 64
          go None e = let g : None ≡ Some f.clause = rw e at f.is in absurd (none-some f.clause g)
          go (Some s) e = let l = slice_get_within before k s e in omega arith
      here (Bound side k) f = go (bound_of net side k) refl
        where
          go : (o : Option Lit) → bound_of net side k ≡ o → IsSome (bound_number_of net side k)
          go None e = let g : None ≡ Some f.clause = rw e at f.is in absurd (none-some f.clause g)
          go (Some l) e = let n = unit-numbered net side k l e in rw n.is refl

  ids-from : (before left : List Step) (first : ℕ) → first + (length before + length left) < 2 ^ 64 → AreOver net left
      → InTurn (IsStepAfter (out_clause net known)) before left → AllByRecursion (HasIds net shown first) left
  ids-from before [] first room over chain = tt
  ids-from before (s ∷ ss) first room over chain = (
    record {
      literals = All-from_recursion (λ l. IsSome (cnf_number_of net l)) s.clause (some_numbers net s.clause over.0);
      hints =
          All-from_recursion (HasId net shown first) s.hints
          (found-ids before first (omega arith) s.hints
          (step-found same_lit opposite (with_own (out_clause net known) before) s.clause s.hints chain.0));
    },
    ids-from (before ++ s ∷ []) ss first (omega (arith, length-append before (s ∷ []))) over.1 chain.1,
  )

  -- the steps of a list can be written
  pub derived-ids : (steps : List Step) (first : ℕ) → IsDerived net known steps → first + length steps < 2 ^ 64
      → All (HasIds net shown first) steps
  derived-ids steps first derived room =
      All-from_recursion (HasIds net shown first) steps (ids-from [] steps first (omega arith) derived.over derived.chain)

-- an entry that is lent by its place
pub entry-there : (o : Option (Bor Entry)) (entries : List Entry) (i : ℕ) → option_copied o ≡ slice_get entries i → i < length entries → IsSome o
entry-there (Some e) entries i at lt = refl
entry-there None [] i at lt = absurd (omega arith)
entry-there None (e ∷ es) i at lt = absurd (none-some _ (at ∙ slice_get-get_or (e ∷ es) i e lt))

pub entry-at : (o : Option (Bor Entry)) (r : Bor Entry) (entries : List Entry) (i : ℕ) → option_copied o ≡ slice_get entries i → o ≡ Some r
    → slice_get entries i ≡ Some r.now
entry-at o r entries i at is = sym at ∙ ap option_copied is

-- the entry that comes next
pub next-drop : (i : ℕ) (e : Entry) (entries : List Entry) → slice_get entries i ≡ Some e → drop i entries ≡ e ∷ drop (i + 1) entries
next-drop i e entries at =
    drop-cons entries i e (slice_get_within entries i e at)
    ∙ ap₂ (λ (x : Entry) (n : ℕ). x ∷ drop n entries) (get_or_from_slice_get entries i e e at) (sym (add-one i))

-- where a writer of the table stands: the next id, and what is left of the entries
pub record IsAtShown (net : AigPair) (first : ℕ) (known left : List Entry) (shown : List ℕ) (next : ℕ) : Type 0 where
  pub shown_is : shown ++ shown_from next left ≡ shown_from first known
  pub next_is : next + total (map written_steps left) ≡ first + total (map written_steps known)
  pub ends : AllByRecursion (IsShown net) left
  pub few : first + total (map written_steps known) + 1 < 2 ^ 60

pub shown-start : (net : AigPair) (out : ℕ) (entries : List Entry) → IsSoundBook net out entries → length (miter_of net) < 2 ^ 32
    → IsAtShown net (length (miter_of net) + 1) entries entries [] (length (miter_of net) + 1)
shown-start net out entries book room = record {
  shown_is = refl;
  next_is = refl;
  ends = book.shown;
  few = omega (arith, total-few net out entries book);
}

pub shown-drop : {net : AigPair} {first : ℕ} {known : List Entry} {shown : List ℕ} {next : ℕ} (i : ℕ) (e : Entry) → slice_get known i ≡ Some e
    → IsAtShown net first known (drop i known) shown next → IsAtShown net first known (e ∷ drop (i + 1) known) shown next
shown-drop {net} {first} {known} {shown} {next} i e is at =
    subst (λ (l : List Entry). IsAtShown net first known l shown next) (next-drop i e known is) at

module _ {net : AigPair} {first : ℕ} {known : List Entry} {e : Entry} {es : List Entry} {shown : List ℕ} {next : ℕ}
    (at : IsAtShown net first known (e ∷ es) shown next) where
  -- an entry shows no more clauses than it has steps
  pub shown-within : length (shown_clauses e) ≤ length (written_steps e)
  shown-within =
      let here : IsShown net e = at.ends.0 in
      omega (
        arith,
        ap length here.ends.parts,
        length-append here.ends.before here.ends.last,
        length-map here.ends.last (λ (s : Step). s.clause),
        ap length here.ends.clauses_are,
      )

  pub shown-next : (shown' : List ℕ) (next' : ℕ) → next' ≡ next + length (written_steps e)
      → shown' ≡ shown ++ (next' - length (shown_clauses e)) ∷ [] → IsAtShown net first known es shown' next'
  shown-next shown' next' f g = record {
    shown_is =
        rw (g, f) (append_assoc shown ((next + length (written_steps e) - length (shown_clauses e)) ∷ []) (shown_from (next + length (written_steps e)) es)
        ∙ at.shown_is);
    next_is = omega (arith, at.next_is);
    ends = at.ends.1;
    few = at.few;
  }

pub shown-done : {net : AigPair} {first : ℕ} {known : List Entry} {shown : List ℕ} {next : ℕ} (i : ℕ) → length known ≤ i
    → IsAtShown net first known (drop i known) shown next → shown ≡ shown_from first known
shown-done {net} {first} {known} {shown} {next} i past given =
    let at : IsAtShown net first known [] shown next =
    subst (λ (l : List Entry). IsAtShown net first known l shown next) (drop_of_length-le known past) given in
    sym (append-nil shown) ∙ at.shown_is

-- where a writer of units stands that has the outputs from j to n left
pub units-next : (f : ℕ → ℕ) (whole units : List ℕ) (j n : ℕ) → j < n → units ++ map f (range_with_len j (n - j)) ≡ whole
    → (units ++ f j ∷ []) ++ map f (range_with_len (j + 1) (n - (j + 1))) ≡ whole
units-next f whole units j n lt at =
    let count : n - j ≡ suc (n - (j + 1)) = omega arith in
    append_assoc units (f j ∷ []) (map f (range_with_len (j + 1) (n - (j + 1))))
    ∙ subst (λ (k : ℕ). units ++ map f (range_with_len j k) ≡ whole) count at

pub units-done : (f : ℕ → ℕ) (whole units : List ℕ) (j n : ℕ) → n ≤ j → units ++ map f (range_with_len j (n - j)) ≡ whole → units ≡ whole
units-done f whole units j n past at =
    let none : n - j ≡ 0 = omega arith in
    sym (append-nil units) ∙ subst (λ (k : ℕ). units ++ map f (range_with_len j k) ≡ whole) none at

-- the same of a writer of those that pass a test
pub some-next : (test : ℕ → Bool) (f : ℕ → ℕ) (whole units units' : List ℕ) (j n : ℕ) → j < n
    → units' ≡ units ++ (if test j then f j ∷ [] else []) → units ++ map f (filter test (range_with_len j (n - j))) ≡ whole
    → units' ++ map f (filter test (range_with_len (j + 1) (n - (j + 1)))) ≡ whole
some-next test f whole units units' j n lt new at = rw new (go (test j) refl)
  where
    all : units ++ map f (filter test (j ∷ range_with_len (j + 1) (n - (j + 1)))) ≡ whole
    all = let count : n - j ≡ suc (n - (j + 1)) = omega arith in subst (λ (k : ℕ). units ++ map f (filter test (range_with_len j k)) ≡ whole) count at

    go : (b : Bool) → test j ≡ b
        → (units ++ (if test j then f j ∷ [] else [])) ++ map f (filter test (range_with_len (j + 1) (n - (j + 1)))) ≡ whole
    go true e =
        let here : filter test (j ∷ range_with_len (j + 1) (n - (j + 1))) ≡ j ∷ filter test (range_with_len (j + 1) (n - (j + 1))) = rw e refl in
        rw e (append_assoc units (f j ∷ []) (map f (filter test (range_with_len (j + 1) (n - (j + 1)))))
        ∙ ap (λ (l : List ℕ). units ++ map f l) (sym here) ∙ all)
    go false e =
        let here : filter test (j ∷ range_with_len (j + 1) (n - (j + 1))) ≡ filter test (range_with_len (j + 1) (n - (j + 1))) = rw e refl in
        rw (e, append-nil units) (ap (λ (l : List ℕ). units ++ map f l) (sym here) ∙ all)

pub some-done : (test : ℕ → Bool) (f : ℕ → ℕ) (whole units : List ℕ) (j n : ℕ) → n ≤ j
    → units ++ map f (filter test (range_with_len j (n - j))) ≡ whole → units ≡ whole
some-done test f whole units j n past at =
    let none : n - j ≡ 0 = omega arith in
    sym (append-nil units) ∙ subst (λ (k : ℕ). units ++ map f (filter test (range_with_len j k)) ≡ whole) none at
