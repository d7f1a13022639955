-- What is written of a legal book can be written.
use Rattle.std.proofs.Common.{◌≡◌, ◌≢◌, ℕ, zero, suc, ◌+◌, ◌^◌, ◌<◌, ◌≤◌, Bool, true, false, Option, Some, None, List, [], ◌∷◌, ◌++◌, map, filter, length, Result, Ok, Err, refl, sym, ap, ◌∙◌, arith}
use Rattle.std.specs.Prelude.{slice_get}
use Rattle.std.specs.Option.{option_map, option_and_then}
use Rattle.std.specs.List.{AllByRecursion}
use Rattle.std.proofs.lemmas.Option.{none-some, slice_get_within}
use Rattle.std.proofs.lemmas.List.{length-append}
use Rattle.lits.specs.Clause.{has_pair}
use Rattle.lits.specs.Same.{same_lit, opposite}
use Rattle.lits.specs.declared.literal.Lit.{Lit}
use Rattle.lits.specs.declared.step.Ref.{Ref}
use Rattle.lits.specs.declared.step.Ref.TheVariants.{Axiom, Entry as Shown, Own, Bound}
use Rattle.lits.specs.declared.step.Step.{Step}
use Rattle.netlist.specs.Net.{AigPair}
use Rattle.unit_prop.specs.declared.why.Why.{Why}
use Rattle.unit_prop.specs.Step.{State, start_of, after_hint, fault_from, IsStep}
use Rattle.unit_prop.specs.Log.{with_own, InTurn, IsStepAfter}
use Rattle.lemma_book.specs.declared.entry.Entry.{Entry}
use Rattle.lemma_book.specs.declared.entry.Entry.TheVariants.{Merge, Apart, Spent, Out, OutApart, OutSpent}
use Rattle.lemma_book.specs.Entry.{Entries, merge_clauses, lemmas_of as shown_by}
use Rattle.lemma_book.specs.Book.{IsLegal}
use Rattle.lemma_book.specs.Good.{EndsIn, Shape, Count, out_clause, merge_clause}
use Rattle.lemma_book.proofs.Facts.{IsGoodAfter, merge-chain_out, out-chain}
use Rattle.keep_lemmas.specs.Kept.{renewed_hint, renewed_step}
use Rattle.book_file.specs.Loaded.{number_in, renumbered}
use Rattle.book_file.specs.Writing.{is_lemma, numbers_from, lemmas_of, FitsName, FitsStep, FitsEntry}
use Rattle.book_file.proofs.WordLemmas.{CanName}
use Rattle.book_file.proofs.TextLemmas.{CanShow, CanWrite}

-- ---- numbers

-- no number is above that of the entries
pub number-low : (n : ℕ) (es : List Entry) (i : ℕ) → number_in (numbers_from n es) i ≤ n + length es
number-low n [] i = omega arith
number-low n (e ∷ es) i = go (is_lemma e) refl i (λ k. number-low (n + 1) es k) (λ k. number-low n es k)
  where
    go : (b : Bool) → is_lemma e ≡ b → (k : ℕ) → ((m : ℕ) → number_in (numbers_from (n + 1) es) m ≤ n + 1 + length es)
        → ((m : ℕ) → number_in (numbers_from n es) m ≤ n + length es) → number_in (numbers_from n (e ∷ es)) k ≤ n + length (e ∷ es)
    go true f zero one same = rw f (omega arith)
    go true f (suc k) one same = let rest = one k in rw f (omega arith)
    go false f zero one same = rw f (omega arith)
    go false f (suc k) one same = let rest = same k in rw f (omega arith)

-- ---- hints

-- the name has a clause
pub record IsFound {N L : Type 0} (find : N → Option (List L)) (name : N) : Type 0 where
  pub clause : List L
  pub is : find name ≡ Some clause

module _ {N L : Type 0} (eq : L → L → Bool) (opposite : L → L) (find : N → Option (List L)) where
  fault_from-found : (place : ℕ) (s : State L) (hints : List N) → fault_from eq opposite find place s hints ≡ None
      → AllByRecursion (IsFound find) hints
  fault_from-found place s [] e = tt
  fault_from-found place s (n ∷ ns) e = named (λ t. fault_from-found (place + 1) t ns) (find n) refl
    where
      go : ((t : State L) → fault_from eq opposite find (place + 1) t ns ≡ None → AllByRecursion (IsFound find) ns)
          → (c : List L) (r : Result (State L) Why) → find n ≡ Some c → after_hint eq opposite s c ≡ r → AllByRecursion (IsFound find) (n ∷ ns)
      go rest c (Ok t) f g = (record { clause = c; is = f }, rest t (rw (f, g) at e))
      go rest c (Err why) f g = let h : Some _ ≡ None = rw (f, g) at e in cc

      named : ((t : State L) → fault_from eq opposite find (place + 1) t ns ≡ None → AllByRecursion (IsFound find) ns)
          → (o : Option (List L)) → find n ≡ o → AllByRecursion (IsFound find) (n ∷ ns)
      named rest None f = let h : Some _ ≡ None = rw f at e in cc
      named rest (Some c) f = go rest c (after_hint eq opposite s c) f refl

  -- each hint of a step names a clause
  pub step-found : (clause : List L) (hints : List N) → IsStep eq opposite find clause hints → AllByRecursion (IsFound find) hints
  step-found clause hints step = go (has_pair eq opposite clause) refl
    where
      go : (b : Bool) → has_pair eq opposite clause ≡ b → AllByRecursion (IsFound find) hints
      go true f = let h : Some _ ≡ None = rw f at step in cc
      go false f = fault_from-found 1 (start_of eq opposite clause) hints (rw f at step)

-- an entry shows two clauses at most
shown-two : (e : Entry) (s : ℕ) (c : List Lit) → slice_get (shown_by e) s ≡ Some c → s < 2
shown-two (Merge node lit steps) s c at = slice_get_within (merge_clauses node lit) s c at
shown-two (Apart node lit input) s c at = absurd (none-some c at)
shown-two (Spent node lit seen log) s c at = absurd (none-some c at)
shown-two (Out j steps) s c at = absurd (none-some c at)
shown-two (OutApart j input) s c at = absurd (none-some c at)
shown-two (OutSpent j seen log) s c at = absurd (none-some c at)

merge-two : (entries : List Entry) (i s : ℕ) (c : List Lit) → merge_clause entries i s ≡ Some c → s < 2
merge-two entries i s c at = go (slice_get entries i) refl
  where
    go : (o : Option Entry) → slice_get entries i ≡ o → s < 2
    go None f = absurd (none-some c (sym (ap (option_and_then (λ e. slice_get (shown_by e) s)) f) ∙ at))
    go (Some e) f = shown-two e s c (sym (ap (option_and_then (λ x. slice_get (shown_by x) s)) f) ∙ at)

module _ (net : AigPair) (entries : List Entry) (number : ℕ → ℕ) (low : (i : ℕ) → number i < 10 ^ 18) where
  hint-can : (before : List Step) → length before < 10 ^ 18 → (h : Ref) → FitsName h → IsFound (with_own (out_clause net entries) before) h
      → CanName (renewed_hint number h)
  hint-can before few (Axiom node k) fits found = fits
  hint-can before few (Shown i s) fits found = (low i, merge-two entries i s found.clause found.is)
  hint-can before few (Own k) fits found = go (slice_get before k) refl
    where
      go : (o : Option Step) → slice_get before k ≡ o → k < 10 ^ 18
      go None f = absurd (none-some found.clause (sym (ap (option_map (λ s. s.clause)) f) ∙ found.is))
      go (Some s) f = let within = slice_get_within before k s f in omega arith
  hint-can before few (Bound side k) fits found = fits

  hints-can : (before : List Step) → length before < 10 ^ 18 → (hints : List Ref) → AllByRecursion FitsName hints
      → AllByRecursion (IsFound (with_own (out_clause net entries) before)) hints → AllByRecursion CanName (map (renewed_hint number) hints)
  hints-can before few [] fit found = tt
  hints-can before few (h ∷ hs) fit found = (hint-can before few h fit.0 found.0, hints-can before few hs fit.1 found.1)

  steps-can : (before steps : List Step) → length before + length steps < 10 ^ 18 → AllByRecursion FitsStep steps
      → InTurn (IsStepAfter (out_clause net entries)) before steps → AllByRecursion CanShow (map (renewed_step number) steps)
  steps-can before [] few fit chain = tt
  steps-can before (s ∷ ss) few fit chain = (
    record {
      clause = fit.0.clause;
      lits = fit.0.lits;
      hints = hints-can before (omega arith) s.hints fit.0.hints
          (step-found same_lit opposite (with_own (out_clause net entries) before) s.clause s.hints chain.0);
    },
    steps-can (before ++ s ∷ []) ss (omega (arith, length-append before (s ∷ []))) fit.1 chain.1,
  )

-- ---- lemmas

-- steps that end in a clause are some
ends-some : (number : ℕ → ℕ) (c : List Lit) (cs : List (List Lit)) (steps : List Step) → EndsIn (c ∷ cs) steps → map (renewed_step number) steps ≢ []
ends-some number c cs [] ends none = go ends.before ends.last ends.parts ends.clauses_are
  where
    go : (before last : List Step) → [] ≡ before ++ last → map (λ s. s.clause) last ≡ c ∷ cs → ⊥
    go [] [] parts is = cc
    go [] (s ∷ ss) parts is = cc
    go (b ∷ bs) last parts is = cc
ends-some number c cs (s ∷ ss) ends none = cc

module _ (net : AigPair) (sweep out : ℕ) (small : sweep ≤ 1000000000) (small' : out ≤ 1000000000) (number : ℕ → ℕ)
    (low : (i : ℕ) → number i < 10 ^ 18) where
  entry-can : (before : List Entry) (e : Entry) → is_lemma e ≡ true → FitsEntry e → IsGoodAfter net sweep out before e → CanWrite (renumbered number e)
  entry-can before (Merge node lit steps) is fits good =
      let count = good Count in (
        fits.0,
        fits.1,
        ends-some number _ _ steps (good Shape),
        steps-can net before number low [] steps (omega arith) fits.2 (merge-chain_out net (record { sweep_budget = sweep; out_budget = out; entries = before }) node lit steps good),
      )
  entry-can before (Out j steps) is fits good =
      let count = good Count in (
        fits.0,
        ends-some number _ _ steps (good Shape),
        steps-can net before number low [] steps (omega arith) fits.1 (out-chain net (record { sweep_budget = sweep; out_budget = out; entries = before }) j steps good),
      )
  entry-can before (Apart node lit input) is fits good = cc
  entry-can before (Spent node lit seen log) is fits good = cc
  entry-can before (OutApart j input) is fits good = cc
  entry-can before (OutSpent j seen log) is fits good = cc

  all-can : (before es : List Entry) → AllByRecursion FitsEntry es → InTurn (IsGoodAfter net sweep out) before es
      → AllByRecursion CanWrite (map (renumbered number) (filter is_lemma es))
  all-can before [] fit legal = tt
  all-can before (e ∷ es) fit legal = go (is_lemma e) refl (all-can (before ++ e ∷ []) es fit.1 legal.1)
    where
      go : (b : Bool) → is_lemma e ≡ b → AllByRecursion CanWrite (map (renumbered number) (filter is_lemma es))
          → AllByRecursion CanWrite (map (renumbered number) (filter is_lemma (e ∷ es)))
      go true f rest = rw f (entry-can before e f fit.0 legal.0, rest)
      go false f rest = rw f rest

-- the lemmas of a legal book whose entries are few
pub lemmas-can : (net : AigPair) (book : Entries) → IsLegal net book → book.sweep_budget ≤ 1000000000 → book.out_budget ≤ 1000000000
    → length book.entries < 10 ^ 18 → AllByRecursion FitsEntry book.entries → AllByRecursion CanWrite (lemmas_of book.entries)
lemmas-can net book legal small small' few fit =
    all-can net book.sweep_budget book.out_budget small small' (number_in (numbers_from 0 book.entries))
    (λ i. let low = number-low 0 book.entries i in omega arith) [] book.entries fit legal
