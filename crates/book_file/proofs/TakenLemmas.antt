-- What is written of a legal book is all taken over its net.
use Rattle.std.proofs.Common.{◌≡◌, ℕ, zero, suc, ◌+◌, ◌<◌, Bool, true, false, not, ltb, Option, Some, None, List, [], ◌∷◌, ◌++◌, map, filter, length, refl, sym, ap, ◌∙◌, subst, inl, inr, append_assoc, append-nil, lt-ltb, arith}
use Rattle.std.specs.Prelude.{slice_get, is_some, if◌then◌else◌}
use Rattle.std.specs.Option.{option_map, option_map_or, option_and_then}
use Rattle.std.specs.List.{list_any, list_all, AllByRecursion}
use Rattle.std.proofs.lemmas.Bool.{and_parts, or_parts, cases_lt, ltb-true}
use Rattle.std.proofs.lemmas.List.{length-append, length-map, map-append}
use Rattle.std.proofs.lemmas.Option.{none-some, same_Some, slice_get-map, slice_get_within}
use Rattle.lits.specs.Same.{same_lit, opposite}
use Rattle.lits.specs.declared.node.Node.{Node}
use Rattle.lits.specs.declared.literal.Lit.{Lit}
use Rattle.lits.specs.declared.step.Ref.{Ref}
use Rattle.lits.specs.declared.step.Ref.TheVariants.{Axiom, Entry as Shown, Own, Bound}
use Rattle.lits.specs.declared.step.Step.{Step}
use Rattle.netlist.specs.Net.{AigPair, IsNet, bound_of}
use Rattle.netlist.specs.Miter.{axiom_of, unit}
use Rattle.netlist.proofs.Facts.{slice_get-left, slice_get-right}
use Rattle.unit_prop.specs.Log.{with_own, InTurn, IsStepAfter}
use Rattle.lemma_book.specs.declared.entry.Entry.{Entry}
use Rattle.lemma_book.specs.declared.entry.Entry.TheVariants.{Merge, Apart, Spent, Out, OutApart, OutSpent}
use Rattle.lemma_book.specs.declared.entry.Subject.{Subject}
use Rattle.lemma_book.specs.Entry.{Entries, answer_of, is_on, lemmas_of as shown_by}
use Rattle.lemma_book.specs.Book.{IsLegal}
use Rattle.lemma_book.specs.Good.{IsGood, out_clause, merge_clause}
use Rattle.lemma_book.proofs.Facts.{IsGoodAfter, merge-chain_out, out-chain}
use Rattle.netlist_edits.specs.Edited.{touched_by}
use Rattle.keep_lemmas.specs.Kept.{is_clear, hint_stays, step_stays, entry_stays, renewed_hint, renewed_step, renewed}
use Rattle.keep_lemmas.proofs.Facts.{edits-stay, good-stays}
use Rattle.book_file.specs.Loaded.{hint_among, steps_among, steps_in, cites_among, renumbered, is_taken, number_in, MayBeTaken, Loads, IsLoaded}
use Rattle.book_file.specs.Writing.{is_lemma, numbers_from, lemmas_of}
use Rattle.book_file.proofs.WrittenLemmas.{IsFound, step-found}

-- the entry at a place is a lemma
abbrev pub is_lemma_at : List Entry → ℕ → Bool
is_lemma_at entries i = option_map_or is_lemma (slice_get entries i) false

-- ---- what no edit touches stays

abbrev pub none : Node → Bool
none = touched_by []

clear : (clause : List Lit) → is_clear none clause ≡ true
clear clause = ap not (any clause)
  where
    any : (c : List Lit) → list_any (λ l. none l.node) c ≡ false
    any [] = refl
    any (l ∷ ls) = any ls

clear-maybe : (o : Option (List Lit)) → option_map_or (is_clear none) o true ≡ true
clear-maybe None = refl
clear-maybe (Some c) = clear c

shown-lemma : (e : Entry) (k : ℕ) (c : List Lit) → slice_get (shown_by e) k ≡ Some c → is_lemma e ≡ true
shown-lemma (Merge node lit steps) k c at = refl
shown-lemma (Apart node lit input) k c at = absurd (none-some c at)
shown-lemma (Spent node lit seen log) k c at = absurd (none-some c at)
shown-lemma (Out j steps) k c at = absurd (none-some c at)
shown-lemma (OutApart j input) k c at = absurd (none-some c at)
shown-lemma (OutSpent j seen log) k c at = absurd (none-some c at)

merge-lemma : (entries : List Entry) (i k : ℕ) (c : List Lit) → merge_clause entries i k ≡ Some c → is_lemma_at entries i ≡ true
merge-lemma entries i k c at = go (slice_get entries i) at
  where
    go : (o : Option Entry) → option_and_then (λ e. slice_get (shown_by e) k) o ≡ Some c → option_map_or is_lemma o false ≡ true
    go None f = absurd (none-some c f)
    go (Some e) f = shown-lemma e k c f

module _ (net : AigPair) (before : List Entry) where
  hint-stays : (own : List Step) (h : Ref) → IsFound (with_own (out_clause net before) own) h → hint_stays net none (is_lemma_at before) h ≡ true
  hint-stays own (Axiom node k) found = clear-maybe (axiom_of net node k)
  hint-stays own (Shown i k) found = merge-lemma before i k found.clause found.is
  hint-stays own (Own k) found = refl
  hint-stays own (Bound side k) found = clear-maybe (option_map unit (bound_of net side k))

  hints-stay : (own : List Step) (hints : List Ref) → AllByRecursion (IsFound (with_own (out_clause net before) own)) hints
      → list_all (hint_stays net none (is_lemma_at before)) hints ≡ true
  hints-stay own [] found = refl
  hints-stay own (h ∷ hs) found = rw (hint-stays own h found.0, hints-stay own hs found.1) refl

  steps-stay : (own steps : List Step) → InTurn (IsStepAfter (out_clause net before)) own steps
      → list_all (step_stays net none (is_lemma_at before)) steps ≡ true
  steps-stay own [] chain = refl
  steps-stay own (s ∷ ss) chain =
      let hints = hints-stay own s.hints (step-found same_lit opposite (with_own (out_clause net before) own) s.clause s.hints chain.0) in
      rw (clear s.clause, hints, steps-stay (own ++ s ∷ []) ss chain.1) refl

  entry-stays : (sweep out : ℕ) (e : Entry) → is_lemma e ≡ true → IsGoodAfter net sweep out before e → entry_stays net none (is_lemma_at before) e ≡ true
  entry-stays sweep out (Merge node lit steps) is good = steps-stay [] steps (merge-chain_out net (record { sweep_budget = sweep; out_budget = out; entries = before }) node lit steps good)
  entry-stays sweep out (Out j steps) is good = steps-stay [] steps (out-chain net (record { sweep_budget = sweep; out_budget = out; entries = before }) j steps good)
  entry-stays sweep out (Apart node lit input) is good = cc
  entry-stays sweep out (Spent node lit seen log) is good = cc
  entry-stays sweep out (OutApart j input) is good = cc
  entry-stays sweep out (OutSpent j seen log) is good = cc

-- ---- numbers of lemmas

-- the lemma at place i is the j-th one, and has its number from n on
record IsRank (n : ℕ) (es : List Entry) (i : ℕ) (x : Entry) : Type 0 where
  pub j : ℕ
  pub number : number_in (numbers_from n es) i ≡ n + j
  pub there : slice_get (filter is_lemma es) j ≡ Some x

rank : (n : ℕ) (es : List Entry) (i : ℕ) (x : Entry) → slice_get es i ≡ Some x → is_lemma x ≡ true → IsRank n es i x
rank n [] i x at is = absurd (none-some x at)
rank n (e ∷ es) zero x at is =
    let same : e ≡ x = same_Some e x at in
    let lemma : is_lemma e ≡ true = ap is_lemma same ∙ is in
    record { j = 0; number = rw lemma (omega arith); there = rw lemma (ap Some same) }
rank n (e ∷ es) (suc i) x at is = go (is_lemma e) refl (rank (n + 1) es i x at is) (rank n es i x at is)
  where
    go : (b : Bool) → is_lemma e ≡ b → IsRank (n + 1) es i x → IsRank n es i x → IsRank n (e ∷ es) (suc i) x
    go true f r same = record { j = suc r.j; number = rw f (r.number ∙ omega arith); there = rw f r.there }
    go false f one r = record { j = r.j; number = rw f r.number; there = rw f r.there }

-- entries behind change no number before them
prefix : (n : ℕ) (xs ys : List Entry) (i : ℕ) → i < length xs → number_in (numbers_from n (xs ++ ys)) i ≡ number_in (numbers_from n xs) i
prefix n [] ys i less = absurd (omega arith)
prefix n (x ∷ xs) ys zero less = go (is_lemma x) refl
  where
    go : (b : Bool) → is_lemma x ≡ b → number_in (numbers_from n (x ∷ (xs ++ ys))) 0 ≡ number_in (numbers_from n (x ∷ xs)) 0
    go true f = rw f refl
    go false f = rw f refl
prefix n (x ∷ xs) ys (suc i) less =
    let shorter : i < length xs = omega arith in
    go (is_lemma x) refl (prefix (n + 1) xs ys i shorter) (prefix n xs ys i shorter)
  where
    go : (b : Bool) → is_lemma x ≡ b → number_in (numbers_from (n + 1) (xs ++ ys)) i ≡ number_in (numbers_from (n + 1) xs) i
        → number_in (numbers_from n (xs ++ ys)) i ≡ number_in (numbers_from n xs) i
        → number_in (numbers_from n (x ∷ (xs ++ ys))) (suc i) ≡ number_in (numbers_from n (x ∷ xs)) (suc i)
    go true f one same = rw f one
    go false f one same = rw f same

-- ---- new numbers

-- of lemmas both ways to put them are one
same-renewed : (number : ℕ → ℕ) (x : Entry) → is_lemma x ≡ true → renewed number x ≡ renumbered number x
same-renewed number (Merge node lit steps) is = refl
same-renewed number (Out j steps) is = refl
same-renewed number (Apart node lit input) is = refl
same-renewed number (Spent node lit seen log) is = cc
same-renewed number (OutApart j input) is = refl
same-renewed number (OutSpent j seen log) is = cc

on-renumbered : (number : ℕ → ℕ) (s : Subject) (x : Entry) → is_on s (renumbered number x) ≡ is_on s x
on-renumbered number s (Merge node lit steps) = refl
on-renumbered number s (Apart node lit input) = refl
on-renumbered number s (Spent node lit seen log) = refl
on-renumbered number s (Out j steps) = refl
on-renumbered number s (OutApart j input) = refl
on-renumbered number s (OutSpent j seen log) = refl

only-on : (number : ℕ → ℕ) (s : Subject) (xs : List Entry) → list_any (is_on s) xs ≡ false
    → list_any (is_on s) (map (renumbered number) (filter is_lemma xs)) ≡ false
only-on number s [] off = refl
only-on number s (x ∷ xs) off =
    let parts = or_parts (is_on s x) (list_any (is_on s) xs) off in
    go (is_lemma x) refl parts.0 (only-on number s xs parts.1)
  where
    go : (b : Bool) → is_lemma x ≡ b → is_on s x ≡ false → list_any (is_on s) (map (renumbered number) (filter is_lemma xs)) ≡ false
        → list_any (is_on s) (map (renumbered number) (filter is_lemma (x ∷ xs))) ≡ false
    go true f other rest = rw (f, on-renumbered number s x, other, rest) refl
    go false f other rest = rw f rest

-- a wider set of entries, and numbers that stay, for what cites those of a set alone
module _ (p q : ℕ → Bool) (wider : (i : ℕ) → p i ≡ true → q i ≡ true) where
  hints-wider : (hs : List Ref) → list_all (hint_among p) hs ≡ true → list_all (hint_among q) hs ≡ true
  hints-wider [] all = refl
  hints-wider (h ∷ hs) all =
      let parts = and_parts (hint_among p h) (list_all (hint_among p) hs) all in
      rw (one h parts.0, hints-wider hs parts.1) refl
    where
      one : (r : Ref) → hint_among p r ≡ true → hint_among q r ≡ true
      one (Axiom node k) is = refl
      one (Shown i k) is = wider i is
      one (Own k) is = refl
      one (Bound side k) is = refl

  steps-wider : (ss : List Step) → steps_among p ss ≡ true → steps_among q ss ≡ true
  steps-wider [] all = refl
  steps-wider (s ∷ ss) all =
      let parts = and_parts (list_all (hint_among p) s.hints) (steps_among p ss) all in
      rw (hints-wider s.hints parts.0, steps-wider ss parts.1) refl

module _ (p : ℕ → Bool) (f : ℕ → ℕ) (same : (i : ℕ) → p i ≡ true → f i ≡ i) where
  hints-same : (hs : List Ref) → list_all (hint_among p) hs ≡ true → map (renewed_hint f) hs ≡ hs
  hints-same [] all = refl
  hints-same (h ∷ hs) all =
      let parts = and_parts (hint_among p h) (list_all (hint_among p) hs) all in
      rw (one h parts.0, hints-same hs parts.1) refl
    where
      one : (r : Ref) → hint_among p r ≡ true → renewed_hint f r ≡ r
      one (Axiom node k) is = refl
      one (Shown i k) is = ap (λ (n : ℕ). Shown n k) (same i is)
      one (Own k) is = refl
      one (Bound side k) is = refl

  steps-same : (ss : List Step) → steps_among p ss ≡ true → map (renewed_step f) ss ≡ ss
  steps-same [] all = refl
  steps-same (s ∷ ss) all =
      let parts = and_parts (list_all (hint_among p) s.hints) (steps_among p ss) all in
      rw (hints-same s.hints parts.0, steps-same ss parts.1) refl

  entry-same : (e : Entry) → cites_among p e ≡ true → renumbered f e ≡ e
  entry-same (Merge node lit steps) all = ap (Merge node lit) (steps-same steps all)
  entry-same (Apart node lit input) all = refl
  entry-same (Spent node lit seen log) all = ap (Spent node lit seen) (steps-same log all)
  entry-same (Out j steps) all = ap (Out j) (steps-same steps all)
  entry-same (OutApart j input) all = refl
  entry-same (OutSpent j seen log) all = ap (OutSpent j seen) (steps-same log all)

-- ---- lemmas that are taken one by one

-- each of the first m entries was taken under its own place
record IsCounted (numbers : List (Option ℕ)) (m : ℕ) : Type 0 where
  pub count : length numbers ≡ m
  pub each : (i : ℕ) → i < m → slice_get numbers i ≡ Some (Some i)

counted-none : IsCounted [] 0
counted-none = record { count = refl; each = λ i less. absurd (omega arith) }

counted-more : (numbers : List (Option ℕ)) (m : ℕ) → IsCounted numbers m → IsCounted (numbers ++ Some m ∷ []) (m + 1)
counted-more numbers m is = record {
  count = length-append numbers (Some m ∷ []) ∙ ap (λ (n : ℕ). n + 1) is.count;
  each = λ i less. elim (cases_lt i m) [
    | inl below ↦ slice_get-left numbers (Some m ∷ []) i (omega (arith, is.count, below)) ∙ is.each i below
    | inr more ↦
        let here : i ≡ m = omega arith in
        let end : i ≡ length numbers + 0 = omega (arith, is.count, here) in
        ap (slice_get (numbers ++ Some m ∷ [])) end ∙ slice_get-right numbers (Some m ∷ []) 0 ∙ ap (λ (k : ℕ). Some (Some k)) (sym here)
  ];
}

counted-taken : (numbers : List (Option ℕ)) (m : ℕ) → IsCounted numbers m → (i : ℕ) → ltb i m ≡ true → is_taken numbers i ≡ true
counted-taken numbers m is i less = ap (λ (o : Option (Option ℕ)). option_map_or is_some o false) (is.each i (ltb-true i m less))

counted-number : (numbers : List (Option ℕ)) (m : ℕ) → IsCounted numbers m → (i : ℕ) → ltb i m ≡ true → number_in numbers i ≡ i
counted-number numbers m is i less =
    ap (λ (o : Option (Option ℕ)). option_map_or (λ p. option_map_or (λ n. n) p 0) o 0) (is.each i (ltb-true i m less))

module _ (net : AigPair) (is_net : IsNet net) (sweep out : ℕ) (all : List Entry) where
  abbrev number : ℕ → ℕ
  number = number_in (numbers_from 0 all)

  abbrev written : List Entry → List Entry
  written es = map (renumbered number) (filter is_lemma es)

  abbrev book_of : List Entry → Entries
  book_of es = record { sweep_budget = sweep; out_budget = out; entries = es }

  module _ (before rest : List Entry) (split : all ≡ before ++ rest) where
    -- a lemma before has the number of its place among the lemmas
    at-rank : (i : ℕ) (x : Entry) → is_lemma_at before i ≡ true → slice_get before i ≡ Some x → IsRank 0 before i x × (number i ≡ number_in (numbers_from 0 before) i)
    at-rank i x is at =
        let lemma : is_lemma x ≡ true = sym (ap (λ (o : Option Entry). option_map_or is_lemma o false) at) ∙ is in (
          rank 0 before i x at lemma,
          ap (λ (es : List Entry). number_in (numbers_from 0 es) i) split ∙ prefix 0 before rest i (slice_get_within before i x at),
        )

    found : (i : ℕ) (x : Entry) → is_lemma_at before i ≡ true → slice_get before i ≡ Some x → slice_get (written before) (number i) ≡ Some (renewed number x)
    found i x is at =
        let lemma : is_lemma x ≡ true = sym (ap (λ (o : Option Entry). option_map_or is_lemma o false) at) ∙ is in
        let r = at-rank i x is at in
        let place : number i ≡ r.0.j = (let same : 0 + r.0.j ≡ r.0.j = omega arith in r.1 ∙ r.0.number ∙ same) in
        ap (slice_get (written before)) place
        ∙ slice_get-map (renumbered number) (filter is_lemma before) r.0.j
        ∙ ap (option_map (renumbered number)) r.0.there
        ∙ ap (λ (e : Entry). Some e) (sym (same-renewed number x lemma))

    -- what a lemma cites has a number below that of the lemmas before
    low : (i : ℕ) → is_lemma_at before i ≡ true → ltb (number i) (length (filter is_lemma before)) ≡ true
    low i is = go (slice_get before i) refl
      where
        go : (o : Option Entry) → slice_get before i ≡ o → ltb (number i) (length (filter is_lemma before)) ≡ true
        go None f = let g : false ≡ true = sym (ap (λ (o : Option Entry). option_map_or is_lemma o false) f) ∙ is in cc
        go (Some x) f =
            let r = at-rank i x is f in
            let within = slice_get_within (filter is_lemma before) r.0.j x r.0.there in
            lt-ltb _ _ (omega (arith, r.1, r.0.number, within))

    hints-low : (own : List Step) (hs : List Ref) → AllByRecursion (IsFound (with_own (out_clause net before) own)) hs
        → list_all (hint_among (λ i. ltb i (length (filter is_lemma before)))) (map (renewed_hint number) hs) ≡ true
    hints-low own [] all' = refl
    hints-low own (h ∷ hs) all' = rw (one h all'.0, hints-low own hs all'.1) refl
      where
        one : (r : Ref) → IsFound (with_own (out_clause net before) own) r
            → hint_among (λ i. ltb i (length (filter is_lemma before))) (renewed_hint number r) ≡ true
        one (Axiom node k) f = refl
        one (Shown i k) f = low i (merge-lemma before i k f.clause f.is)
        one (Own k) f = refl
        one (Bound side k) f = refl

    steps-low : (own ss : List Step) → InTurn (IsStepAfter (out_clause net before)) own ss
        → steps_among (λ i. ltb i (length (filter is_lemma before))) (map (renewed_step number) ss) ≡ true
    steps-low own [] chain = refl
    steps-low own (s ∷ ss) chain =
        let hints = hints-low own s.hints (step-found same_lit opposite (with_own (out_clause net before) own) s.clause s.hints chain.0) in
        rw (hints, steps-low (own ++ s ∷ []) ss chain.1) refl

    entry-low : (e : Entry) → is_lemma e ≡ true → IsGoodAfter net sweep out before e
        → cites_among (λ i. ltb i (length (filter is_lemma before))) (renumbered number e) ≡ true
    entry-low (Merge node lit steps) is good = steps-low [] steps (merge-chain_out net (record { sweep_budget = sweep; out_budget = out; entries = before }) node lit steps good)
    entry-low (Out j steps) is good = steps-low [] steps (out-chain net (record { sweep_budget = sweep; out_budget = out; entries = before }) j steps good)
    entry-low (Apart node lit input) is good = refl
    entry-low (Spent node lit seen log) is good = cc
    entry-low (OutApart j input) is good = refl
    entry-low (OutSpent j seen log) is good = cc

    -- it is good over the lemmas before
    entry-good : (e : Entry) → is_lemma e ≡ true → IsGoodAfter net sweep out before e → IsGood net (book_of (written before)) (renumbered number e)
    entry-good e is good =
        subst (λ (x : Entry). IsGood net (book_of (written before)) x) (same-renewed number e is)
        (good-stays none net net is_net (edits-stay net []) before (written before) (is_lemma_at before) number found
        (λ s off. only-on number s before off) sweep out e (entry-stays net before sweep out e is good) good)

    -- so it may be taken, and no number changes
    module _ (e : Entry) (is : is_lemma e ≡ true) (good : IsGoodAfter net sweep out before e) (numbers : List (Option ℕ))
        (counted : IsCounted numbers (length (filter is_lemma before))) where
      abbrev below : ℕ → Bool
      below i = ltb i (length (filter is_lemma before))

      unchanged : renumbered (number_in numbers) (renumbered number e) ≡ renumbered number e
      unchanged =
          entry-same below (number_in numbers) (counted-number numbers (length (filter is_lemma before)) counted) (renumbered number e) (entry-low e is good)

      may : MayBeTaken net (book_of (written before)) numbers (renumbered number e)
      may = record {
        cited = steps-wider below (is_taken numbers) (counted-taken numbers (length (filter is_lemma before)) counted)
            (steps_in (answer_of (renumbered number e))) (entry-low e is good);
        good = subst (λ (x : Entry). IsGood net (book_of (written before)) x) (sym unchanged) (entry-good e is good);
      }

  -- one entry more of those before
  filter-last : (before : List Entry) (e : Entry) → (b : Bool) → is_lemma e ≡ b
      → filter is_lemma (before ++ e ∷ []) ≡ filter is_lemma before ++ (if b then e ∷ [] else [])
  filter-last [] e true f = rw f refl
  filter-last [] e false f = rw f refl
  filter-last (x ∷ xs) e b f = go (is_lemma x) refl (filter-last xs e b f)
    where
      go : (d : Bool) → is_lemma x ≡ d → filter is_lemma (xs ++ e ∷ []) ≡ filter is_lemma xs ++ (if b then e ∷ [] else [])
          → filter is_lemma (x ∷ (xs ++ e ∷ [])) ≡ filter is_lemma (x ∷ xs) ++ (if b then e ∷ [] else [])
      go true g rest = rw g (ap (λ (l : List Entry). x ∷ l) rest)
      go false g rest = rw g rest

  taken-all : (before rest : List Entry) → all ≡ before ++ rest → InTurn (IsGoodAfter net sweep out) before rest
      → (numbers : List (Option ℕ)) → IsCounted numbers (length (filter is_lemma before)) → (last : Entries)
      → Loads net (book_of (written before)) numbers (written rest) last → last.entries ≡ written all
  taken-all before [] split legal numbers counted last loads =
      ap (λ (b : Entries). b.entries) loads ∙ ap written (sym (split ∙ append-nil before))
  taken-all before (e ∷ es) split legal numbers counted last loads =
      go (is_lemma e) refl (taken-all (before ++ e ∷ []) es (split ∙ sym (append_assoc before (e ∷ []) es)) legal.1)
    where
      go : (b : Bool) → is_lemma e ≡ b
          → ((ns : List (Option ℕ)) → IsCounted ns (length (filter is_lemma (before ++ e ∷ []))) → (l : Entries)
          → Loads net (book_of (written (before ++ e ∷ []))) ns (written es) l → l.entries ≡ written all)
          → last.entries ≡ written all
      go false f rest =
          let same : filter is_lemma (before ++ e ∷ []) ≡ filter is_lemma before = filter-last before e false f ∙ append-nil (filter is_lemma before) in
          rest numbers (subst (λ (l : List Entry). IsCounted numbers (length l)) (sym same) counted) last
          (subst (λ (l : List Entry). Loads net (book_of (map (renumbered number) l)) numbers (written es) last) (sym same) (rw f at loads))
      go true f rest = by_case (rw f at loads)
        where
          ok : MayBeTaken net (book_of (written before)) numbers (renumbered number e)
          ok = may before (e ∷ es) split e f legal.0 numbers counted

          longer : filter is_lemma (before ++ e ∷ []) ≡ filter is_lemma before ++ e ∷ []
          longer = filter-last before e true f

          more : written before ++ renumbered (number_in numbers) (renumbered number e) ∷ [] ≡ written (before ++ e ∷ [])
          more =
              ap (λ (x : Entry). written before ++ x ∷ []) (unchanged before (e ∷ es) split e f legal.0 numbers counted)
              ∙ sym (map-append (renumbered number) (filter is_lemma before) (e ∷ []))
              ∙ ap (map (renumbered number)) (sym longer)

          count : length (written before) ≡ length (filter is_lemma before)
          count = length-map (filter is_lemma before) (renumbered number)

          next : IsCounted (numbers ++ Some (length (written before)) ∷ []) (length (filter is_lemma (before ++ e ∷ [])))
          next =
              subst (λ (n : ℕ). IsCounted (numbers ++ Some n ∷ []) (length (filter is_lemma (before ++ e ∷ [])))) (sym count)
              (subst (λ (n : ℕ). IsCounted (numbers ++ Some (length (filter is_lemma before)) ∷ []) n)
              (sym (ap (λ (l : List Entry). length l) longer ∙ length-append (filter is_lemma before) (e ∷ [])))
              (counted-more numbers (length (filter is_lemma before)) counted))

          by_case : Loads net (book_of (written before)) numbers (renumbered number e ∷ written es) last → last.entries ≡ written all
          by_case (inl l) =
              rest (numbers ++ Some (length (written before)) ∷ []) next last
              (subst (λ (xs : List Entry). Loads net (book_of xs) (numbers ++ Some (length (written before)) ∷ []) (written es) last) more l.1)
          by_case (inr l) = absurd (l.0 ok)

-- all that is written of a legal book is taken over its net
pub all_taken : (net : AigPair) (book loaded : Entries) → IsNet net → IsLegal net book
    → IsLoaded net book.sweep_budget book.out_budget (lemmas_of book.entries) loaded → loaded.entries ≡ lemmas_of book.entries
all_taken net book loaded is legal loads =
    taken-all net is book.sweep_budget book.out_budget book.entries [] book.entries refl legal [] counted-none loaded loads
