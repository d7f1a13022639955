-- The clauses that entries show, which are the last ones of their steps, are live under the ids that are kept for them.
use Rattle.std.proofs.Common.{◌≡◌, ℕ, zero, suc, ◌+◌, ◌-◌, ◌<◌, ◌≤◌, Option, None, Some, List, [], ◌∷◌, ◌++◌, length, map, refl, sym, ap, ◌∙◌, subst, arith, length-append, append_assoc}
use Rattle.std.specs.Prelude.{slice_get, option_map, IsSome}
use Rattle.std.specs.List.{slice_index_or, AllByRecursion}
use Rattle.std.proofs.lemmas.List.{append-nil, map-append, length-map}
use Rattle.std.proofs.lemmas.Option.{none-some, same_Some, slice_get_within, slice_get-map}
use Rattle.lits.specs.declared.literal.Lit.{Lit}
use Rattle.lits.specs.declared.step.Step.{Step}
use Rattle.lits.proofs.Facts.{all-slice_get, all-append}
use Rattle.netlist.specs.Net.{AigPair, IsNet}
use Rattle.netlist.specs.Miter.{variable_of, numbered, miter_of}
use Rattle.netlist.proofs.Facts.{slice_get-left, slice_get-right}
use Rattle.unit_prop.specs.Log.{InTurn}
use Rattle.lemma_book.specs.declared.entry.Entry.{Entry}
use Rattle.lemma_book.specs.declared.entry.Entry.TheVariants.{Merge, Apart, Spent, Out, OutApart, OutSpent}
use Rattle.lemma_book.specs.Entry.{lemmas_of}
use Rattle.lemma_book.specs.Good.{AreOver, EndsIn, merge_clause}
use Rattle.lrat_text.specs.declared.step.LratStep.{LratStep}
use Rattle.lrat_text.specs.Derivation.{formula_live}
use Rattle.proof_stitch.specs.Steps.{additions_from, additions}
use Rattle.proof_stitch.specs.Written.{written_steps, shown_clauses, shown_from, shown_ids}
use Rattle.proof_stitch.proofs.GrowLemmas.{Formula, live-is, Grows}
use Rattle.proof_stitch.proofs.StepLemmas.{IsThere, all_there, clause_of, clauses_in, HasMiter, IsDerived, AreLive, FitsDimacs, next-id, grows-steps}

-- the entry's steps are over the net's nodes, and end with the clauses that it shows
pub record IsShown (net : AigPair) (e : Entry) : Type 0 where
  pub over : AreOver net (written_steps e)
  pub ends : EndsIn (shown_clauses e) (written_steps e)

-- the clauses that an entry shows, behind a formula
pub head-live : (net : AigPair) (x : Entry) → IsShown net x → (base : Formula) (id : ℕ) → id ≡ length base + 1
    → (k : ℕ) (c : List Lit) → slice_get (shown_clauses x) k ≡ Some c → (rest : Formula)
    → AllByRecursion (IsThere net) c
    × (formula_live (base ++ (map (clause_of net) (written_steps x) ++ rest)) (id + length (written_steps x) - length (shown_clauses x) + k)
    ≡ Some (map (numbered net) c))
head-live net x shows base id e k c at rest = go (slice_get last k) refl
  where
    steps : List Step
    steps = written_steps x

    before : List Step
    before = shows.ends.before

    last : List Step
    last = shows.ends.last

    whole : length steps ≡ length before + length last
    whole = ap length shows.ends.parts ∙ length-append before last

    count : length last ≡ length (shown_clauses x)
    count = sym (length-map last (λ (s : Step). s.clause)) ∙ ap length shows.ends.clauses_are

    in-last : option_map (λ (s : Step). s.clause) (slice_get last k) ≡ Some c
    in-last =
        sym (slice_get-map (λ (s : Step). s.clause) last k)
        ∙ ap (λ (l : List (List Lit)). slice_get l k) shows.ends.clauses_are ∙ at

    id' : ℕ
    id' = id + length steps - length (shown_clauses x) + k

    place : id' - 1 ≡ length base + (length before + k)
    place = omega (arith, e, whole, count)

    least : 1 ≤ id'
    least = omega (arith, e, whole, count)

    go : (o : Option Step) → slice_get last k ≡ o
        → AllByRecursion (IsThere net) c × (formula_live (base ++ (map (clause_of net) steps ++ rest)) id' ≡ Some (map (numbered net) c))
    go None f = let g : None ≡ Some c = rw f at in-last in absurd (none-some c g)
    go (Some s) f = (
      subst (λ (d : List Lit). AllByRecursion (IsThere net) d) same
          (all_there net s.clause
          (all-slice_get (λ (t : Step). AllByRecursion (λ l. IsSome (variable_of net l.node)) t.clause) steps (length before + k) s shows.over in-steps)),
      live-is (base ++ (map (clause_of net) steps ++ rest)) id' least
          ∙ ap (slice_get (base ++ (map (clause_of net) steps ++ rest))) place
          ∙ slice_get-right base (map (clause_of net) steps ++ rest) (length before + k)
          ∙ slice_get-left (map (clause_of net) steps) rest (length before + k) within
          ∙ slice_get-map (clause_of net) steps (length before + k)
          ∙ ap (option_map (clause_of net)) in-steps
          ∙ ap (λ (d : List Lit). Some (map (numbered net) d)) same,
    )
      where
        same : s.clause ≡ c
        same = same_Some s.clause c (rw f at in-last)

        in-steps : slice_get steps (length before + k) ≡ Some s
        in-steps =
            ap (λ (l : List Step). slice_get l (length before + k)) shows.ends.parts
            ∙ slice_get-right before last k ∙ f

        within : length before + k < length (map (clause_of net) steps)
        within = omega (arith, length-map steps (clause_of net), slice_get_within steps (length before + k) s in-steps)

-- those that one of some entries shows
pub shown-live : (net : AigPair) (es : List Entry) → AllByRecursion (IsShown net) es → (base : Formula) (id : ℕ) → id ≡ length base + 1
    → (i : ℕ) (x : Entry) → slice_get es i ≡ Some x → (k : ℕ) (c : List Lit) → slice_get (shown_clauses x) k ≡ Some c → (rest : Formula)
    → AllByRecursion (IsThere net) c
    × (formula_live (base ++ (clauses_in net (map written_steps es) ++ rest)) (slice_index_or (shown_from id es) i 0 + k) ≡ Some (map (numbered net) c))
shown-live net [] shows base id e i x at k c f rest = absurd (none-some x at)
shown-live net (y ∷ es) shows base id e zero x at k c f rest =
    let same : y ≡ x = same_Some y x at in
    let here = head-live net y shows.0 base id e k c (ap (λ (z : Entry). slice_get (shown_clauses z) k) same ∙ f)
    (clauses_in net (map written_steps es) ++ rest) in (
      here.0,
      ap (λ (g : Formula). formula_live (base ++ g) (id + length (written_steps y) - length (shown_clauses y) + k))
          (append_assoc (map (clause_of net) (written_steps y)) (clauses_in net (map written_steps es)) rest) ∙ here.1,
    )
shown-live net (y ∷ es) shows base id e (suc i) x at k c f rest =
    let behind = base ++ map (clause_of net) (written_steps y) in
    let next : id + length (written_steps y) ≡ length behind + 1 = next-id net base (written_steps y) behind id e refl in
    let here = shown-live net es shows.1 behind (id + length (written_steps y)) next i x at k c f rest in (
      here.0,
      ap (λ (g : Formula). formula_live g (slice_index_or (shown_from (id + length (written_steps y)) es) i 0 + k))
          (ap (λ (g : Formula). base ++ g) (append_assoc (map (clause_of net) (written_steps y)) (clauses_in net (map written_steps es)) rest)
          ∙ sym (append_assoc base (map (clause_of net) (written_steps y)) (clauses_in net (map written_steps es) ++ rest)))
          ∙ here.1,
    )

-- the ids of the first entries are the first ids
first-shown : (id : ℕ) (before left : List Entry) (i : ℕ) → i < length before
    → slice_index_or (shown_from id (before ++ left)) i 0 ≡ slice_index_or (shown_from id before) i 0
first-shown id [] left i lt = absurd (omega arith)
first-shown id (e ∷ es) left zero lt = refl
first-shown id (e ∷ es) left (suc i) lt = first-shown (id + length (written_steps e)) es left i (omega arith)

-- the clauses of a merge are those that its entry shows
lemma-shown : (x : Entry) (k : ℕ) (c : List Lit) → slice_get (lemmas_of x) k ≡ Some c → slice_get (shown_clauses x) k ≡ Some c
lemma-shown (Merge node lit steps) k c e = e
lemma-shown (Apart node lit input) k c e = absurd (none-some c e)
lemma-shown (Spent node lit seen log) k c e = absurd (none-some c e)
lemma-shown (Out j steps) k c e = absurd (none-some c e)
lemma-shown (OutApart j input) k c e = absurd (none-some c e)
lemma-shown (OutSpent j seen log) k c e = absurd (none-some c e)

-- so the merges' clauses are live behind the steps of the entries that are written
pub merges-live : (net : AigPair) (entries before left : List Entry) → entries ≡ before ++ left → AllByRecursion (IsShown net) before
    → (formula : Formula) → formula ≡ miter_of net ++ clauses_in net (map written_steps before)
    → AreLive net (shown_ids net entries) before formula
merges-live net entries before left parts shows formula e = record {
  live = λ i k c f more. go i k c f more (slice_get before i) refl;
}
  where
    go : (i k : ℕ) (c : List Lit) → merge_clause before i k ≡ Some c → (more : Formula) → (o : Option Entry) → slice_get before i ≡ o
        → AllByRecursion (IsThere net) c
        × (formula_live (formula ++ more) (slice_index_or (shown_ids net entries) i 0 + k) ≡ Some (map (numbered net) c))
    go i k c f more None g = let h : None ≡ Some c = rw g at f in absurd (none-some c h)
    go i k c f more (Some x) g =
        let h : slice_get (lemmas_of x) k ≡ Some c = rw g at f in
        let here = shown-live net before shows (miter_of net) (length (miter_of net) + 1) refl i x g k c (lemma-shown x k c h) more in
        let at : slice_index_or (shown_ids net entries) i 0 ≡ slice_index_or (shown_from (length (miter_of net) + 1) before) i 0 =
        ap (λ (l : List Entry). slice_index_or (shown_from (length (miter_of net) + 1) l) i 0) parts
        ∙ first-shown (length (miter_of net) + 1) before left i (slice_get_within before i x g) in
        let whole : formula ++ more ≡ miter_of net ++ (clauses_in net (map written_steps before) ++ more) =
        ap (λ (l : Formula). l ++ more) e ∙ append_assoc (miter_of net) (clauses_in net (map written_steps before)) more in
        (here.0, rw (at, whole) here.1)

-- each entry's written steps are derived after the entries before it
abbrev pub AreDerived : AigPair → List Entry → List Entry → Type 0
AreDerived net before left = InTurn (λ (known : List Entry) e. IsDerived net known (written_steps e)) before left

clauses-append : (net : AigPair) (xs ys : List (List Step)) → clauses_in net (xs ++ ys) ≡ clauses_in net xs ++ clauses_in net ys
clauses-append net [] ys = refl
clauses-append net (x ∷ xs) ys =
    ap (λ (g : Formula). map (clause_of net) x ++ g) (clauses-append net xs ys)
    ∙ sym (append_assoc (map (clause_of net) x) (clauses_in net xs) (clauses_in net ys))

-- the steps of entries behind some first ones are additions by which the formula grows
module _ (net : AigPair) (is : IsNet net) (fits : FitsDimacs net) (entries : List Entry) where
  pub grows-entries : (before left : List Entry) → entries ≡ before ++ left → AllByRecursion (IsShown net) before
      → AllByRecursion (IsShown net) left → AreDerived net before left → (formula : Formula)
      → formula ≡ miter_of net ++ clauses_in net (map written_steps before)
      → (rest : List LratStep) (id : ℕ) → id ≡ length formula + 1
      → ((f : Formula) → f ≡ miter_of net ++ clauses_in net (map written_steps entries) → Grows f rest)
      → Grows formula (additions net (shown_ids net entries) id (map written_steps left) ++ rest)
  grows-entries before [] parts shows left_shows derived formula e rest id f cont =
      cont formula
      (e ∙ ap (λ (es : List Entry). miter_of net ++ clauses_in net (map written_steps es)) (sym (parts ∙ append-nil before)))
  grows-entries before (x ∷ left) parts shows left_shows derived formula e rest id f cont =
      subst (λ (l : List LratStep). Grows formula l)
      (sym (append_assoc (additions_from net (shown_ids net entries) id id (written_steps x))
      (additions net (shown_ids net entries) (id + length (written_steps x)) (map written_steps left)) rest))
      (grows-steps net is fits (shown_ids net entries) before formula begins
      (merges-live net entries before (x ∷ left) parts shows formula e) (written_steps x) derived.0
      (additions net (shown_ids net entries) (id + length (written_steps x)) (map written_steps left) ++ rest) id f
      (λ g h. grows-entries (before ++ x ∷ []) left (parts ∙ sym (append_assoc before (x ∷ []) left))
      (all-append (IsShown net) before (x ∷ []) shows (left_shows.0, tt)) left_shows.1 derived.1 g (grown g h) rest
      (id + length (written_steps x)) (next-id net formula (written_steps x) g id f h) cont))
    where
      begins : HasMiter net formula
      begins = record { more = clauses_in net (map written_steps before); is = e }

      grown : (g : Formula) → g ≡ formula ++ map (clause_of net) (written_steps x)
          → g ≡ miter_of net ++ clauses_in net (map written_steps (before ++ x ∷ []))
      grown g h =
          h ∙ ap (λ (l : Formula). l ++ map (clause_of net) (written_steps x)) e
          ∙ append_assoc (miter_of net) (clauses_in net (map written_steps before)) (map (clause_of net) (written_steps x))
          ∙ ap (λ (l : Formula). miter_of net ++ l)
          (sym (
          ap (clauses_in net) (map-append written_steps before (x ∷ []))
          ∙ clauses-append net (map written_steps before) (written_steps x ∷ [])
          ∙ ap (λ (l : Formula). clauses_in net (map written_steps before) ++ l) (append-nil (map (clause_of net) (written_steps x)))
          ))
