-- Numbers each of which is below those behind it.
use Rattle.std.proofs.Common.{◌≡◌, ℕ, ◌+◌, ◌<◌, Bool, true, false, ◌||◌, ◌&&◌, eqb, ltb, get_or, List, [], ◌∷◌, ◌++◌, length, refl, sym, ap, ap₂, ◌∙◌, subst, arith}
use Rattle.std.specs.Prelude.{filter}
use Rattle.std.specs.List.{AllByRecursion, Contains, dedup}
use Rattle.std.specs.List.Sorted.{IsPermutation, IsStrictlyIncreasing, IsStrictlySortedBy}
use Rattle.std.proofs.lemmas.List.Folds.{Any-from_list_any, list_any-from_Any}
use Rattle.std.proofs.lemmas.List.Kept.{Contains-dedup_nat, Contains-from_dedup}
use Rattle.std.proofs.lemmas.List.Sorted.{list_any-IsPermutation}
use Rattle.std.specs.Ordering.{nat_cmp}
use Rattle.std.proofs.Common.{Less, Equal, Greater, take, cond}
use Rattle.std.proofs.lemmas.List.Elements.{filter_more}
use Rattle.std.proofs.lemmas.Bool.{ltb-true, eqb-true, eq-eqb}
use Rattle.std.proofs.lemmas.Map.Keys.{sorted_from_strictly_increasing}
use Rattle.std.proofs.lemmas.List.{append-nil}
use Rattle.lits.proofs.Facts.{all-filter}
use Rattle.proof_stitch.specs.Progress.{Rises}
use Rattle.proof_stitch.specs.Trimmed.{has_id}
use Rattle.proof_stitch.proofs.RowLemmas.{has_id-all}

less : (a b : ℕ) → nat_cmp a b ≡ Less → a < b
less a b e = go (ltb a b) (eqb a b) refl refl
  where
    go : (p q : Bool) → ltb a b ≡ p → eqb a b ≡ q → a < b
    go true q f g = ltb-true a b f
    go false true f g = let h : Equal ≡ Less = rw (f, g) at e in cc
    go false false f g = let h : Greater ≡ Less = rw (f, g) at e in cc

-- as they are sorted and without repeats
pub rises-from : (ns : List ℕ) → IsStrictlyIncreasing ns → Rises ns
unfolding IsStrictlySortedBy
rises-from ns up = go ns (sorted_from_strictly_increasing ns up)
  where
    all : (n : ℕ) (ks : List ℕ) → AllByRecursion (λ k. nat_cmp n k ≡ Less) ks → AllByRecursion (λ k. n < k) ks
    all n [] a = tt
    all n (k ∷ ks) a = (less n k a.0, all n ks a.1)

    go : (ks : List ℕ) → IsStrictlySortedBy nat_cmp ks → Rises ks
    go [] s = tt
    go (k ∷ ks) s = (all k ks s.0, go ks s.1)

pub rises-filter : (test : ℕ → Bool) (ns : List ℕ) → Rises ns → Rises (filter test ns)
rises-filter test [] r = tt
rises-filter test (n ∷ ns) r = go (test n) refl (rises-filter test ns r.1)
  where
    go : (b : Bool) → test n ≡ b → Rises (filter test ns) → Rises (filter test (n ∷ ns))
    go true e rest = rw e (all-filter (λ k. n < k) test ns r.0, rest)
    go false e rest = rw e rest

pub rises-push : (ns : List ℕ) (k : ℕ) → Rises ns → AllByRecursion (λ n. n < k) ns → Rises (ns ++ k ∷ [])
rises-push [] k r all = (tt, tt)
rises-push (n ∷ ns) k r all = (go ns r.0, rises-push ns k r.1 all.1)
  where
    go : (ks : List ℕ) → AllByRecursion (λ j. n < j) ks → AllByRecursion (λ j. n < j) (ks ++ k ∷ [])
    go [] a = (all.0, tt)
    go (j ∷ js) a = (a.0, go js a.1)

not-below : (n : ℕ) (ns : List ℕ) → AllByRecursion (λ k. n < k) ns → has_id ns n ≡ false
not-below n ns all = go (has_id ns n) refl
  where
    go : (b : Bool) → has_id ns n ≡ b → b ≡ false
    go false e = refl
    go true e = absurd (omega (arith, has_id-all (λ k. n < k) ns n all e))

-- the one that stands first in one of two such lists that have the same numbers
first-same : (n k : ℕ) (ns ks : List ℕ) → AllByRecursion (λ j. n < j) ns → AllByRecursion (λ j. k < j) ks
    → has_id (k ∷ ks) n ≡ true → has_id (n ∷ ns) k ≡ true → n ≡ k
first-same n k ns ks above above' h h' = go (eqb k n) (eqb n k) refl refl
  where
    go : (b c : Bool) → eqb k n ≡ b → eqb n k ≡ c → n ≡ k
    go true c e f = sym (eqb-true k n e)
    go false true e f = eqb-true n k f
    go false false e f =
        let g : has_id ks n ≡ true = rw e at h in
        let g' : has_id ns k ≡ true = rw f at h' in
        absurd (omega (arith, has_id-all (λ j. k < j) ks n above' g, has_id-all (λ j. n < j) ns k above g'))

-- numbers that rise are told by which they are
pub same-members : (ns ks : List ℕ) → Rises ns → Rises ks → ((j : ℕ) → has_id ns j ≡ has_id ks j) → ns ≡ ks
same-members [] [] r s same = refl
same-members [] (k ∷ ks) r s same = let h : false ≡ true = same k ∙ rw (eq-eqb k k refl) refl in cc
same-members (n ∷ ns) [] r s same = let h : false ≡ true = sym (same n) ∙ rw (eq-eqb n n refl) refl in cc
same-members (n ∷ ns) (k ∷ ks) r s same = ap₂ (λ (j : ℕ) (js : List ℕ). j ∷ js) first (same-members ns ks r.1 s.1 rest)
  where
    first : n ≡ k
    first =
        first-same n k ns ks r.0 s.0 (sym (same n) ∙ rw (eq-eqb n n refl) refl) (same k ∙ rw (eq-eqb k k refl) refl)

    rest : (j : ℕ) → has_id ns j ≡ has_id ks j
    rest j = go (eqb n j) refl
      where
        go : (b : Bool) → eqb n j ≡ b → has_id ns j ≡ has_id ks j
        go true e =
            let is : n ≡ j = eqb-true n j e in
            subst (λ (i : ℕ). has_id ns i ≡ false) is (not-below n ns r.0)
            ∙ sym (subst (λ (i : ℕ). has_id ks i ≡ false) (sym first ∙ is) (not-below k ks s.0))
        go false e =
            let f : eqb k j ≡ false = subst (λ (i : ℕ). eqb i j ≡ false) first e in
            let whole : (eqb n j || has_id ns j) ≡ (eqb k j || has_id ks j) = same j in
            rw (e, f) at whole

-- ---- sorted, and without repeats

has-contains : (ns : List ℕ) (n : ℕ) → has_id ns n ≡ true → Contains ns n
has-contains ns n h =
    let found = Any-from_list_any (λ k. eqb k n) ns h in
    let is : found.1 ≡ n = eqb-true found.1 n found.4 in
    (found.0, found.2, subst (λ (k : ℕ). get_or ns found.0 k ≡ k) is found.3)

contains-has : (ns : List ℕ) (n : ℕ) → Contains ns n → has_id ns n ≡ true
contains-has ns n c =
    list_any-from_Any (λ k. eqb k n) ns (c.0, n, c.1, c.2, eq-eqb n n refl)

has-dedup : (ns : List ℕ) (n : ℕ) → has_id (dedup eqb ns) n ≡ has_id ns n
has-dedup ns n = go (has_id (dedup eqb ns) n) (has_id ns n) refl refl
  where
    go : (b c : Bool) → has_id (dedup eqb ns) n ≡ b → has_id ns n ≡ c → b ≡ c
    go true true e f = refl
    go false false e f = refl
    go true false e f =
        let g : has_id ns n ≡ true = contains-has ns n (Contains-from_dedup eqb ns n (has-contains (dedup eqb ns) n e)) in
        sym g ∙ f
    go false true e f =
        let g : has_id (dedup eqb ns) n ≡ true = contains-has (dedup eqb ns) n (Contains-dedup_nat ns n (has-contains ns n f)) in
        sym e ∙ g

-- what a filter leaves
pub has_id-filtered : (test : ℕ → Bool) (ids : List ℕ) (n : ℕ) → has_id (filter test ids) n ≡ (has_id ids n && test n)
has_id-filtered test [] n = refl
has_id-filtered test (i ∷ is) n = go (test i) (eqb i n) refl refl (has_id-filtered test is n)
  where
    go : (b c : Bool) → test i ≡ b → eqb i n ≡ c → has_id (filter test is) n ≡ (has_id is n && test n)
        → has_id (filter test (i ∷ is)) n ≡ (has_id (i ∷ is) n && test n)
    go true true e f rest =
        let same : test n ≡ true = ap test (sym (eqb-true i n f)) ∙ e in
        rw (e, f, same) refl
    go true false e f rest = rw (e, f) rest
    go false true e f rest =
        let same : test n ≡ false = ap test (sym (eqb-true i n f)) ∙ e in
        rw (e, f, same) (rest ∙ rw same (nothing (has_id is n)))
      where
        nothing : (b : Bool) → (b && false) ≡ false
        nothing true = refl
        nothing false = refl
    go false false e f rest = rw (e, f) rest

-- what a filter leaves, once it is sorted
pub sorted-members : (ids found sorted ns : List ℕ) (test : ℕ → Bool) → found ≡ filter test ids → IsPermutation found sorted
    → ns ≡ dedup eqb sorted → (n : ℕ) → has_id ns n ≡ (has_id ids n && test n)
sorted-members ids found sorted ns test is permuted once n =
    ap (λ (l : List ℕ). has_id l n) once
    ∙ has-dedup sorted n
    ∙ sym (list_any-IsPermutation (λ k. eqb k n) found sorted permuted)
    ∙ ap (λ (l : List ℕ). has_id l n) is
    ∙ has_id-filtered test ids n

-- one number more that passes, and one that doesn't
pub keep-yes : (test : ℕ → Bool) (ids found : List ℕ) (i : ℕ) → i < length ids → test (get_or ids i 0) ≡ true
    → found ≡ filter test (take i ids) → found ++ get_or ids i 0 ∷ [] ≡ filter test (take (i + 1) ids)
keep-yes test ids found i lt passes is =
    rw is (sym (filter_more test ids i 0 lt ∙ ap (λ (b : Bool). filter test (take i ids) ++ cond b (get_or ids i 0 ∷ []) []) passes))

pub keep-no : (test : ℕ → Bool) (ids found : List ℕ) (i : ℕ) → i < length ids → test (get_or ids i 0) ≡ false
    → found ≡ filter test (take i ids) → found ≡ filter test (take (i + 1) ids)
keep-no test ids found i lt fails is =
    is ∙ sym (filter_more test ids i 0 lt ∙ ap (λ (b : Bool). filter test (take i ids) ++ cond b (get_or ids i 0 ∷ []) []) fails ∙ append-nil (filter test (take i ids)))
