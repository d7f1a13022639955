-- Chains: empty ones, and one member more.
use Rattle.std.proofs.Common.{◌≡◌, ◌≢◌, ◌∙◌, ℕ, ◌+◌, ◌-◌, ◌<◌, ◌==◌, ◌||◌, ◌&&◌, ◌⊎◌, Bool, true, false, List, [], length, slice_index, slice_set, refl, sym, ap, ap₂, subst, arith, inl, inr}
use Rattle.std.proofs.lemmas.Bool.{and_parts}
use Rattle.std.proofs.lemmas.Bool.Decides.{nat_tests, eqb_tells}
use Rattle.std.proofs.lemmas.List.{length-set, get_or_past, get_or-set_same, get_or-set_other}
use Rattle.word_sim.specs.Rows.{Signatures}
use Rattle.sig_classes.specs.Alike.{row_of, alike, hash_of, bucket_of}
use Rattle.sig_classes.specs.Chains.{Chains, AreBefore, IsLink, AreChains, HasMembers, bucket_at, class_of, are_alike, are_one, with_member}
use Rattle.sig_classes.proofs.AlikeLemmas.{alike-hash, same-numbers}
use Rattle.netlist.proofs.Facts.{equal-number}

-- chains of members that are told in another way
pub chains-same : (bucket : ℕ → ℕ) (member other : ℕ → Bool) (heads behind : List ℕ) → ((q : ℕ) → member q ≡ other q)
    → AreChains bucket member heads behind → AreChains bucket other heads behind
chains-same bucket member other heads behind same chains =
    let back = λ (q : ℕ) (there : other q ≡ true). same q ∙ there in
    let link : (h v : ℕ) → IsLink bucket member h v → IsLink bucket other h v =
    λ h v old. record { is_member = λ l. sym (same (v - 1)) ∙ old.is_member l; in_bucket = old.in_bucket } in
    record {
      inside = λ q there. chains.inside q (back q there);
      head = λ h. link h (slice_index heads h) (chains.head h);
      next = λ q there. link (bucket q) (slice_index behind q) (chains.next q (back q there));
      from_head = λ q there. chains.from_head q (back q there);
      from_next = λ p q one two. chains.from_next p q (back p one) (back q two);
    }

-- the members after one was put
pub member-cases : (n : ℕ) (member : ℕ → Bool) (q : ℕ) → with_member n member q ≡ true → (q ≡ n) ⊎ ((q ≢ n) × (member q ≡ true))
member-cases n member q there = elim (eqb_tells q n) [
  | inl p ↦ inl p.1
  | inr p ↦ inr (p.1, subst (λ (b : Bool). (b || member q) ≡ true) p.0 there)
]

pub member-old : (n : ℕ) (member : ℕ → Bool) (q : ℕ) → member q ≡ true → with_member n member q ≡ true
member-old n member q there = go (q == n)
  where
    go : (b : Bool) → (b || member q) ≡ true
    go true = refl
    go false = there

pub member-new : (n : ℕ) (member : ℕ → Bool) → with_member n member n ≡ true
member-new n member = let e : (n == n) ≡ true = grind (arith, nat_tests) in rw e refl

module _ (bucket : ℕ → ℕ) (member : ℕ → Bool) (heads behind : List ℕ) (n : ℕ) (room : n < length behind)
    (there : bucket n < length heads) (below : (q : ℕ) → member q ≡ true → q < n) (chains : AreChains bucket member heads behind) where
  abbrev more : ℕ → Bool
  more = with_member n member

  abbrev new_heads : List ℕ
  new_heads = slice_set heads (bucket n) (n + 1)

  abbrev new_behind : List ℕ
  new_behind = slice_set behind n (slice_index heads (bucket n))

  link-more : (h v : ℕ) → IsLink bucket member h v → IsLink bucket more h v
  link-more h v old = record { is_member = λ l. member-old n member (v - 1) (old.is_member l); in_bucket = old.in_bucket }

  head-same : slice_index new_heads (bucket n) ≡ n + 1
  head-same = get_or-set_same heads (bucket n) (n + 1) 0 there

  head-other : (h : ℕ) → h ≢ bucket n → slice_index new_heads h ≡ slice_index heads h
  head-other h other = get_or-set_other heads (bucket n) h (n + 1) 0 other

  behind-same : slice_index new_behind n ≡ slice_index heads (bucket n)
  behind-same = get_or-set_same behind n (slice_index heads (bucket n)) 0 room

  behind-other : (q : ℕ) → q ≢ n → slice_index new_behind q ≡ slice_index behind q
  behind-other q other = get_or-set_other behind n q (slice_index heads (bucket n)) 0 other

  -- the member is put first into its chain
  pub chains-more : AreChains bucket more new_heads new_behind
  chains-more = record {
    inside = λ q is. elim (member-cases n member q is) [
      | inl e ↦ omega (arith, e, room, length-set behind n (slice_index heads (bucket n)))
      | inr p ↦ omega (arith, chains.inside q p.1, length-set behind n (slice_index heads (bucket n)))
    ];
    head = λ h. elim (eqb_tells h (bucket n)) [
      | inl p ↦
          let value : slice_index new_heads h ≡ n + 1 = ap (slice_index new_heads) p.1 ∙ head-same in
          let place : slice_index new_heads h - 1 ≡ n = omega (arith, value) in
          record {
            is_member = λ l. ap more place ∙ member-new n member;
            in_bucket = λ l. ap bucket place ∙ sym p.1;
          }
      | inr p ↦ subst (λ (v : ℕ). IsLink bucket more h v) (sym (head-other h p.1)) (link-more h _ (chains.head h))
    ];
    next = λ q is. elim (member-cases n member q is) [
      | inl e ↦
          subst (λ (k : ℕ). IsLink bucket more (bucket k) (slice_index new_behind k)) (sym e)
          (subst (λ (v : ℕ). IsLink bucket more (bucket n) v) (sym behind-same) (link-more (bucket n) _ (chains.head (bucket n))))
      | inr p ↦ subst (λ (v : ℕ). IsLink bucket more (bucket q) v) (sym (behind-other q p.0)) (link-more (bucket q) _ (chains.next q p.1))
    ];
    from_head = λ q is. elim (eqb_tells (bucket q) (bucket n)) [
      | inl p ↦
          let value : slice_index new_heads (bucket q) ≡ n + 1 = ap (slice_index new_heads) p.1 ∙ head-same in
          elim (member-cases n member q is) [ inl e ↦ omega (arith, e, value) | inr m ↦ omega (arith, below q m.1, value) ]
      | inr p ↦ elim (member-cases n member q is) [
        | inl e ↦ absurd (p.1 (ap bucket e))
        | inr m ↦ omega (arith, head-other (bucket q) p.1, chains.from_head q m.1)
      ]
    ];
    from_next = λ p q one two same less. elim (member-cases n member p one) [
      | inl e ↦ elim (member-cases n member q two) [
        | inl f ↦ absurd (omega (arith, e, f, less))
        | inr m ↦
            let place : slice_index new_behind p ≡ slice_index heads (bucket n) = ap (slice_index new_behind) e ∙ behind-same in
            let chain : bucket q ≡ bucket n = sym same ∙ ap bucket e in
            let old : q < slice_index heads (bucket q) = chains.from_head q m.1 in
            omega (arith, place, ap (slice_index heads) chain, old)
      ]
      | inr l ↦ elim (member-cases n member q two) [
        | inl f ↦ absurd (omega (arith, f, less, below p l.1))
        | inr m ↦ omega (arith, behind-other p l.0, chains.from_next p q l.1 m.1 same less)
      ]
    ];
  }

-- an element after one was written: the new value, or the old one
set-cases : (xs : List ℕ) (i v q : ℕ) → i < length xs
    → ((q ≡ i) × (slice_index (slice_set xs i v) q ≡ v)) ⊎ (slice_index (slice_set xs i v) q ≡ slice_index xs q)
set-cases xs i v q inside = elim (eqb_tells q i) [
  | inl p ↦ inl (p.1, ap (slice_index (slice_set xs i v)) p.1 ∙ get_or-set_same xs i v 0 inside)
  | inr p ↦ inr (get_or-set_other xs i q v 0 p.1)
]

module _ (heads behind : List ℕ) (n b : ℕ) (room : n < length behind) (there : b < length heads)
    (before : AreBefore n (record { heads = heads; behind = behind })) where
  -- no chain begins behind it
  pub before-more : AreBefore (n + 1) (record { heads = slice_set heads b (n + 1); behind = slice_set behind n (slice_index heads b) })
  before-more h = elim (set-cases heads b (n + 1) h there) [
    | inl p ↦ omega (arith, p.1)
    | inr p ↦ omega (arith, p, before h)
  ]

-- the same by buckets of rows, whose number stays
pub put-members : (classes : List ℕ) (sigs : Signatures) (member : ℕ → Bool) (heads behind : List ℕ) (n b value : ℕ) → n < length behind
    → b < length heads → b ≡ bucket_at classes sigs (record { heads = heads; behind = behind }) n → value ≡ slice_index heads b
    → ((q : ℕ) → member q ≡ true → q < n) → HasMembers classes sigs member (record { heads = heads; behind = behind })
    → HasMembers classes sigs (with_member n member) (record { heads = slice_set heads b (n + 1); behind = slice_set behind n value })
put-members classes sigs member heads behind n b value room there is read below chains =
    let old = λ (m : ℕ) (q : ℕ). bucket_of m (hash_of (class_of classes q) sigs.patterns (row_of sigs q)) in
    let size : length heads ≡ length (slice_set heads b (n + 1)) = sym (length-set heads b (n + 1)) in
    let inside : old (length heads) n < length heads = omega (arith, is, there) in
    let put : AreChains (old (length heads)) (with_member n member) (slice_set heads (old (length heads) n) (n + 1))
    (slice_set behind n (slice_index heads (old (length heads) n))) = chains-more (old (length heads)) member heads behind n room inside below chains in
    subst (λ (m : ℕ). AreChains (old m) (with_member n member) (slice_set heads b (n + 1)) (slice_set behind n value)) size
    (subst (λ (v : ℕ). AreChains (old (length heads)) (with_member n member) (slice_set heads b (n + 1)) (slice_set behind n v)) (sym read)
    (subst (λ (k : ℕ). AreChains (old (length heads)) (with_member n member) (slice_set heads k (n + 1)) (slice_set behind n (slice_index heads k))) (sym is) put))

-- the bucket of a row, by what it is computed of
pub bucket-is : (classes : List ℕ) (sigs : Signatures) (t : Chains) (p buckets class count : ℕ) (row : List ℕ) (b : ℕ)
    → b ≡ bucket_of buckets (hash_of class count row) → buckets ≡ length t.heads → class ≡ class_of classes p → count ≡ sigs.patterns
    → row ≡ row_of sigs p → b ≡ bucket_at classes sigs t p
bucket-is classes sigs t p buckets class count row b is size own many same =
    is ∙ ap₂ bucket_of size (ap (λ (c : ℕ). hash_of c count row) own ∙ ap₂ (hash_of (class_of classes p)) many same)

-- ---- whether two positions are in one class

pub one-parts : (classes : List ℕ) (sigs : Signatures) (q p : ℕ) → are_one classes sigs q p ≡ true
    → (class_of classes q ≡ class_of classes p) × (are_alike sigs q p ≡ true)
one-parts classes sigs q p one =
    let parts = and_parts (class_of classes q == class_of classes p) (are_alike sigs q p) one in
    (equal-number _ _ parts.0, parts.1)

pub one-from : (classes : List ℕ) (sigs : Signatures) (q p : ℕ) → class_of classes q ≡ class_of classes p → are_alike sigs q p ≡ true
    → are_one classes sigs q p ≡ true
one-from classes sigs q p own alike =
    ap₂ ◌&&◌ (same-numbers (class_of classes q) (class_of classes p) own) alike

-- without classes rows decide alone
pub one-none : (sigs : Signatures) (q p : ℕ) → are_one [] sigs q p ≡ are_alike sigs q p
one-none sigs q p =
    let left : class_of [] q ≡ 0 = get_or_past [] q 0 (omega arith) in
    let right : class_of [] p ≡ 0 = get_or_past [] p 0 (omega arith) in
    ap (λ (t : Bool). t && are_alike sigs q p) (same-numbers (class_of [] q) (class_of [] p) (left ∙ sym right))

-- ---- a search

-- the link leads into the bucket of a row, and no member of its class stands before it
abbrev pub IsSearched : List ℕ → Signatures → (ℕ → Bool) → Chains → ℕ → ℕ → Type 0
IsSearched classes sigs member t p link = IsLink (bucket_at classes sigs t) member (bucket_at classes sigs t p) link
    × ((q : ℕ) → member q ≡ true → are_one classes sigs q p ≡ true → q < link)

-- positions in one class have one bucket
one-bucket : (classes : List ℕ) (sigs : Signatures) (t : Chains) (q p : ℕ) → are_one classes sigs q p ≡ true
    → bucket_at classes sigs t q ≡ bucket_at classes sigs t p
one-bucket classes sigs t q p one =
    let parts = one-parts classes sigs q p one in
    ap (bucket_of (length t.heads)) (ap (λ (c : ℕ). hash_of c sigs.patterns (row_of sigs q)) parts.0
    ∙ alike-hash (class_of classes p) sigs.patterns (row_of sigs q) (row_of sigs p) parts.1)

pub search-init : (classes : List ℕ) (sigs : Signatures) (member : ℕ → Bool) (t : Chains) (p v : ℕ)
    → v ≡ slice_index t.heads (bucket_at classes sigs t p) → HasMembers classes sigs member t → IsSearched classes sigs member t p v
search-init classes sigs member t p v read chains = (
  subst (λ (k : ℕ). IsLink (bucket_at classes sigs t) member (bucket_at classes sigs t p) k) (sym read) (chains.head (bucket_at classes sigs t p)),
  λ q there one. omega (arith, read, ap (slice_index t.heads) (one-bucket classes sigs t q p one), chains.from_head q there),
)

pub search-next : (classes : List ℕ) (sigs : Signatures) (member : ℕ → Bool) (t : Chains) (p link v : ℕ) → 0 < link
    → are_one classes sigs (link - 1) p ≡ false → v ≡ slice_index t.behind (link - 1) → HasMembers classes sigs member t
    → IsSearched classes sigs member t p link → IsSearched classes sigs member t p v
search-next classes sigs member t p link v some other read chains searched =
    let here : member (link - 1) ≡ true = searched.0.is_member some in
    let bucket : bucket_at classes sigs t (link - 1) ≡ bucket_at classes sigs t p = searched.0.in_bucket some in (
      subst (λ (h : ℕ). IsLink (bucket_at classes sigs t) member h v) bucket
          (subst (λ (k : ℕ). IsLink (bucket_at classes sigs t) member (bucket_at classes sigs t (link - 1)) k) (sym read) (chains.next (link - 1) here)),
      λ q there one.
          let apart : q ≢ link - 1 = λ e. let f : true ≡ false = sym one ∙ ap (λ (k : ℕ). are_one classes sigs k p) e ∙ other in cc in
          let before : q < link - 1 = omega (arith, searched.1 q there one, apart) in
          omega (arith, read, chains.from_next (link - 1) q here there (bucket ∙ sym (one-bucket classes sigs t q p one)) before),
    )
