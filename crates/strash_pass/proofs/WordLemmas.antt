-- Clauses and sets of literals as words of bits.
use Rattle.std.proofs.Common.{◌≡◌, ◌≢◌, ℕ, suc, ◌+◌, ◌*◌, ◌/◌, ◌%◌, ◌^◌, ◌<◌, ◌≤◌, ◌==◌, Bool, true, false, not, ◌&&◌, ◌||◌, min, Option, Some, None, List, [], ◌∷◌, ◌++◌, length, get_or, take, filter, refl, sym, ap, ◌∙◌, subst, arith, ◌⊎◌, inl, inr, w64}
use Rattle.std.specs.Prelude.{bit_and, bit_or, if◌then◌else◌}
use Rattle.std.specs.Int.{bit_at, bit_not, trailing_zeros}
use Rattle.std.specs.List.{position, position_from}
use Rattle.std.specs.Option.{option_map}
use Rattle.std.proofs.lemmas.Bool.{cases_eq, and_parts, or_cases, or_left, or_right, not-true}
use Rattle.std.proofs.lemmas.Bool.Decides.{nat_tests}
use Rattle.std.proofs.lemmas.Iterator.Adapters.{position_from-zero}
use Rattle.std.proofs.lemmas.Nat.{and_le_r, pow_below, pow_pos}
use Rattle.std.proofs.lemmas.Nat.Bits.{bit_at_and, bit_at-lt, bit_at_not, bit_at-zero, bit_at-pow_same, bit_at-pow_other, bit_at-trailing_zeros, bit_at_set_same, bit_at_set_other, and_pow, same_from_bits}
use Rattle.std.proofs.lemmas.Option.{none-some, same_Some, slice_get-get_or}
use Rattle.lits.specs.declared.node.Node.{Node}
use Rattle.lits.specs.declared.node.Node.TheVariants.{Const}
use Rattle.lits.specs.declared.literal.Lit.{Lit}
use Rattle.lits.specs.Clause.{has, firsts}
use Rattle.lits.specs.Same.{same_lit, same_node, opposite}
use Rattle.lits.proofs.Facts.{exact-node, has-append, has-firsts, lit_laws, same-lit_self, take_next}
use Rattle.unit_prop.specs.Step.{open_in}
use Rattle.unit_prop.specs.HintScan.{is_asking}
use Rattle.unit_prop.proofs.Facts.{alone, contrary, has-head, has-filter}
use Rattle.strash_pass.specs.declared.marks.Marks.{Marks}
use Rattle.strash_pass.specs.Coded.{bit_of, turned, is_set, Sets, AreBits, AreMarks, open_word, is_single, asks_word}

-- ---- one bit
pub sets-bit : (word k : ℕ) → k < 64 → Sets word k (bit_or word (1 * 2 ^ k % 18446744073709551616))
sets-bit word k within = record {
  same = ap (λ (x : ℕ). x == 1) (bit_at_set_same w64 word k within);
  other = λ i apart. ap (λ (x : ℕ). x == 1) (bit_at_set_other w64 word k within i apart);
}

set-one : (word b : ℕ) → is_set word b ≡ true → bit_at word b ≡ 1
set-one word b e = grind (arith, nat_tests, e)

set-none : (word b : ℕ) → is_set word b ≡ false → bit_at word b ≡ 0
set-none word b e = grind (arith, nat_tests, e, bit_at-lt word b)

and-set : (x y b : ℕ) → is_set (bit_and x y) b ≡ (is_set x b && is_set y b)
and-set x y b = go (is_set x b) (is_set y b) refl refl
  where
    go : (p q : Bool) → is_set x b ≡ p → is_set y b ≡ q → is_set (bit_and x y) b ≡ (is_set x b && is_set y b)
    go true true e f = rw (e, f, bit_at_and x y b, set-one x b e, set-one y b f) refl
    go true false e f = rw (e, f, bit_at_and x y b, set-one x b e, set-none y b f) refl
    go false q e f =
        let none : min 0 (bit_at y b) ≡ 0 = omega arith in
        rw (e, bit_at_and x y b, set-none x b e, none) refl

not-set : (x b : ℕ) → x < 2 ^ 64 → b < 64 → is_set (bit_not w64 x) b ≡ not (is_set x b)
not-set x b small within = go (is_set x b) refl
  where
    go : (p : Bool) → is_set x b ≡ p → is_set (bit_not w64 x) b ≡ not (is_set x b)
    go true e = rw (e, bit_at_not w64 x b small within, set-one x b e) refl
    go false e = rw (e, bit_at_not w64 x b small within, set-none x b e) refl

-- ---- places
position-at : {X : Type 0} (p : X → Bool) (xs : List X) (from i : ℕ) → position_from p from xs ≡ Some i
    → (j : ℕ) × (i ≡ from + j) × (j < length xs) × ((d : X) → p (get_or xs j d) ≡ true)
position-at p [] from i e = absurd (none-some i e)
position-at {X} p (x ∷ xs) from i e = go (p x) refl (position-at p xs (from + 1) i)
  where
    go : (b : Bool) → p x ≡ b → (position_from p (from + 1) xs ≡ Some i → (j : ℕ) × (i ≡ from + 1 + j) × (j < length xs) × ((d : X) → p (get_or xs j d) ≡ true))
        → (j : ℕ) × (i ≡ from + j) × (j < length (x ∷ xs)) × ((d : X) → p (get_or (x ∷ xs) j d) ≡ true)
    go true f rest =
        let g : Some from ≡ Some i = rw f at e in let same : from ≡ i = same_Some from i g in
        (0, omega (arith, same), omega arith, λ d. f)
    go false f rest =
        let r = rest (rw f at e) in
        (suc r.0, omega (arith, r.1), omega (arith, r.2), r.3)

-- ---- the bits of literals of a few nodes
-- each below 64, of one literal, and beside that of its negation
pub record IsNumbering (bit : Lit → Option ℕ) : Type 0 where
  pub small : (l : Lit) (b : ℕ) → bit l ≡ Some b → b < 64
  pub one : (l m : Lit) (b : ℕ) → bit l ≡ Some b → bit m ≡ Some b → l ≡ m
  pub flips : (l : Lit) (b : ℕ) → bit l ≡ Some b → bit (opposite l) ≡ Some (turned b)

module _ (nodes : List Node) (few : length nodes ≤ 32) where
  abbrev sign_of : Bool → ℕ
  sign_of neg = if neg then 1 else 0

  record IsAt (l : Lit) (b : ℕ) : Type 0 where
    place : ℕ
    found : position (λ n. same_node n l.node) nodes ≡ Some place
    value : b ≡ 2 * place + sign_of l.neg
    within : place < length nodes
    node : get_or nodes place Const ≡ l.node

  is-at : (l : Lit) (b : ℕ) → bit_of nodes l ≡ Some b → IsAt l b
  is-at l b e = go (position (λ n. same_node n l.node) nodes) refl e
    where
      go : (o : Option ℕ) → position (λ n. same_node n l.node) nodes ≡ o → option_map (λ p. 2 * p + sign_of l.neg) o ≡ Some b → IsAt l b
      go None f g = absurd (none-some b g)
      go (Some p) f g =
          let at = position-at (λ n. same_node n l.node) nodes 0 p (sym (position_from-zero (λ n. same_node n l.node) nodes) ∙ f) in
          let same : p ≡ at.0 = omega (arith, at.1) in
          record {
            place = p;
            found = f;
            value = sym (same_Some (2 * p + sign_of l.neg) b g);
            within = omega (arith, at.2, same);
            node = exact-node (get_or nodes p Const) l.node (subst (λ (j : ℕ). same_node (get_or nodes j Const) l.node ≡ true) (sym same) (at.3 Const));
          }

  sign-small : (neg : Bool) → sign_of neg ≤ 1
  sign-small true = omega arith
  sign-small false = omega arith

  same-sign : (x y : Bool) → sign_of x ≡ sign_of y → x ≡ y
  same-sign true true e = refl
  same-sign false false e = refl
  same-sign true false e = absurd (omega (arith, e))
  same-sign false true e = absurd (omega (arith, e))

  lit_of : Node → Bool → Lit
  lit_of n s = record { node = n; neg = s }

  same-parts : (l m : Lit) → l.node ≡ m.node → l.neg ≡ m.neg → l ≡ m
  unfolding lit_of
  same-parts l m e f =
      let first : lit_of l.node l.neg ≡ lit_of m.node l.neg = ap (λ (k : Node). lit_of k l.neg) e in
      let second : lit_of m.node l.neg ≡ lit_of m.node m.neg = ap (λ (u : Bool). lit_of m.node u) f in
      first ∙ second

  turned-one : (p : ℕ) (s : Bool) → 2 * p + sign_of (not s) ≡ turned (2 * p + sign_of s)
  turned-one p true =
      let odd : ((2 * p + 1) % 2 == 0) ≡ false = grind (arith, nat_tests) in
      rw odd (omega arith)
  turned-one p false =
      let even : ((2 * p + 0) % 2 == 0) ≡ true = grind (arith, nat_tests) in
      rw even (omega arith)

  pub numbering : IsNumbering (bit_of nodes)
  numbering = record {
    small = λ l b e. let at = is-at l b e in omega (arith, at.value, at.within, few, sign-small l.neg);
    one = λ l m b e f.
        let x = is-at l b e in
        let y = is-at m b f in
        let place : x.place ≡ y.place = omega (arith, x.value, y.value, sign-small l.neg, sign-small m.neg) in
        let sign : sign_of l.neg ≡ sign_of m.neg = omega (arith, x.value, y.value, place) in
        same-parts l m (sym x.node ∙ ap (λ (p : ℕ). get_or nodes p Const) place ∙ y.node) (same-sign l.neg m.neg sign);
    flips = λ l b e.
        let at = is-at l b e in
        rw at.found (ap Some (turned-one at.place l.neg ∙ ap turned (sym at.value)));
  }

  -- bits of two places are of two nodes
  pub apart-nodes : (x y : Lit) (a b : ℕ) → bit_of nodes x ≡ Some a → bit_of nodes y ≡ Some b → not (a / 2 == b / 2) ≡ true
      → same_node x.node y.node ≡ false
  apart-nodes x y a b e f apart = go (same_node x.node y.node) refl
    where
      go : (t : Bool) → same_node x.node y.node ≡ t → t ≡ false
      go false h = refl
      go true h =
          let p = is-at x a e in
          let q = is-at y b f in
          let same : Some p.place ≡ Some q.place =
          sym p.found ∙ ap (λ (n : Node). position (λ m. same_node m n) nodes) (exact-node x.node y.node h) ∙ q.found in
          let places : p.place ≡ q.place = same_Some p.place q.place same in
          let halves : a / 2 ≡ b / 2 = omega (arith, p.value, q.value, places, sign-small x.neg, sign-small y.neg) in
          let equal : (a / 2 == b / 2) ≡ true = grind (arith, nat_tests, halves) in
          let k : false ≡ true = sym (ap not equal) ∙ apart in cc

-- ---- words
pub bits-none : (bit : Lit → Option ℕ) → AreBits bit [] 0
bits-none bit = record {
  each = λ l b e. ap (λ (x : ℕ). x == 1) (bit_at-zero b);
  have = λ l h. cc;
  only = λ b e. contrary (is_set 0 b) e (ap (λ (x : ℕ). x == 1) (bit_at-zero b));
}

pub marks-none : (bit : Lit → Option ℕ) → AreMarks bit [] (record { yes = 0; no = 0 })
marks-none bit = record {
  small = omega arith;
  yes = λ l b e. ap (λ (x : ℕ). x == 1) (bit_at-zero b);
  no = λ l b e. ap (λ (x : ℕ). x == 1) (bit_at-zero b);
}

module _ (bit : Lit → Option ℕ) (numbering : IsNumbering bit) where
  -- a word with one more bit, which is that of a literal
  put : (f : Lit → Bool) (word new b : ℕ) (l : Lit) → bit l ≡ Some b → Sets word b new
      → ((m : Lit) (c : ℕ) → bit m ≡ Some c → is_set word c ≡ f m) → (m : Lit) (c : ℕ) → bit m ≡ Some c → is_set new c ≡ (f m || same_lit l m)
  put f word new b l at sets each m c e =
      elim (cases_eq c b) [
        | inl same ↦
            let is : l ≡ m = numbering.one l m b at (e ∙ ap Some same) in
            ap (is_set new) same ∙ sets.same ∙ sym (or_right (f m) (same_lit l m) (subst (λ (k : Lit). same_lit l k ≡ true) is (same-lit_self l)))
        | inr other ↦
            sets.other c other ∙ each m c e ∙ sym (alone_left (f m) (same_lit l m) (apart m c e other (same_lit l m) refl))
      ]
    where
      alone_left : (p q : Bool) → q ≡ false → (p || q) ≡ p
      alone_left true q e = refl
      alone_left false q e = e

      apart : (m : Lit) (c : ℕ) → bit m ≡ Some c → c ≢ b → (q : Bool) → same_lit l m ≡ q → same_lit l m ≡ false
      apart m c e other false f = f
      apart m c e other true f =
          let is : l ≡ m = lit_laws.exact l m f in
          absurd (other (same_Some c b (sym e ∙ ap bit (sym is) ∙ at)))

  pub bits-push : (xs : List Lit) (l : Lit) (word new b : ℕ) → AreBits bit xs word → bit l ≡ Some b → Sets word b new → AreBits bit (xs ++ l ∷ []) new
  bits-push xs l word new b is at sets = record {
    each = λ m c e. put (has same_lit xs) word new b l at sets is.each m c e ∙ sym (pushed xs l m);
    have = λ m h. go m (or_cases _ _ (sym (has-append lit_laws xs (l ∷ []) m) ∙ h));
    only = λ c e. bits c e;
  }
    where
      pushed : (ys : List Lit) (k m : Lit) → has same_lit (ys ++ k ∷ []) m ≡ (has same_lit ys m || same_lit k m)
      pushed ys k m = has-append lit_laws ys (k ∷ []) m ∙ ap (λ (q : Bool). has same_lit ys m || q) (last (same_lit k m))
        where
          last : (q : Bool) → (q || false) ≡ q
          last true = refl
          last false = refl

      go : (m : Lit) → (has same_lit xs m ≡ true) ⊎ (has same_lit (l ∷ []) m ≡ true) → (c : ℕ) × (bit m ≡ Some c)
      go m (inl h) = is.have m h
      go m (inr h) = (b, subst (λ (k : Lit). bit k ≡ Some b) (lit_laws.exact l m (alone _ h)) at)

      bits : (c : ℕ) → is_set new c ≡ true → (m : Lit) × (bit m ≡ Some c)
      bits c e =
          elim (cases_eq c b) [
            | inl same ↦ (l, at ∙ ap Some (sym same))
            | inr other ↦ is.only c (sym (sets.other c other) ∙ e)
          ]

  negated : (x y : Lit) → same_lit x (opposite y) ≡ same_lit (opposite x) y
  negated x y = go (same_lit x (opposite y)) (same_lit (opposite x) y) refl refl
    where
      go : (p q : Bool) → same_lit x (opposite y) ≡ p → same_lit (opposite x) y ≡ q → p ≡ q
      go true true e f = refl
      go false false e f = refl
      go true false e f =
          let is : x ≡ opposite y = lit_laws.exact x (opposite y) e in
          let back : opposite x ≡ y = ap opposite is ∙ lit_laws.twice y in
          contrary _ (subst (λ (k : Lit). same_lit (opposite x) k ≡ true) back (same-lit_self (opposite x))) f
      go false true e f =
          let is : opposite x ≡ y = lit_laws.exact (opposite x) y f in
          let back : x ≡ opposite y = sym (lit_laws.twice x) ∙ ap opposite is in
          contrary _ (subst (λ (k : Lit). same_lit x k ≡ true) back (same-lit_self x)) e

  -- one more literal is true
  pub marks-push : (set : List Lit) (l : Lit) (marks new : Marks) (b : ℕ) → AreMarks bit set marks → bit l ≡ Some b
      → Sets marks.yes b new.yes → Sets marks.no (turned b) new.no → new.no < 2 ^ 64 → AreMarks bit (set ++ l ∷ []) new
  marks-push set l marks new b is at sets_true sets_false small = record {
    small = small;
    yes = λ m c e. put (has same_lit set) marks.yes new.yes b l at sets_true is.yes m c e ∙ sym (pushed m);
    no = λ m c e.
        put (λ k. has same_lit set (opposite k)) marks.no new.no (turned b) (opposite l) (numbering.flips l b at) sets_false is.no m c e
        ∙ ap (λ (q : Bool). has same_lit set (opposite m) || q) (sym (negated l m)) ∙ sym (pushed (opposite m));
  }
    where
      pushed : (m : Lit) → has same_lit (set ++ l ∷ []) m ≡ (has same_lit set m || same_lit l m)
      pushed m = has-append lit_laws set (l ∷ []) m ∙ ap (λ (q : Bool). has same_lit set m || q) (last (same_lit l m))
        where
          last : (q : Bool) → (q || false) ≡ q
          last true = refl
          last false = refl

  -- no bit
  pub word-empty : (word : ℕ) → AreBits bit [] word → word ≡ 0
  word-empty word is = same_from_bits word 0 (λ i. go i (is_set word i) refl)
    where
      go : (i : ℕ) (b : Bool) → is_set word i ≡ b → bit_at word i ≡ bit_at 0 i
      go i false e = set-none word i e ∙ sym (bit_at-zero i)
      go i true e =
          let at = is.only i e in
          contrary _ e (is.each at.0 i at.1)

  -- one bit
  word-one : (word b : ℕ) (l : Lit) → AreBits bit (l ∷ []) word → bit l ≡ Some b → word ≡ 2 ^ b
  word-one word b l is at = same_from_bits word (2 ^ b) (λ i. go i (is_set word i) refl)
    where
      here : is_set word b ≡ true
      here = is.each l b at ∙ or_left _ _ (same-lit_self l)

      go : (i : ℕ) (q : Bool) → is_set word i ≡ q → bit_at word i ≡ bit_at (2 ^ b) i
      go i true e =
          let at_i = is.only i e in
          let same : l ≡ at_i.0 = lit_laws.exact l at_i.0 (alone _ (sym (is.each at_i.0 i at_i.1) ∙ e)) in
          let places : b ≡ i = same_Some b i (sym at ∙ ap bit same ∙ at_i.1) in
          set-one word i e ∙ sym (ap (bit_at (2 ^ b)) (sym places) ∙ bit_at-pow_same b)
      go i false e = set-none word i e ∙ sym (bit_at-pow_other b i (λ same. contrary _ here (ap (is_set word) (sym same) ∙ e)))

  -- the lowest bit of a word of one
  lowest : (b : ℕ) → b < 64 → trailing_zeros w64 (2 ^ b) ≡ b
  lowest b within =
      let found = bit_at-trailing_zeros w64 (2 ^ b) (pow_pos b) (pow_below b 64 within) in
      elim (cases_eq (trailing_zeros w64 (2 ^ b)) b) [
        | inl same ↦ same
        | inr other ↦
            let none = bit_at-pow_other b (trailing_zeros w64 (2 ^ b)) other in
            absurd (omega (arith, none, found.1))
      ]

  pub lowest-one : (word b : ℕ) (l : Lit) → AreBits bit (l ∷ []) word → bit l ≡ Some b → trailing_zeros w64 word ≡ b
  lowest-one word b l is at = ap (trailing_zeros w64) (word-one word b l is at) ∙ lowest b (numbering.small l b at)

  -- ---- what the marks leave of a clause
  module _ (set : List Lit) (marks : Marks) (are : AreMarks bit set marks) where
    has-open : (clause : List Lit) (l : Lit) → has same_lit (open_in same_lit opposite set clause) l ≡ (has same_lit clause l && not (has same_lit set (opposite l)))
    has-open clause l =
        has-firsts lit_laws (filter (λ m. not (has same_lit set (opposite m))) clause) l
        ∙ has-filter lit_laws (λ m. not (has same_lit set (opposite m))) clause l

    pub open-bits : (clause : List Lit) (word : ℕ) → AreBits bit clause word → AreBits bit (open_in same_lit opposite set clause) (open_word marks word)
    open-bits clause word is = record {
      each = λ l b e.
          let free : is_set (bit_not w64 marks.no) b ≡ not (has same_lit set (opposite l)) =
          not-set marks.no b are.small (numbering.small l b e) ∙ ap not (are.no l b e) in
          and-set word (bit_not w64 marks.no) b ∙ ap (λ (p : Bool). p && is_set (bit_not w64 marks.no) b) (is.each l b e)
          ∙ ap (λ (q : Bool). has same_lit clause l && q) free ∙ sym (has-open clause l);
      have = λ l h. is.have l (and_parts _ _ (sym (has-open clause l) ∙ h)).0;
      only = λ b e. is.only b (and_parts _ _ (sym (and-set word (bit_not w64 marks.no) b) ∙ e)).0;
    }

    single-none : (word : ℕ) → AreBits bit [] word → is_single word ≡ true
    single-none word is = rw (word-empty word is) refl

    single-one : (word b : ℕ) (l : Lit) → AreBits bit (l ∷ []) word → bit l ≡ Some b → is_single word ≡ true
    single-one word b l is at =
        let same = word-one word b l is at in
        let low : word ≡ 2 ^ trailing_zeros w64 word = same ∙ ap (λ (k : ℕ). 2 ^ k) (sym (lowest-one word b l is at)) in
        or_right (word == 0) (word == 2 ^ trailing_zeros w64 word) (grind (arith, nat_tests, low))

    -- two bits
    single-more : (word : ℕ) (l m : Lit) (ls : List Lit) → AreBits bit (l ∷ m ∷ ls) word → same_lit l m ≡ false → is_single word ≡ false
    single-more word l m ls is apart = go (is_single word) refl
      where
        at_l : (b : ℕ) × (bit l ≡ Some b)
        at_l = is.have l (has-head lit_laws l (m ∷ ls))

        at_m : (b : ℕ) × (bit m ≡ Some b)
        at_m = is.have m (or_right (same_lit l m) _ (has-head lit_laws m ls))

        set_l : bit_at word at_l.0 ≡ 1
        set_l = set-one word at_l.0 (is.each l at_l.0 at_l.1 ∙ has-head lit_laws l (m ∷ ls))

        set_m : bit_at word at_m.0 ≡ 1
        set_m = set-one word at_m.0 (is.each m at_m.0 at_m.1 ∙ or_right (same_lit l m) _ (has-head lit_laws m ls))

        -- a bit of a power of two
        only : (k b : ℕ) → word ≡ 2 ^ k → bit_at word b ≡ 1 → b ≡ k
        only k b e f =
            elim (cases_eq b k) [
              | inl same ↦ same
              | inr other ↦
                  let none = bit_at-pow_other k b other in
                  absurd (omega (arith, none, sym (ap (λ (w : ℕ). bit_at w b) e) ∙ f))
            ]

        go : (q : Bool) → is_single word ≡ q → is_single word ≡ false
        go false e = e
        go true e =
            elim (or_cases (word == 0) (word == 2 ^ trailing_zeros w64 word) e) [
              | inl f ↦
                  let zero_word : word ≡ 0 = grind (arith, nat_tests, f) in
                  absurd (omega (arith, set_l, ap (λ (w : ℕ). bit_at w at_l.0) zero_word ∙ bit_at-zero at_l.0))
              | inr f ↦
                  let power : word ≡ 2 ^ trailing_zeros w64 word = grind (arith, nat_tests, f) in
                  let first = only (trailing_zeros w64 word) at_l.0 power set_l in
                  let second = only (trailing_zeros w64 word) at_m.0 power set_m in
                  let is_one : l ≡ m = numbering.one l m at_l.0 at_l.1 (at_m.1 ∙ ap Some (second ∙ sym first)) in
                  contrary _ (subst (λ (k : Lit). same_lit l k ≡ true) is_one (same-lit_self l)) apart
            ]

    firsts-apart : (xs : List Lit) (l m : Lit) (ls : List Lit) → firsts same_lit xs ≡ l ∷ m ∷ ls → same_lit l m ≡ false
    firsts-apart [] l m ls e = cc
    firsts-apart (x ∷ xs) l m ls e =
        let head : x ≡ l = cc in
        let rest : filter (λ y. not (same_lit x y)) (firsts same_lit xs) ≡ m ∷ ls = cc in
        let there : has same_lit (filter (λ y. not (same_lit x y)) (firsts same_lit xs)) m ≡ true =
        ap (λ (ys : List Lit). has same_lit ys m) rest ∙ has-head lit_laws m ls in
        let other = and_parts _ _ (sym (has-filter lit_laws (λ y. not (same_lit x y)) (firsts same_lit xs) m) ∙ there) in
        subst (λ (k : Lit). same_lit k m ≡ false) head (not-true (same_lit x m) other.1)

    -- the marks ask as the set does
    pub asks-same : (clause : List Lit) (word : ℕ) → AreBits bit clause word → asks_word marks word ≡ is_asking set (open_in same_lit opposite set clause)
    asks-same clause word is = go (open_in same_lit opposite set clause) refl (open-bits clause word is)
      where
        go : (os : List Lit) → open_in same_lit opposite set clause ≡ os → AreBits bit os (open_word marks word) → asks_word marks word ≡ is_asking set os
        go [] e bits =
            let nothing = word-empty (open_word marks word) bits in
            let empty : bit_and marks.yes 0 ≡ 0 = omega (arith, and_le_r marks.yes 0) in
            rw (nothing, empty) refl
        go (l ∷ []) e bits =
            let at = bits.have l (has-head lit_laws l []) in
            let one = word-one (open_word marks word) at.0 l bits at.1 in
            let single = single-one (open_word marks word) at.0 l bits at.1 in
            ap (λ (q : Bool). bit_and marks.yes (open_word marks word) == 0 && q) single
            ∙ right (bit_and marks.yes (open_word marks word) == 0)
            ∙ ap (λ (w : ℕ). bit_and marks.yes w == 0) one ∙ ap (λ (w : ℕ). w == 0) (and_pow marks.yes at.0)
            ∙ truth l at.0 at.1 (has same_lit set l) refl
          where
            right : (q : Bool) → (q && true) ≡ q
            right true = refl
            right false = refl

            truth : (m : Lit) (b : ℕ) → bit m ≡ Some b → (q : Bool) → has same_lit set m ≡ q → (bit_at marks.yes b * 2 ^ b == 0) ≡ not (has same_lit set m)
            truth m b f true h =
                let set_is = set-one marks.yes b (are.yes m b f ∙ h) in
                let positive : (1 * 2 ^ b == 0) ≡ false = grind (arith, nat_tests, pow_pos b) in
                rw (h, set_is) positive
            truth m b f false h =
                let set_is = set-none marks.yes b (are.yes m b f ∙ h) in
                let nothing : (0 * 2 ^ b == 0) ≡ true = grind (arith, nat_tests) in
                rw (h, set_is) nothing
        go (l ∷ m ∷ ls) e bits =
            let more = single-more (open_word marks word) l m ls bits (firsts-apart (filter (λ k. not (has same_lit set (opposite k))) clause) l m ls e) in
            ap (λ (q : Bool). bit_and marks.yes (open_word marks word) == 0 && q) more ∙ right (bit_and marks.yes (open_word marks word) == 0)
          where
            right : (q : Bool) → (q && false) ≡ false
            right true = refl
            right false = refl

-- ---- what follows for a word of literals
pub word-filled : (bit : Lit → Option ℕ) (l : Lit) (ls : List Lit) (word : ℕ) → AreBits bit (l ∷ ls) word → (word == 0) ≡ false
word-filled bit l ls word is = go (word == 0) refl
  where
    at : (b : ℕ) × (bit l ≡ Some b)
    at = is.have l (has-head lit_laws l ls)

    go : (q : Bool) → (word == 0) ≡ q → (word == 0) ≡ false
    go false e = e
    go true e =
        let nothing : word ≡ 0 = grind (arith, nat_tests, e) in
        contrary (is_set word at.0) (is.each l at.0 at.1 ∙ has-head lit_laws l ls)
        (ap (λ (w : ℕ). is_set w at.0) nothing ∙ ap (λ (x : ℕ). x == 1) (bit_at-zero at.0))

pub bits-next : (nodes : List Node) → length nodes ≤ 32 → (lits : List Lit) (i : ℕ) (d : Lit) (word new b : ℕ) → i < length lits
    → AreBits (bit_of nodes) (take i lits) word → bit_of nodes (get_or lits i d) ≡ Some b → Sets word b new
    → AreBits (bit_of nodes) (take (i + 1) lits) new
bits-next nodes few lits i d word new b within is at sets =
    subst (λ (ls : List Lit). AreBits (bit_of nodes) ls new) (sym (take_next lits i (get_or lits i d) (slice_get-get_or lits i d within)))
    (bits-push (bit_of nodes) (numbering nodes few) (take i lits) (get_or lits i d) word new b is at sets)
