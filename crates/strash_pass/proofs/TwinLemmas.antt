-- What a gate is found to be: what its fanins' roots fold to, else its earliest twin. Gates that are plain have one twin
-- at most among those that aren't merged.
use Rattle.std.proofs.Common.{◌≡◌, ℕ, zero, suc, ◌+◌, ◌<◌, Bool, true, false, not, ◌&&◌, ◌||◌, Option, Some, None, List, [], ◌∷◌, ◌++◌, length, take, refl, sym, ap, ◌∙◌, arith, ◌⊎◌, inl, inr}
use Rattle.std.specs.Prelude.{slice_get, is_some}
use Rattle.std.specs.List.{find}
use Rattle.std.specs.Option.{option_map, option_map_or}
use Rattle.std.proofs.lemmas.Option.{none-some, same_Some}
use Rattle.std.proofs.lemmas.Bool.{and_parts, or_cases, or_right}
use Rattle.lits.specs.declared.literal.Lit.{Lit}
use Rattle.lits.specs.Same.{same_lit}
use Rattle.lits.proofs.Facts.{exact-lit, same-lit_self}
use Rattle.netlist.specs.declared.gate.Definition.{Definition}
use Rattle.netlist.specs.Net.{AigPair, IsNet, definitions}
use Rattle.netlist.specs.Miter.{positive}
use Rattle.lemma_book.specs.declared.entry.Entry.{Entry}
use Rattle.lemma_book.specs.Root.{MergeAt, merge_of, root_of, IsRoot}
use Rattle.strash_pass.specs.Strash.{folded, AreTwins, ArePlainBelow, constant_among, finding_of, is_twin, twin_of, way_of}
use Rattle.strash_pass.specs.Pass.{IsTwin}
use Rattle.strash_pass.proofs.GateFacts.{is-gate}

-- the first that passes, among those before a place
find-first : {X : Type 0} (test : X → Bool) (xs : List X) (n i : ℕ) (x : X) → i < n → slice_get xs i ≡ Some x → test x ≡ true
    → ((j : ℕ) (y : X) → j < i → slice_get xs j ≡ Some y → test y ≡ false) → find test (take n xs) ≡ Some x
find-first test xs zero i x below at e before = absurd (omega (arith, below))
find-first test [] (suc n) i x below at e before = absurd (none-some x at)
find-first test (y ∷ ys) (suc n) zero x below at e before =
    let t : test y ≡ true = ap test (same_Some y x at) ∙ e in rw t at
find-first test (y ∷ ys) (suc n) (suc i) x below at e before =
    rw (before 0 y (omega arith) refl)
    (find-first test ys n i x (omega (arith, below)) at e (λ j z l here. before (suc j) z (omega (arith, l)) here))

-- pairs that are one in either order
pair-found : (a b x y : Lit) → ((x ≡ a) × (y ≡ b)) ⊎ ((x ≡ b) × (y ≡ a))
    → ((same_lit x a && same_lit y b) || (same_lit x b && same_lit y a)) ≡ true
pair-found a b x y (inl s) = rw (s.0, s.1, same-lit_self a, same-lit_self b) refl
pair-found a b x y (inr s) =
    or_right (same_lit x a && same_lit y b) (same_lit x b && same_lit y a) (rw (s.0, s.1, same-lit_self a, same-lit_self b) refl)

pair-is : (a b x y : Lit) → ((same_lit x a && same_lit y b) || (same_lit x b && same_lit y a)) ≡ true
    → ((x ≡ a) × (y ≡ b)) ⊎ ((x ≡ b) × (y ≡ a))
pair-is a b x y e =
    elim (or_cases (same_lit x a && same_lit y b) (same_lit x b && same_lit y a) e) [
      | inl f ↦ let p = and_parts (same_lit x a) (same_lit y b) f in inl (exact-lit x a p.0, exact-lit y b p.1)
      | inr f ↦ let p = and_parts (same_lit x b) (same_lit y a) f in inr (exact-lit x b p.0, exact-lit y a p.1)
    ]

not-some : (o : Option MergeAt) → not (is_some o) ≡ true → o ≡ None
not-some None e = refl
not-some (Some m) e = let f : false ≡ true = e in cc

not-some_back : (o : Option MergeAt) → o ≡ None → not (is_some o) ≡ true
not-some_back None e = refl
not-some_back (Some m) e = absurd (none-some m (sym e))

and-both : (a b : Bool) → a ≡ true → b ≡ true → (a && b) ≡ true
and-both a b e f = rw (e, f) refl

module _ (es : List Entry) (d : Definition) where
  twin-found : (c : Definition) → IsRoot es c.node → AreTwins es c d → is_twin es d c ≡ true
  twin-found c root twins =
      and-both (not (is_some (merge_of es c.node))) _ (not-some_back (merge_of es c.node) root)
      (pair-found (root_of es d.left) (root_of es d.right) (root_of es c.left) (root_of es c.right) twins)

  found-twin : (c : Definition) → is_twin es d c ≡ true → IsRoot es c.node × AreTwins es c d
  found-twin c e =
      let p = and_parts (not (is_some (merge_of es c.node))) _ e in (
        not-some (merge_of es c.node) p.0,
        pair-is (root_of es d.left) (root_of es d.right) (root_of es c.left) (root_of es c.right) p.1,
      )

  -- two twins of a gate are each other's
  twins-join : (x y : Definition) → AreTwins es x d → AreTwins es y d → AreTwins es x y
  twins-join x y (inl s) (inl t) = inl (s.0 ∙ sym t.0, s.1 ∙ sym t.1)
  twins-join x y (inl s) (inr t) = inr (s.0 ∙ sym t.1, s.1 ∙ sym t.0)
  twins-join x y (inr s) (inl t) = inr (s.0 ∙ sym t.1, s.1 ∙ sym t.0)
  twins-join x y (inr s) (inr t) = inl (s.0 ∙ sym t.0, s.1 ∙ sym t.1)

-- a twin among plain gates is the earliest one
pub twin-first : (net : AigPair) → IsNet net → (es : List Entry) (n : ℕ) (c d : Definition) → slice_get (definitions net) n ≡ Some d
    → ArePlainBelow net es n → IsTwin net es c d → twin_of net es n d ≡ Some c
twin-first net is es n c d at plain twin =
    find-first (is_twin es d) (definitions net) n twin.first c below twin.at_first (twin-found es d c twin.unmerged twin.twins) none
  where
    second : twin.second ≡ n
    second =
        let e = same_Some (1 + length net.a.inputs + twin.second) (1 + length net.a.inputs + n)
        (sym (is-gate net is twin.second d twin.at_second).node ∙ (is-gate net is n d at).node) in
        omega (arith, e)

    below : twin.first < n
    below = omega (arith, second, twin.earlier)

    none : (j : ℕ) (e : Definition) → j < twin.first → slice_get (definitions net) j ≡ Some e → is_twin es d e ≡ false
    none j e earlier here = go (is_twin es d e) refl
      where
        go : (b : Bool) → is_twin es d e ≡ b → b ≡ false
        go false f = refl
        go true f =
            let other = found-twin es d e f in
            let apart = (plain twin.first c below twin.at_first twin.unmerged).1 in
            absurd (apart j e earlier here other.0 (twins-join es d e c other.1 twin.twins))

some-found : {X Y : Type 0} (f : X → Y) (o : Option X) (x : X) (y : Y) → o ≡ Some x → option_map_or f o y ≡ f x
some-found f o x y e = ap (λ p. option_map_or f p y) e

none-found : {X Y : Type 0} (f : X → Y) (o : Option X) (y : Y) → o ≡ None → option_map_or f o y ≡ y
none-found f o y e = ap (λ p. option_map_or f p y) e

module _ (net : AigPair) (es : List Entry) (n : ℕ) (d : Definition) where
  pub finding-fold : (t : Lit) → folded (root_of es d.left) (root_of es d.right) ≡ Some t
      → finding_of net es n d
      ≡ Some (record { target = t; way = way_of es d ++ constant_among (root_of es d.left) (root_of es d.right) t })
  finding-fold t e = some-found _ (folded (root_of es d.left) (root_of es d.right)) t _ e

  pub finding-twin : (c : Definition) → folded (root_of es d.left) (root_of es d.right) ≡ None → twin_of net es n d ≡ Some c
      → finding_of net es n d ≡ Some (record { target = positive c.node; way = way_of es d ++ way_of es c })
  finding-twin c e f =
      none-found _ (folded (root_of es d.left) (root_of es d.right)) _ e
      ∙ ap (λ (o : Option Definition). option_map (λ x. record { target = positive x.node; way = way_of es d ++ way_of es x }) o) f
