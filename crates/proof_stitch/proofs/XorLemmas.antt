-- The literals of the XORs by number: they differ, and the miter's last clause has them all.
use Rattle.std.proofs.Common.{◌≡◌, ℕ, zero, suc, ◌+◌, ◌-◌, ◌<◌, ◌≤◌, Bool, true, false, eqb, Some, List, [], ◌∷◌, ◌++◌, length, map, refl, sym, ap, ◌∙◌, subst, arith, length-append}
use Rattle.std.specs.Prelude.{slice_get, option_map}
use Rattle.std.specs.List.{list_any, range_with_len, AllByRecursion}
use Rattle.std.proofs.lemmas.List.{length-map}
use Rattle.std.proofs.lemmas.List.FromFn.{map-range_with_len_more}
use Rattle.std.proofs.lemmas.Option.{slice_get-map}
use Rattle.std.proofs.lemmas.Bool.{false_from_ne_true}
use Rattle.lits.specs.Clause.{has}
use Rattle.lits.specs.Dimacs.{DimacsLiteral}
use Rattle.lits.specs.declared.node.Node.TheVariants.{Xor}
use Rattle.lits.specs.declared.literal.Lit.{Lit}
use Rattle.lits.proofs.Facts.{dim_laws, exact-lit, list_any-map, all-map, list_any-more}
use Rattle.netlist.specs.Net.{AigPair}
use Rattle.netlist.specs.Miter.{positive, negative, defining_clauses, units_of, xors_of, clauses_of, numbered, miter_of}
use Rattle.lits.specs.Same.{same_lit, same_dim, opposite_dim}
use Rattle.netlist.proofs.Facts.{slice_get-left, slice_get-right, equal-number, range-has, has-xor, numbered-same}
use Rattle.lrat_text.specs.Derivation.{formula_live}
use Rattle.proof_stitch.proofs.AxiomLemmas.{there}
use Rattle.proof_stitch.proofs.GrowLemmas.{Formula, live-is}
use Rattle.proof_stitch.proofs.StepLemmas.{HasMiter}
use Rattle.proof_stitch.proofs.EmptyLemmas.{AreFresh}

-- no number of a range passes
none-in : (test : ℕ → Bool) (a n m : ℕ) → ((i : ℕ) → i < m → test i ≡ false) → a + n ≤ m → list_any test (range_with_len a n) ≡ false
none-in test a zero m none le = refl
none-in test a (suc n) m none le = rw (none a (omega arith), none-in test (a + 1) n m none (omega arith)) refl

-- a fact of all numbers below a bound holds of a range below it
pub all-in : (P : ℕ → Type 0) (a n m : ℕ) → ((i : ℕ) → i < m → P i) → a + n ≤ m → AllByRecursion P (range_with_len a n)
all-in P a zero m all le = tt
all-in P a (suc n) m all le = (all a (omega arith), all-in P (a + 1) n m all (omega arith))

-- the miter has a clause
pub miter-some : (net : AigPair) → 1 ≤ length (miter_of net)
miter-some net =
    omega (
      arith,
      length-map (clauses_of net) (λ (c : List Lit). map (numbered net) c),
      length-append (defining_clauses net ++ units_of net) (map positive (xors_of net) ∷ []),
    )

module _ (net : AigPair) where
  -- the number of the literal that says that the outputs are equal
  abbrev pub equal_number : ℕ → DimacsLiteral
  equal_number j = numbered net (negative (Xor j))

  abbrev count : ℕ
  count = length net.a.outputs

  xor-there : (j : ℕ) → j < count → there net (Xor j) ≡ true
  xor-there j below = has-xor net j ∙ range-has 0 count j (omega arith) (omega arith)

  -- the numbers differ
  differ : (i j : ℕ) → i < count → j < count → (i ≡ j → ⊥) → same_dim (equal_number i) (equal_number j) ≡ false
  differ i j li lj apart =
      numbered-same net (negative (Xor i)) (negative (Xor j)) (xor-there i li) (xor-there j lj)
      ∙ false_from_ne_true (same_lit (negative (Xor i)) (negative (Xor j)))
      (λ e. let same : negative (Xor i) ≡ negative (Xor j) = exact-lit (negative (Xor i)) (negative (Xor j)) e in
      let node : Xor i ≡ Xor j = ap (λ (l : Lit). l.node) same in
      apart cc)

  -- and none is the negation of another
  opposed : (i j : ℕ) → same_dim (equal_number i) (opposite_dim (equal_number j)) ≡ false
  opposed i j =
      false_from_ne_true (same_dim (equal_number i) (opposite_dim (equal_number j)))
      (λ e. let same = dim_laws.exact (equal_number i) (opposite_dim (equal_number j)) e in
      let sign : true ≡ false = ap (λ (d : DimacsLiteral). d.neg) same in cc)

  abbrev pub numbers : ℕ → ℕ → List DimacsLiteral
  numbers a n = map equal_number (range_with_len a n)

  pub numbers-fresh : (n a : ℕ) → a + n ≡ count → AreFresh same_dim opposite_dim (numbers 0 a) (numbers a n)
  numbers-fresh zero a e = tt
  numbers-fresh (suc n) a e = (
    list_any-map (λ y. same_dim y (equal_number a)) equal_number (range_with_len 0 a)
        ∙ none-in (λ i. same_dim (equal_number i) (equal_number a)) 0 a a
        (λ i below. differ i a (omega arith) (omega arith) (λ (same : i ≡ a). omega arith)) (omega arith),
    list_any-map (λ y. same_dim y (opposite_dim (equal_number a))) equal_number (range_with_len 0 a)
        ∙ none-in (λ i. same_dim (equal_number i) (opposite_dim (equal_number a))) 0 a a (λ i below. opposed i a) (omega arith),
    subst (λ (set : List DimacsLiteral). AreFresh same_dim opposite_dim set (numbers (a + 1) n))
        (map-range_with_len_more equal_number 0 a a (omega arith))
        (numbers-fresh n (a + 1) (omega arith)),
  )

  abbrev pub all_numbers : List DimacsLiteral
  all_numbers = numbers 0 count

  pub numbers-apart : AllByRecursion (λ y. has same_dim all_numbers (opposite_dim y) ≡ false) all_numbers
  numbers-apart =
      all-map (λ y. has same_dim all_numbers (opposite_dim y) ≡ false) equal_number (range_with_len 0 count)
      (all-in (λ j. has same_dim all_numbers (opposite_dim (equal_number j)) ≡ false) 0 count count
      (λ j below. list_any-map (λ y. same_dim y (opposite_dim (equal_number j))) equal_number (range_with_len 0 count)
      ∙ none-in (λ i. same_dim (equal_number i) (opposite_dim (equal_number j))) 0 count count (λ i l. opposed i j) (omega arith))
      (omega arith))

  pub numbers-inside : AllByRecursion (λ y. has same_dim all_numbers (opposite_dim (opposite_dim y)) ≡ true) all_numbers
  numbers-inside =
      all-map (λ y. has same_dim all_numbers (opposite_dim (opposite_dim y)) ≡ true) equal_number (range_with_len 0 count)
      (all-in (λ j. has same_dim all_numbers (opposite_dim (opposite_dim (equal_number j))) ≡ true) 0 count count
      (λ j below. subst (λ (y : DimacsLiteral). has same_dim all_numbers y ≡ true) (sym (dim_laws.twice (equal_number j))) (here j below))
      (omega arith))
    where
      here : (j : ℕ) → j < count → has same_dim all_numbers (equal_number j) ≡ true
      here j below =
          list_any-map (λ y. same_dim y (equal_number j)) equal_number (range_with_len 0 count)
          ∙ list_any-more (λ i. eqb i j) (λ i. same_dim (equal_number i) (equal_number j)) (range_with_len 0 count)
          (λ i e. subst (λ (k : ℕ). same_dim (equal_number k) (equal_number j) ≡ true) (sym (equal-number i j e)) (dim_laws.equivalence.refl (equal_number j)))
          (range-has 0 count j (omega arith) (omega arith))

  -- the last clause, by numbers
  negations : (ks : List ℕ) → map (numbered net) (map positive (map Xor ks)) ≡ map opposite_dim (map equal_number ks)
  negations [] = refl
  negations (k ∷ ks) = ap (λ (l : List DimacsLiteral). numbered net (positive (Xor k)) ∷ l) (negations ks)

  pub last-live : (formula : Formula) → HasMiter net formula
      → formula_live formula (length (miter_of net)) ≡ Some (map opposite_dim all_numbers)
  last-live formula begins =
      live-is formula (length (miter_of net)) (omega (arith, whole))
      ∙ ap (λ (f : Formula). slice_get f (length (miter_of net) - 1)) begins.is
      ∙ ap (slice_get (miter_of net ++ begins.more)) place
      ∙ slice_get-left (miter_of net) begins.more (length front + 0) (omega (arith, whole))
      ∙ slice_get-map (λ (c : List Lit). map (numbered net) c) (clauses_of net) (length front + 0)
      ∙ ap (option_map (λ (c : List Lit). map (numbered net) c)) (slice_get-right front (map positive (xors_of net) ∷ []) 0)
      ∙ ap (λ (c : List DimacsLiteral). Some c) (negations (range_with_len 0 count))
    where
      front : List (List Lit)
      front = defining_clauses net ++ units_of net

      whole : length (miter_of net) ≡ length front + 1
      whole = length-map (clauses_of net) (λ (c : List Lit). map (numbered net) c) ∙ length-append front (map positive (xors_of net) ∷ [])

      place : length (miter_of net) - 1 ≡ length front + 0
      place = omega (arith, whole)
