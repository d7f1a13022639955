-- The pair of a new clause guards it.
use Rattle.std.proofs.Common.{◌≡◌, ◌≢◌, ℕ, ◌<◌, ◌≤◌, true, false, ◌||◌, List, [], ◌∷◌, length, refl, sym, ◌∙◌, subst, arith, take, nat_eq, ◌⊎◌, inl, inr}
use Rattle.std.proofs.lemmas.List.{take_all}
use Rattle.std.proofs.lemmas.Bool.{or_cases, or_left, or_right}
use Rattle.lits.specs.Clause.{has}
use Rattle.unit_prop.specs.Closure.{forces, is_negated}
use Rattle.unit_prop.proofs.Facts.{contrary, all-true}
use Rattle.watch_lists.specs.Codes.{flip}
use Rattle.watch_lists.specs.State.{height, Guards, IsBest, AsksNothing, is_met}
use Rattle.watch_lists.specs.declared.engine.Pair.{Pair}
use Rattle.watch_lists.proofs.FlipLemmas.{is_literal-flip, same_exact}
use Rattle.watch_lists.proofs.VisitLemmas.{met-by}
use Rattle.watch_lists.proofs.HeightLemmas.{height-below, below-height}

module _ {trail clause : List ℕ} {pair : Pair} (best : IsBest trail clause pair) where
  -- up to n all others of the clause are negated, if its second is
  pub others-negated : (n : ℕ) → n ≤ length trail → height trail pair.second < n → (m : ℕ) → has nat_eq clause m ≡ true
      → (m ≡ pair.first) ⊎ (has nat_eq (take n trail) (flip m) ≡ true)
  others-negated n most below m inside = elim (best.rest m inside) [
    | inl same ↦ inl same
    | inr less ↦ inr (below-height trail m n most (omega arith))
  ]

  pub second-forces : (n : ℕ) → n ≤ length trail → height trail pair.second < n → forces nat_eq flip (has nat_eq (take n trail)) clause pair.first ≡ true
  second-forces n most below = all-true is_literal-flip (λ m. nat_eq m pair.first || has nat_eq (take n trail) (flip m)) clause (λ m inside. elim (others-negated n most below m inside) [
    | inl same ↦ or_left _ _ (subst (λ (z : ℕ). nat_eq m z ≡ true) same (is_literal-flip.equivalence.refl m))
    | inr f ↦ or_right (nat_eq m pair.first) _ f
  ])

  pub alone-forces : (set : List ℕ) → pair.first ≡ pair.second → forces nat_eq flip (has nat_eq set) clause pair.first ≡ true
  alone-forces set same = all-true is_literal-flip (λ m. nat_eq m pair.first || has nat_eq set (flip m)) clause (λ m inside.
      or_left _ _ (subst (λ (z : ℕ). nat_eq m z ≡ true) (best.alone same m inside) (is_literal-flip.equivalence.refl m)))

  -- the first is false: all are
  pub first-negates : has nat_eq trail (flip pair.first) ≡ true → is_negated flip (has nat_eq trail) clause ≡ true
  first-negates h =
      let n = length trail in
      let all : take n trail ≡ trail = take_all n trail (omega arith) in
      let below : height trail pair.first < n = height-below trail pair.first n (subst (λ (z : List ℕ). has nat_eq z (flip pair.first) ≡ true) (sym all) h) in
      let order = best.order in
      all-true is_literal-flip (λ m. has nat_eq trail (flip m)) clause (λ m inside. elim (others-negated n (omega arith) (omega arith) m inside) [
        | inl same ↦ subst (λ (z : ℕ). has nat_eq trail (flip z) ≡ true) (sym same) h
        | inr f ↦ subst (λ (z : List ℕ). has nat_eq z (flip m) ≡ true) all f
      ])

  -- at a level below the last, where the clause asks for nothing
  pub best-bounds : (h s : ℕ) → h ≤ s → s ≤ length trail → AsksNothing (take s trail) clause → Guards (take h trail) (take s trail) clause pair
  best-bounds h s before most quiet = record {
    first_in = best.first_in;
    second_in = best.second_in;
    first_kept = λ e. let b = height-below trail pair.first h e in let order = best.order in met (second-forces s most (omega arith));
    second_kept = λ e. met (second-forces s most (let b = height-below trail pair.second h e in omega arith));
    alone = λ h. met (alone-forces (take s trail) (same_exact pair.first pair.second h));
  }
    where
      met : forces nat_eq flip (has nat_eq (take s trail)) clause pair.first ≡ true → is_met (take s trail) clause ≡ true
      met f = met-by (take s trail) clause pair.first best.first_in (quiet.1 pair.first best.first_in f)

-- where the first is true, or neither is false
pub guards-met : (past now clause : List ℕ) (pair : Pair) → has nat_eq clause pair.first ≡ true → has nat_eq clause pair.second ≡ true → has nat_eq now pair.first ≡ true → Guards past now clause pair
guards-met past now clause pair a b h = record {
  first_in = a;
  second_in = b;
  first_kept = λ _. met-by now clause pair.first a h;
  second_kept = λ _. met-by now clause pair.first a h;
  alone = λ _. met-by now clause pair.first a h;
}

pub guards-free : (past now clause : List ℕ) (pair : Pair) → has nat_eq clause pair.first ≡ true → has nat_eq clause pair.second ≡ true
    → has nat_eq past (flip pair.first) ≡ false → has nat_eq past (flip pair.second) ≡ false → pair.first ≢ pair.second → Guards past now clause pair
guards-free past now clause pair a b f g apart = record {
  first_in = a;
  second_in = b;
  first_kept = λ h. contrary _ h f;
  second_kept = λ h. contrary _ h g;
  alone = λ h. absurd (apart (same_exact pair.first pair.second h));
}

-- a list of two has no element but these
in-two : (x y a : ℕ) → has nat_eq (x ∷ y ∷ []) a ≡ true → (x ≡ a) ⊎ (y ≡ a)
in-two x y a h = elim (or_cases _ _ h) [
  | inl e ↦ inl (same_exact x a e)
  | inr r ↦ elim (or_cases _ _ r) [ inl e ↦ inr (same_exact y a e) | inr none ↦ contrary _ none refl ]
]

pub only-two : (clause : List ℕ) (a b : ℕ) → length clause ≡ 2 → a ≢ b → has nat_eq clause a ≡ true → has nat_eq clause b ≡ true
    → (l : ℕ) → has nat_eq clause l ≡ true → (l ≡ a) ⊎ (l ≡ b)
only-two [] a b size apart a_in b_in l l_in = absurd (omega arith)
only-two (x ∷ []) a b size apart a_in b_in l l_in = absurd (omega arith)
only-two (x ∷ y ∷ z ∷ zs) a b size apart a_in b_in l l_in = absurd (omega arith)
only-two (x ∷ y ∷ []) a b size apart a_in b_in l l_in = go (in-two x y a a_in) (in-two x y b b_in) (in-two x y l l_in)
  where
    go : (x ≡ a) ⊎ (y ≡ a) → (x ≡ b) ⊎ (y ≡ b) → (x ≡ l) ⊎ (y ≡ l) → (l ≡ a) ⊎ (l ≡ b)
    go (inl p) (inl q) r = absurd (apart (sym p ∙ q))
    go (inr p) (inr q) r = absurd (apart (sym p ∙ q))
    go (inl p) (inr q) (inl r) = inl (sym r ∙ p)
    go (inl p) (inr q) (inr r) = inr (sym r ∙ q)
    go (inr p) (inl q) (inl r) = inr (sym r ∙ q)
    go (inr p) (inl q) (inr r) = inl (sym r ∙ p)
