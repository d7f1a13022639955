-- How the trail grows.
use Rattle.std.proofs.Common.{◌≡◌, ◌≢◌, ℕ, ◌%◌, ◌<◌, ◌≤◌, Bool, true, false, ◌||◌, List, [], ◌∷◌, ◌++◌, length, refl, sym, ap, ◌∙◌, subst, arith, get_or, take, drop, set, nat_eq, ◌⊎◌, inl, inr, Option, Some, None}
use Rattle.std.specs.List.{list_any, All}
use Rattle.std.specs.Prelude.{slice_index_or, slice_set}
use Rattle.std.proofs.lemmas.List.{length-set, get_or_past, get_or_append_left, get_or_push, length_push, get_or-set_same, get_or-set_other, take-append-le, take_all, take-append-drop}
use Rattle.std.proofs.lemmas.Bool.Decides.{nat_tests}
use Rattle.std.proofs.lemmas.List.Folds.{list_any_at}
use Rattle.std.proofs.lemmas.Map.Keys.{IsDistinct-push}
use Rattle.std.proofs.lemmas.Map.Steps.{length-le_from_distinct_below}
use Rattle.std.proofs.lemmas.Bool.{or_cases, or_left, or_right, cases_lt, cases_Bool}
use Rattle.lits.specs.Clause.{has}
use Rattle.lits.proofs.Facts.{list_any-more}
use Rattle.lits.proofs.Facts as clause_lemmas
use Rattle.unit_prop.proofs.Facts.{contrary, alone}
use Rattle.watch_lists.specs.Codes.{flip}
use Rattle.watch_lists.specs.Guard.{IsGuarded}
use Rattle.watch_lists.specs.State.{codes_at, pair_at, is_met, AreGuards, AreTurned, AreWatched, IsMarked, AreLevels, IsJustified, AreSettled, AsksNothing}
use Rattle.watch_lists.specs.declared.lists.Watch.{Watch}
use Rattle.watch_lists.specs.declared.engine.Pair.{Pair}
use Rattle.watch_lists.specs.declared.engine.Level.{Level}
use Rattle.watch_lists.proofs.FlipLemmas.{is_literal-flip, same_exact, flip_differs, flip-below}
use Rattle.watch_lists.proofs.GuardLemmas.{guarded-more}
use Rattle.watch_lists.proofs.WatchLemmas.{decide}

pub has-append : (xs ys : List ℕ) (q : ℕ) → has nat_eq (xs ++ ys) q ≡ (has nat_eq xs q || has nat_eq ys q)
has-append = clause_lemmas.has-append is_literal-flip

-- the other way round
pub has-symm : (xs : List ℕ) (q : ℕ) → list_any (nat_eq q) xs ≡ has nat_eq xs q
has-symm [] q = refl
has-symm (x ∷ xs) q = rw (is_literal-flip.equivalence.symm q x, has-symm xs q) refl

pub has-take : (n : ℕ) (xs : List ℕ) (q : ℕ) → has nat_eq (take n xs) q ≡ true → has nat_eq xs q ≡ true
has-take n xs q h = subst (λ (l : List ℕ). has nat_eq l q ≡ true) (take-append-drop n xs) (has-append (take n xs) (drop n xs) q ∙ or_left _ _ h)

pub has-more : (xs : List ℕ) (x q : ℕ) → has nat_eq xs q ≡ true → has nat_eq (xs ++ x ∷ []) q ≡ true
has-more xs x q h = has-append xs (x ∷ []) q ∙ or_left _ _ h

pub has-last : (xs : List ℕ) (x : ℕ) → has nat_eq (xs ++ x ∷ []) x ≡ true
has-last xs x = has-append xs (x ∷ []) x ∙ or_right (has nat_eq xs x) _ (or_left _ _ (is_literal-flip.equivalence.refl x))

-- what a list with one more has
pub has-push_cases : (xs : List ℕ) (x q : ℕ) → has nat_eq (xs ++ x ∷ []) q ≡ true → (has nat_eq xs q ≡ true) ⊎ (x ≡ q)
has-push_cases xs x q h = elim (or_cases _ _ (sym (has-append xs (x ∷ []) q) ∙ h)) [ inl a ↦ inl a | inr b ↦ inr (same_exact x q (alone _ b)) ]

-- what a list with one more lacks
pub lacks-push : (xs : List ℕ) (x q : ℕ) → has nat_eq xs q ≡ false → nat_eq x q ≡ false → has nat_eq (xs ++ x ∷ []) q ≡ false
lacks-push xs x q a b = has-append xs (x ∷ []) q ∙ rw (a, b) refl

module _ {clauses : List (List ℕ)} {truth : List Bool} {places trail : List ℕ} {reasons : List (Option ℕ)} {levels : List Level} {head : ℕ}
    (is : IsMarked clauses truth places trail reasons levels head) where
  -- the levels begin on the trail
  pub starts-most : All (λ v. v.start ≤ length trail) levels
  starts-most k d h = let b = is.levels_are.within k d h in let e = is.reasons_all in omega arith

  pub heads-most : All (λ v. v.head ≤ length trail) levels
  heads-most k d h = let a = is.levels_are.heads k d h in let b = starts-most k d h in omega arith

  pub flips : (l : ℕ) → l < length truth → flip l < length truth
  flips l h = flip-below (length truth) l is.even h

  pub trail-put : (x : ℕ) (by : Option ℕ) (later : List Level) → AreLevels later (reasons ++ by ∷ []) → x < length truth
      → has nat_eq trail x ≡ false → has nat_eq trail (flip x) ≡ false → IsJustified clauses trail x by
      → IsMarked clauses (slice_set truth x true) (slice_set places x (length trail)) (trail ++ x ∷ []) (reasons ++ by ∷ []) later head
  trail-put x by later are within fresh free just = record {
    reasons_all = omega (arith, length_push trail x, length_push reasons by, is.reasons_all);
    head_most = omega (arith, length_push trail x, is.head_most);
    levels_are = are;
    within = λ i l h. subst (λ (n : ℕ). l < n) (sym size) (is.within i l h);
    even = subst (λ (n : ℕ). n % 2 ≡ 0) (sym size) is.even;
    distinct = IsDistinct-push is_literal-flip.equivalence trail x is.distinct (has-symm trail x ∙ fresh);
    marks = λ l. marked l (decide l x);
    apart = λ l h. elim (has-push_cases trail x l h) [
      | inl old ↦ lacks-push trail x (flip l) (is.apart l old) (other l old)
      | inr same ↦ subst (λ (z : ℕ). has nat_eq (trail ++ x ∷ []) (flip z) ≡ false) same (lacks-push trail x (flip x) free (flip_differs x))
    ];
    places_all = length-set places x (length trail) ∙ (is.places_all ∙ sym size);
    placed = λ k h. elim (decide k (length trail)) [
      | inr before ↦ older_place k (omega (arith, length_push trail x))
      | inl last ↦ subst (λ (n : ℕ). get_or (set places x (length trail)) (get_or (trail ++ x ∷ []) n 0) 0 ≡ n) (sym last)
          (subst (λ (y : ℕ). get_or (set places x (length trail)) y 0 ≡ length trail) (sym (get_or_push trail x 0 (length trail) refl)) (get_or-set_same places x (length trail) 0 (omega (arith, is.places_all))))
    ];
    justified = λ k h. elim (decide k (length trail)) [
      | inr before ↦ older k (omega (arith, length_push trail x))
      | inl last ↦ subst (λ (n : ℕ). IsJustified clauses (take n (trail ++ x ∷ [])) (get_or (trail ++ x ∷ []) n 0) (get_or (reasons ++ by ∷ []) n None)) (sym last) newest
    ];
  }
    where
      size : length (slice_set truth x true) ≡ length truth
      size = length-set truth x true

      marked : (l : ℕ) → (l ≡ x) ⊎ (l ≢ x) → slice_index_or (slice_set truth x true) l false ≡ has nat_eq (trail ++ x ∷ []) l
      marked l (inl same) = subst (λ (z : ℕ). get_or (set truth x true) z false ≡ has nat_eq (trail ++ x ∷ []) z) (sym same) (get_or-set_same truth x true false within ∙ sym (has-last trail x))
      marked l (inr differs) =
          get_or-set_other truth x l true false differs ∙ (is.marks l ∙ sym (has-append trail (x ∷ []) l ∙ either (has nat_eq trail l) (nat_eq x l) (grind (arith, nat_tests))))
        where
          either : (a b : Bool) → b ≡ false → (a || (b || false)) ≡ a
          either true b e = refl
          either false b e = rw e refl

      other : (l : ℕ) → has nat_eq trail l ≡ true → nat_eq x (flip l) ≡ false
      other l old = elim (cases_Bool (nat_eq x (flip l))) [
        | inr f ↦ f
        | inl e ↦
            let same : l ≡ flip x = sym (is_literal-flip.twice l) ∙ ap flip (sym (same_exact x (flip l) e)) in
            contrary _ (subst (λ (z : ℕ). has nat_eq trail z ≡ true) same old) free
      ]

      older_place : (k : ℕ) → k < length trail → get_or (set places x (length trail)) (get_or (trail ++ x ∷ []) k 0) 0 ≡ k
      older_place k h =
          let there : has nat_eq trail (get_or trail k 0) ≡ true = list_any_at (λ y. nat_eq y (get_or trail k 0)) trail k 0 h (is_literal-flip.equivalence.refl (get_or trail k 0)) in
          let apart : get_or trail k 0 ≢ x = λ same. contrary _ (subst (λ (z : ℕ). has nat_eq trail z ≡ true) same there) fresh in
          rw (get_or_append_left trail (x ∷ []) 0 k h) (get_or-set_other places x (get_or trail k 0) (length trail) 0 apart ∙ is.placed k h)

      older : (k : ℕ) → k < length trail → IsJustified clauses (take k (trail ++ x ∷ [])) (get_or (trail ++ x ∷ []) k 0) (get_or (reasons ++ by ∷ []) k None)
      older k h =
          let a : take k (trail ++ x ∷ []) ≡ take k trail = take-append-le k trail (x ∷ []) (omega arith) in
          let b : get_or (trail ++ x ∷ []) k 0 ≡ get_or trail k 0 = get_or_append_left trail (x ∷ []) 0 k h in
          let c : get_or (reasons ++ by ∷ []) k None ≡ get_or reasons k None = get_or_append_left reasons (by ∷ []) None k (omega (arith, is.reasons_all)) in
          rw (a, b, c) (is.justified k h)

      newest : IsJustified clauses (take (length trail) (trail ++ x ∷ [])) (get_or (trail ++ x ∷ []) (length trail) 0) (get_or (reasons ++ by ∷ []) (length trail) None)
      newest =
          let a : take (length trail) (trail ++ x ∷ []) ≡ trail = take-append-le (length trail) trail (x ∷ []) (omega arith) ∙ take_all (length trail) trail (omega arith) in
          let b : get_or (trail ++ x ∷ []) (length trail) 0 ≡ x = get_or_push trail x 0 (length trail) refl in
          let c : get_or (reasons ++ by ∷ []) (length trail) None ≡ by = get_or_push reasons by None (length trail) is.reasons_all in
          rw (a, b, c) just

pub met-more : (trail : List ℕ) (x : ℕ) (clause : List ℕ) → is_met trail clause ≡ true → is_met (trail ++ x ∷ []) clause ≡ true
met-more trail x clause = list_any-more (has nat_eq trail) (has nat_eq (trail ++ x ∷ [])) clause (has-more trail x)

pub watched-put : {clauses : List (List ℕ)} {pairs : List Pair} {lists : List (List Watch)} {trail : List ℕ} {levels : List Level} {head : ℕ}
    → AreWatched clauses pairs lists trail levels head → head ≤ length trail → All (λ v. v.start ≤ length trail) levels → All (λ v. v.head ≤ length trail) levels
    → (x : ℕ) → AreWatched clauses pairs lists (trail ++ x ∷ []) levels head
watched-put {clauses} {pairs} {lists} {trail} {levels} {head} watched most starts heads x = record {
  most = watched.most;
  linked = watched.linked;
  watches = watched.watches;
  guards = λ i h. guarded-more _ (has nat_eq trail) _ (codes_at clauses i) _ _ (has-more trail x)
      (subst (λ (p : List ℕ). IsGuarded nat_eq flip (has nat_eq p) (has nat_eq trail) (codes_at clauses i) (pair_at pairs i).first (pair_at pairs i).second) (sym (take-append-le head trail (x ∷ []) most)) (watched.guards i h));
  bounds = λ k d h. subst (λ (p : List ℕ). AreGuards clauses pairs p (take (get_or levels k d).start (trail ++ x ∷ []))) (sym (take-append-le (get_or levels k d).head trail (x ∷ []) (heads k d h)))
      (subst (λ (p : List ℕ). AreGuards clauses pairs (take (get_or levels k d).head trail) p) (sym (take-append-le (get_or levels k d).start trail (x ∷ []) (starts k d h))) (watched.bounds k d h));
}

pub turned-put : {clauses : List (List ℕ)} {pairs : List Pair} {trail : List ℕ} {list : List Watch} {lit at : ℕ} (x : ℕ)
    → AreTurned clauses pairs trail list lit at → AreTurned clauses pairs (trail ++ x ∷ []) list lit at
turned-put {clauses} {pairs} {trail} x turned = record { each = λ i h e. elim (turned.each i h e) [ inl met ↦ inl (met-more trail x (codes_at clauses i) met) | inr still ↦ inr still ] }

pub trail-below : {clauses : List (List ℕ)} {truth : List Bool} {places trail : List ℕ} {reasons : List (Option ℕ)} {levels : List Level} {head : ℕ}
    → IsMarked clauses truth places trail reasons levels head → (q : ℕ) → has nat_eq trail q ≡ true → q < length truth
trail-below {clauses} {truth} is q h = elim (cases_lt q (length truth)) [
  | inl lt ↦ lt
  | inr past ↦ contrary _ h (sym (is.marks q) ∙ get_or_past truth q false past)
]

-- the trail has no more literals than there are
pub trail-most : {clauses : List (List ℕ)} {truth : List Bool} {places trail : List ℕ} {reasons : List (Option ℕ)} {levels : List Level} {head : ℕ}
    → IsMarked clauses truth places trail reasons levels head → length trail ≤ length truth
trail-most {clauses} {truth} {places} {trail} is = length-le_from_distinct_below trail (length truth) is.distinct (λ q h. trail-below is q (sym (has-symm trail q) ∙ h))

-- the levels below the last stay as they are
pub settled-put : (clauses : List (List ℕ)) (trail : List ℕ) (levels : List Level) → AreSettled clauses trail levels → All (λ v. v.start ≤ length trail) levels
    → (x : ℕ) → AreSettled clauses (trail ++ x ∷ []) levels
settled-put clauses trail levels settled most x i a k d h = subst (λ (l : List ℕ). AsksNothing l (codes_at clauses i)) (sym (take-append-le (get_or levels k d).start trail (x ∷ []) (most k d h))) (settled i a k d h)

-- a forced literal begins no level
pub levels-put : (levels : List Level) (reasons : List (Option ℕ)) (by : ℕ) → AreLevels levels reasons → AreLevels levels (reasons ++ Some by ∷ [])
levels-put levels reasons by are = record {
  heads = are.heads;
  within = λ k d h. let b = are.within k d h in omega (arith, length_push reasons (Some by));
  rising = are.rising;
  decided = λ k d h. get_or_append_left reasons (Some by ∷ []) None (get_or levels k d).start (are.within k d h) ∙ are.decided k d h;
  start_of = λ k h e. elim (decide k (length reasons)) [
    | inr before ↦ let b : k < length reasons = omega (arith, length_push reasons (Some by)) in are.start_of k b (sym (get_or_append_left reasons (Some by ∷ []) None k b) ∙ e)
    | inl last ↦ let f : Some by ≡ None = sym (get_or_push reasons (Some by) None k (sym last)) ∙ e in cc
  ];
}
