-- How many clauses can be new, one after another: a clause has each variable, its negation or neither, so that there are
-- three digits a variable.
use Rattle.std.proofs.Common.{◌≡◌, ℕ, ◌+◌, ◌*◌, ◌^◌, ◌<◌, ◌≤◌, Bool, true, false, not, ◌||◌, List, [], ◌∷◌, ◌++◌, length, map, refl, sym, ap, ◌∙◌, subst, ◌≢◌, ◌⊎◌, inl, inr, arith, pow-suc}
use Rattle.std.specs.Prelude.{filter}
use Rattle.std.specs.Prelude.{eqb}
use Rattle.std.specs.Cmp.{nat_eq_equiv}
use Rattle.std.specs.List.{AllByRecursion, list_any, IsDistinct}
use Rattle.std.proofs.lemmas.Bool.{cases_eq, and_from, or_cases, or_left, or_right}
use Rattle.std.proofs.lemmas.Bool.Decides.{nat_tests}
use Rattle.std.proofs.lemmas.List.{append-nil, append_assoc, map-append, length-map}
use Rattle.std.proofs.lemmas.Map.Keys.{IsDistinct-push}
use Rattle.std.proofs.lemmas.Map.Steps.{length-le_from_distinct_below}
use Rattle.lits.specs.Clause.{has}
use Rattle.lits.proofs.Facts.{IsLiteral, all-append}
use Rattle.unit_prop.specs.New.{occurs, IsNew, SameLiterals}
use Rattle.unit_prop.specs.Log.{InTurn}
use Rattle.unit_prop.proofs.LiteralLemmas.{contrary, has-filter, has-map-opposite}
use Rattle.unit_prop.proofs.ClosureLemmas.{any-all}
use Rattle.unit_prop.proofs.AssignmentLemmas.{new-differs}

-- what all elements of a list have those of its last part have
pub all-back : {X : Type 0} (P : X → Type 0) (xs ys : List X) → AllByRecursion P (xs ++ ys) → AllByRecursion P ys
all-back P [] ys all = all
all-back P (x ∷ xs) ys all = all-back P xs ys all.1

-- whether a clause has a literal, its negation or neither
abbrev digit_by : Bool → Bool → ℕ
digit_by true b = 1
digit_by false true = 2
digit_by false false = 0

abbrev digit : {L : Type 0} → (L → L → Bool) → (L → L) → List L → L → ℕ
digit eq opposite clause x = digit_by (has eq clause x) (has eq clause (opposite x))

-- the clause as a number whose digits to base 3 stand for the variables
abbrev pub number_of : {L : Type 0} → (L → L → Bool) → (L → L) → List L → List L → ℕ
number_of eq opposite [] clause = 0
number_of eq opposite (x ∷ xs) clause = digit eq opposite clause x + 3 * number_of eq opposite xs clause

-- no literal of the clause stands beside its negation
pub record IsApart {L : Type 0} (eq : L → L → Bool) (opposite : L → L) (clause : List L) : Type 0 where
  pub apart : (q : L) → has eq clause q ≡ true → has eq clause (opposite q) ≡ false

module _ {L : Type 0} {eq : L → L → Bool} {opposite : L → L} (laws : IsLiteral eq opposite) where
  digit-below : (clause : List L) (x : L) → digit eq opposite clause x < 3
  digit-below clause x = go (has eq clause x) (has eq clause (opposite x))
    where
      go : (a b : Bool) → digit_by a b < 3
      go true b = omega arith
      go false true = omega arith
      go false false = omega arith

  pub number-below : (xs clause : List L) → number_of eq opposite xs clause < 3 ^ length xs
  number-below [] clause = omega arith
  number-below (x ∷ xs) clause =
      let d = digit-below clause x in
      let rest = number-below xs clause in
      let most : 3 ^ length (x ∷ xs) ≡ 3 ^ length xs * 3 = pow-suc 3 (length xs) in
      omega arith

  -- clauses with the same digit have the variable alike
  digit-same : (c d : List L) (x : L) → IsApart eq opposite c → IsApart eq opposite d
      → digit eq opposite c x ≡ digit eq opposite d x
      → (has eq c x ≡ has eq d x) × (has eq c (opposite x) ≡ has eq d (opposite x))
  digit-same c d x ac ad same =
      go (has eq c x) (has eq c (opposite x)) (has eq d x) (has eq d (opposite x)) (ac.apart x) (ad.apart x) same
    where
      go : (a b e f : Bool) → (a ≡ true → b ≡ false) → (e ≡ true → f ≡ false)
          → digit_by a b ≡ digit_by e f → (a ≡ e) × (b ≡ f)
      go true b true f p q s = (refl, p refl ∙ sym (q refl))
      go true b false true p q s = absurd (omega (arith, s))
      go true b false false p q s = absurd (omega (arith, s))
      go false true true f p q s = absurd (omega (arith, s))
      go false true false true p q s = (refl, refl)
      go false true false false p q s = absurd (omega (arith, s))
      go false false true f p q s = absurd (omega (arith, s))
      go false false false true p q s = absurd (omega (arith, s))
      go false false false false p q s = (refl, refl)

  -- clauses with the same number have the variables alike
  pub number-same : (xs c d : List L) → IsApart eq opposite c → IsApart eq opposite d
      → number_of eq opposite xs c ≡ number_of eq opposite xs d
      → (q : L) → (has eq xs q || has eq xs (opposite q)) ≡ true → has eq c q ≡ has eq d q
  number-same [] c d ac ad same q e = cc
  number-same (x ∷ xs) c d ac ad same q e =
      let first = digit-below c x in
      let second = digit-below d x in
      let head : digit eq opposite c x ≡ digit eq opposite d x = omega (arith, same) in
      let rest : number_of eq opposite xs c ≡ number_of eq opposite xs d = omega (arith, same) in
      let here = digit-same c d x ac ad head in
      at (eq x q) (eq x (opposite q)) refl refl here (number-same xs c d ac ad rest q)
    where
      at : (a b : Bool) → eq x q ≡ a → eq x (opposite q) ≡ b
          → (has eq c x ≡ has eq d x) × (has eq c (opposite x) ≡ has eq d (opposite x))
          → ((has eq xs q || has eq xs (opposite q)) ≡ true → has eq c q ≡ has eq d q)
          → has eq c q ≡ has eq d q
      at true b f g here rest = subst (λ (z : L). has eq c z ≡ has eq d z) (laws.exact x q f) here.0
      at false true f g here rest =
          let back : opposite x ≡ q = ap opposite (laws.exact x (opposite q) g) ∙ laws.twice q in
          subst (λ (z : L). has eq c z ≡ has eq d z) back here.1
      at false false f g here rest = rest (rw (f, g) at e)

  module _ (clauses : List (List L)) (clause : List L) (new : IsNew eq opposite clauses clause) where
    -- the negation of each literal but the one that is missed is there
    others-there : (m : L) → has eq clause m ≡ true → eq m new.lit ≡ false → new.missed.set (opposite m) ≡ true
    others-there m inside other =
        new.missed.closed.starts (opposite m)
        (has-map-opposite laws (filter (λ k. not (eq k new.lit)) clause) (opposite m)
        ∙ (ap (has eq (filter (λ k. not (eq k new.lit)) clause)) (laws.twice m)
        ∙ (has-filter laws (λ k. not (eq k new.lit)) clause m ∙ and_from _ _ inside (ap not other))))

    -- a new clause has no literal beside its negation
    pub new-apart : ((x : L) → eq x (opposite x) ≡ false) → IsApart eq opposite clause
    new-apart differs = record { apart = λ q e. go q e (has eq clause (opposite q)) refl }
      where
        clash : (q : L) → has eq clause q ≡ true → has eq clause (opposite q) ≡ true
            → (a b : Bool) → eq q new.lit ≡ a → eq (opposite q) new.lit ≡ b → ⊥
        clash q e f true b h k =
            let same : q ≡ new.lit = laws.exact q new.lit h in
            let apart : eq (opposite q) new.lit ≡ false =
            subst (λ (z : L). eq (opposite q) z ≡ false) same (laws.equivalence.symm (opposite q) q ∙ differs q) in
            let there : new.missed.set q ≡ true =
            subst (λ (z : L). new.missed.set z ≡ true) (laws.twice q) (others-there (opposite q) f apart) in
            contrary _ there (ap new.missed.set same ∙ new.missed.lacks)
        clash q e f false true h k =
            contrary _ (others-there q e h)
            (ap new.missed.set (laws.exact (opposite q) new.lit k) ∙ new.missed.lacks)
        clash q e f false false h k =
            new.missed.apart (inr (opposite q, others-there q e h, others-there (opposite q) f k))

        go : (q : L) → has eq clause q ≡ true → (b : Bool) → has eq clause (opposite q) ≡ b → has eq clause (opposite q) ≡ false
        go q e false f = f
        go q e true f = absurd (clash q e f (eq q new.lit) (eq (opposite q) new.lit) refl refl)

-- each variable of the clause is among those of the list
pub record IsAmong {L : Type 0} (eq : L → L → Bool) (opposite : L → L) (xs clause : List L) : Type 0 where
  pub among : (q : L) → has eq clause q ≡ true → (has eq xs q || has eq xs (opposite q)) ≡ true

module _ {L : Type 0} {eq : L → L → Bool} {opposite : L → L} (laws : IsLiteral eq opposite)
    (differs : (x : L) → eq x (opposite x) ≡ false) (xs : List L) where
  -- clauses with the same number have the same literals
  pub number-whole : (c d : List L) → IsApart eq opposite c → IsApart eq opposite d → IsAmong eq opposite xs c
      → IsAmong eq opposite xs d → number_of eq opposite xs c ≡ number_of eq opposite xs d → SameLiterals eq c d
  number-whole c d ac ad inc ind same q = go (has eq c q) (has eq d q) refl refl
    where
      go : (a b : Bool) → has eq c q ≡ a → has eq d q ≡ b → has eq c q ≡ has eq d q
      go true b e f = number-same laws xs c d ac ad same q (inc.among q e)
      go false true e f = number-same laws xs c d ac ad same q (ind.among q f)
      go false false e f = e ∙ sym f

  -- clauses over these variables use no other
  occurs-among : (clauses : List (List L)) → AllByRecursion (IsAmong eq opposite xs) clauses → (q : L)
      → occurs eq opposite clauses q ≡ true → (has eq xs q || has eq xs (opposite q)) ≡ true
  occurs-among clauses all q e =
      let w = any-all (IsAmong eq opposite xs) (λ c. has eq c q || has eq c (opposite q)) clauses all e in
      elim (or_cases (has eq w.0 q) (has eq w.0 (opposite q)) w.1) [
        | inl f ↦ w.2.among q f
        | inr f ↦ turned (w.2.among (opposite q) f)
      ]
    where
      turned : (has eq xs (opposite q) || has eq xs (opposite (opposite q))) ≡ true → (has eq xs q || has eq xs (opposite q)) ≡ true
      turned f =
          elim (or_cases (has eq xs (opposite q)) (has eq xs (opposite (opposite q))) f) [
            | inl g ↦ or_right (has eq xs q) _ g
            | inr g ↦ or_left _ _ (ap (has eq xs) (sym (laws.twice q)) ∙ g)
          ]

  known-among : (clauses : List (List L)) → AllByRecursion (IsAmong eq opposite xs) clauses → (clause : List L)
      → AllByRecursion (λ l. occurs eq opposite clauses l ≡ true) clause → IsAmong eq opposite xs clause
  known-among clauses all clause known = record { among = λ q e. occurs-among clauses all q (at clause known q e) }
    where
      at : (ls : List L) → AllByRecursion (λ l. occurs eq opposite clauses l ≡ true) ls → (q : L) → has eq ls q ≡ true
          → occurs eq opposite clauses q ≡ true
      at [] k q e = cc
      at (l ∷ ls) k q e =
          elim (or_cases (eq l q) (has eq ls q) e) [
            | inl f ↦ subst (λ (z : L). occurs eq opposite clauses z ≡ true) (laws.exact l q f) k.0
            | inr f ↦ at ls k.1 q f
          ]

  -- the clause's number is none of those of the clauses whose literals it hasn't
  number-fresh : (clause : List L) → IsApart eq opposite clause → IsAmong eq opposite xs clause → (cs : List (List L))
      → AllByRecursion (IsApart eq opposite) cs → AllByRecursion (IsAmong eq opposite xs) cs
      → AllByRecursion (λ c. ¬ SameLiterals eq c clause) cs
      → list_any (eqb (number_of eq opposite xs clause)) (map (number_of eq opposite xs) cs) ≡ false
  number-fresh clause apart among [] aps ms ds = refl
  number-fresh clause apart among (c ∷ cs) aps ms ds =
      go (cases_eq (number_of eq opposite xs clause) (number_of eq opposite xs c)) (number-fresh clause apart among cs aps.1 ms.1 ds.1)
    where
      go : (number_of eq opposite xs clause ≡ number_of eq opposite xs c) ⊎ (number_of eq opposite xs clause ≢ number_of eq opposite xs c)
          → list_any (eqb (number_of eq opposite xs clause)) (map (number_of eq opposite xs) cs) ≡ false
          → list_any (eqb (number_of eq opposite xs clause)) (map (number_of eq opposite xs) (c ∷ cs)) ≡ false
      go (inl e) rest = absurd (ds.0 (number-whole c clause aps.0 apart ms.0 among (sym e)))
      go (inr e) rest =
          let other : eqb (number_of eq opposite xs clause) (number_of eq opposite xs c) ≡ false = grind (arith, nat_tests) in
          rw other rest

  -- clauses each of which is new over some clauses and those before it have different numbers
  numbers-distinct : (given : List (List L)) → AllByRecursion (IsAmong eq opposite xs) given → (before cs : List (List L))
      → AllByRecursion (IsApart eq opposite) before → AllByRecursion (IsAmong eq opposite xs) before
      → IsDistinct eqb (map (number_of eq opposite xs) before)
      → InTurn (λ b c. IsNew eq opposite (given ++ b) c) before cs
      → IsDistinct eqb (map (number_of eq opposite xs) (before ++ cs))
  numbers-distinct given all before [] aps ms distinct turn =
      subst (λ (l : List (List L)). IsDistinct eqb (map (number_of eq opposite xs) l)) (sym (append-nil before)) distinct
  numbers-distinct given all before (c ∷ cs) aps ms distinct turn =
      let apart = new-apart laws (given ++ before) c turn.0 differs in
      let among = known-among (given ++ before) (all-append _ given before all ms) c turn.0.known in
      let different = all-back _ given before (new-differs laws (given ++ before) c turn.0) in
      let fresh = number-fresh c apart among before aps ms different in
      let longer = subst (λ (l : List ℕ). IsDistinct eqb l) (sym (map-append (number_of eq opposite xs) before (c ∷ [])))
      (IsDistinct-push nat_eq_equiv (map (number_of eq opposite xs) before) (number_of eq opposite xs c) distinct fresh) in
      subst (λ (l : List (List L)). IsDistinct eqb (map (number_of eq opposite xs) l)) (append_assoc before (c ∷ []) cs)
      (numbers-distinct given all (before ++ c ∷ []) cs (all-append _ before (c ∷ []) aps (apart, tt)) (all-append _ before (c ∷ []) ms (among, tt)) longer turn.1)

  -- clauses each of which is new over some clauses and those before it are at most as many as there are numbers
  pub new-count : (given : List (List L)) → AllByRecursion (IsAmong eq opposite xs) given → (cs : List (List L))
      → InTurn (λ b c. IsNew eq opposite (given ++ b) c) [] cs → length cs ≤ 3 ^ length xs
  unfolding IsDistinct
  new-count given all cs turn =
      let distinct = numbers-distinct given all [] cs tt tt tt turn in
      let count = length-le_from_distinct_below (map (number_of eq opposite xs) cs) (3 ^ length xs) distinct (each cs) in
      rw length-map at count
    where
      each : (ds : List (List L)) → (q : ℕ) → list_any (eqb q) (map (number_of eq opposite xs) ds) ≡ true → q < 3 ^ length xs
      each [] q e = cc
      each (d ∷ ds) q e =
          elim (or_cases (eqb q (number_of eq opposite xs d)) (list_any (eqb q) (map (number_of eq opposite xs) ds)) e) [
            | inl f ↦
                let same : q ≡ number_of eq opposite xs d = grind (arith, nat_tests) in
                subst (λ (n : ℕ). n < 3 ^ length xs) (sym same) (number-below laws xs d)
            | inr f ↦ each ds q f
          ]
