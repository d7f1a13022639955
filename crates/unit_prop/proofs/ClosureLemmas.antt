-- How a set of literals grows into the closure.
use Rattle.std.proofs.Common.{◌≡◌, ◌≢◌, ℕ, take, get_or, ◌+◌, ◌<◌, ◌≤◌, Bool, true, false, not, ◌||◌, List, [], ◌∷◌, ◌++◌, length, refl, sym, ap, ◌∙◌, subst, ◌⊎◌, inl, inr, arith}
use Rattle.std.specs.Prelude.{filter}
use Rattle.std.specs.List.{list_any, list_all, AllByRecursion}
use Rattle.std.proofs.lemmas.List.{take_more, take_all}
use Rattle.std.proofs.lemmas.List.Folds.{list_any_more, list_any_at}
use Rattle.std.proofs.lemmas.Bool.{and_from, and_parts, or_cases, or_left, or_right}
use Rattle.lits.specs.Clause.{has}
use Rattle.lits.proofs.Facts.{IsLiteral, has-append, eq-opposite, list_any-more, all-append}
use Rattle.unit_prop.specs.Closure.{forces, is_negated, IsClosed, Clashes, IsClosure, ClosureClashes}
use Rattle.unit_prop.specs.Propagation.{IsConsistent, IsFree, IsSettled, AsksFor, IsFound, is_forced_by}
use Rattle.unit_prop.specs.declared.propagation.Found.{Found}
use Rattle.unit_prop.specs.declared.propagation.Found.TheVariants.{Clash, Unit as Forced, Nothing}
use Rattle.unit_prop.proofs.LiteralLemmas.{contrary, alone}

pub list_all-more : {X : Type 0} (p q : X → Bool) (xs : List X) → ((x : X) → p x ≡ true → q x ≡ true) → list_all p xs ≡ true
    → list_all q xs ≡ true
list_all-more p q [] f e = e
list_all-more p q (x ∷ xs) f e = let h = and_parts (p x) (list_all p xs) e in and_from _ _ (f x h.0) (list_all-more p q xs f h.1)

-- of the elements that all have P, one that passes
pub any-all : {X : Type 0} (P : X → Type 0) (p : X → Bool) (xs : List X) → AllByRecursion P xs → list_any p xs ≡ true
    → (x : X) × (p x ≡ true) × P x
any-all P p [] all e = cc
any-all P p (x ∷ xs) all e =
    elim (or_cases (p x) (list_any p xs) e) [ inl h ↦ (x, h, all.0) | inr h ↦ any-all P p xs all.1 h ]

-- a set within another forces and negates no more
pub forces-more : {L : Type 0} (eq : L → L → Bool) (opposite : L → L) (p q : L → Bool) (clause : List L) (l : L)
    → ((m : L) → p m ≡ true → q m ≡ true) → forces eq opposite p clause l ≡ true → forces eq opposite q clause l ≡ true
forces-more eq opposite p q clause l f =
    list_all-more _ _ clause (λ m h. elim (or_cases (eq m l) (p (opposite m)) h) [
      | inl e ↦ or_left _ _ e
      | inr e ↦ or_right (eq m l) _ (f (opposite m) e)
    ])

pub is_negated-more : {L : Type 0} (opposite : L → L) (p q : L → Bool) (clause : List L)
    → ((m : L) → p m ≡ true → q m ≡ true) → is_negated opposite p clause ≡ true → is_negated opposite q clause ≡ true
is_negated-more opposite p q clause f = list_all-more _ _ clause (λ m h. f (opposite m) h)

-- between the rounds: the set has what is given, is in each closed set, and has no literal beside its negation
pub record IsRound {L : Type 0} (eq : L → L → Bool) (opposite : L → L) (clauses : List (List L)) (given set : List L) : Type 0 where
  pub starts : (l : L) → has eq given l ≡ true → has eq set l ≡ true
  pub least : (p : L → Bool) → IsClosed eq opposite clauses given p → (l : L) → has eq set l ≡ true → p l ≡ true
  pub consistent : IsConsistent eq opposite set

module _ {L : Type 0} {eq : L → L → Bool} {opposite : L → L} (clauses : List (List L)) (given : List L) where
  pub round-clash : (set : List L) → IsRound eq opposite clauses given set → list_any (is_negated opposite (has eq set)) clauses ≡ true
      → ClosureClashes eq opposite clauses given
  round-clash set round e p closed =
      inl (list_any-more _ _ clauses (λ c. is_negated-more opposite (has eq set) p c (round.least p closed)) e)

  pub round-last : (set : List L) → IsRound eq opposite clauses given set → list_any (is_negated opposite (has eq set)) clauses ≡ false
      → AllByRecursion (IsSettled eq opposite set) clauses
      → IsClosure eq opposite clauses given set × ¬ Clashes opposite clauses (has eq set)
  round-last set round e settled =
      (record { closed = record { starts = round.starts; units = settled }; least = round.least }, apart)
    where
      apart : ¬ Clashes opposite clauses (has eq set)
      apart (inl h) = contrary _ h e
      apart (inr h) = contrary _ h.2 (round.consistent.apart h.0 h.1)

module _ {L : Type 0} {eq : L → L → Bool} {opposite : L → L} (laws : IsLiteral eq opposite)
    (differs : (x : L) → eq x (opposite x) ≡ false) (clauses : List (List L)) (given : List L) where
  pub consistent-push : (set : List L) (l : L) → IsConsistent eq opposite set → IsFree eq opposite set l
      → IsConsistent eq opposite (set ++ l ∷ [])
  consistent-push set l is free = record { apart = λ q h. has-append laws set (l ∷ []) (opposite q) ∙ go q (or_cases _ _ (sym (has-append laws set (l ∷ []) q) ∙ h)) }
    where
      go : (q : L) → (has eq set q ≡ true) ⊎ (has eq (l ∷ []) q ≡ true) → (has eq set (opposite q) || has eq (l ∷ []) (opposite q)) ≡ false
      go q (inl h) = rw (is.apart q h) (either (eq l (opposite q)) refl)
        where
          either : (b : Bool) → eq l (opposite q) ≡ b → (eq l (opposite q) || false) ≡ false
          either false e = rw e refl
          either true e =
              let same : q ≡ opposite l = laws.exact _ _ (sym (eq-opposite laws l q) ∙ e) in
              contrary _ (ap (has eq set) (sym same) ∙ h) free.apart
      go q (inr h) =
          let same : l ≡ q = laws.exact l q (alone _ h) in
          rw (sym same) (rw (free.apart, differs l) refl)

  pub round-next : (set : List L) (l : L) → IsRound eq opposite clauses given set → IsFree eq opposite set l
      → list_any (is_forced_by eq opposite set l) clauses ≡ true → IsRound eq opposite clauses given (set ++ l ∷ [])
  round-next set l round free e = record {
    starts = λ q h. has-append laws set (l ∷ []) q ∙ or_left _ _ (round.starts q h);
    least = λ p closed q h. elim (or_cases _ _ (sym (has-append laws set (l ∷ []) q) ∙ h)) [
      | inl f ↦ round.least p closed q f
      | inr f ↦ subst (λ (z : L). p z ≡ true) (laws.exact l q (alone _ f)) (forced p closed)
    ];
    consistent = consistent-push set l round.consistent free;
  }
    where
      forced : (p : L → Bool) → IsClosed eq opposite clauses given p → p l ≡ true
      forced p closed =
          let w = any-all _ (is_forced_by eq opposite set l) clauses closed.units e in
          let parts = and_parts (has eq w.0 l) (forces eq opposite (has eq set) w.0 l) w.1 in
          w.2 l parts.0 (forces-more eq opposite (has eq set) p w.0 l (round.least p closed) parts.1)

-- how many places of the clauses have a literal that isn't in the set
pub missing_in : {L : Type 0} → (L → L → Bool) → List L → List L → ℕ
missing_in eq set clause = length (filter (λ l. not (has eq set l)) clause)

pub missing_places : {L : Type 0} → (L → L → Bool) → List L → List (List L) → ℕ
missing_places eq set [] = 0
missing_places eq set (c ∷ cs) = missing_in eq set c + missing_places eq set cs

module _ {L : Type 0} {eq : L → L → Bool} {opposite : L → L} (laws : IsLiteral eq opposite) (set : List L) (l : L)
    (fresh : has eq set l ≡ false) where
  missing_in-push : (clause : List L) → missing_in eq (set ++ l ∷ []) clause ≤ missing_in eq set clause
  unfolding missing_in
  missing_in-push [] = omega arith
  missing_in-push (x ∷ xs) = go (has eq set x) (eq l x) refl refl (missing_in-push xs)
    where
      go : (b d : Bool) → has eq set x ≡ b → eq l x ≡ d → missing_in eq (set ++ l ∷ []) xs ≤ missing_in eq set xs
          → missing_in eq (set ++ l ∷ []) (x ∷ xs) ≤ missing_in eq set (x ∷ xs)
      go true d e f rest = rw (has-append laws set (l ∷ []) x, e) rest
      go false true e f rest = rw (has-append laws set (l ∷ []) x, e, f) (omega arith)
      go false false e f rest = rw (has-append laws set (l ∷ []) x, e, f) (omega arith)

  missing_in-falls : (clause : List L) → has eq clause l ≡ true → missing_in eq (set ++ l ∷ []) clause < missing_in eq set clause
  unfolding missing_in
  missing_in-falls [] h = cc
  missing_in-falls (x ∷ xs) h = go (eq x l) refl (missing_in-push xs) (missing_in-falls xs)
    where
      go : (b : Bool) → eq x l ≡ b → missing_in eq (set ++ l ∷ []) xs ≤ missing_in eq set xs
          → (has eq xs l ≡ true → missing_in eq (set ++ l ∷ []) xs < missing_in eq set xs)
          → missing_in eq (set ++ l ∷ []) (x ∷ xs) < missing_in eq set (x ∷ xs)
      go true e weak rest =
          let same : x ≡ l = laws.exact x l e in
          rw (has-append laws set (l ∷ []) x, same, fresh, laws.equivalence.refl l) (omega arith)
      go false e weak rest =
          let less = rest (rw e at h) in
          let apart : eq l x ≡ false = laws.equivalence.symm l x ∙ e in
          at (has eq set x) refl apart less
        where
          at : (b : Bool) → has eq set x ≡ b → eq l x ≡ false → missing_in eq (set ++ l ∷ []) xs < missing_in eq set xs
              → missing_in eq (set ++ l ∷ []) (x ∷ xs) < missing_in eq set (x ∷ xs)
          at true f apart less = rw (has-append laws set (l ∷ []) x, f) less
          at false f apart less = rw (has-append laws set (l ∷ []) x, f, apart) (omega arith)

  missing_places-push : (clauses : List (List L)) → missing_places eq (set ++ l ∷ []) clauses ≤ missing_places eq set clauses
  unfolding missing_places
  missing_places-push [] = omega arith
  missing_places-push (c ∷ cs) = let here = missing_in-push c in let rest = missing_places-push cs in omega arith

  -- a literal that a clause forces leaves fewer places
  pub missing_places-falls : (clauses : List (List L)) → list_any (is_forced_by eq opposite set l) clauses ≡ true
      → missing_places eq (set ++ l ∷ []) clauses < missing_places eq set clauses
  unfolding missing_places
  missing_places-falls [] h = cc
  missing_places-falls (c ∷ cs) h =
      elim (or_cases (is_forced_by eq opposite set l c) (list_any (is_forced_by eq opposite set l) cs) h) [
        | inl e ↦
            let here = missing_in-falls c (and_parts (has eq c l) (forces eq opposite (has eq set) c l) e).0 in
            let rest = missing_places-push cs in omega arith
        | inr e ↦ let here = missing_in-push c in let rest = missing_places-falls cs e in omega arith
      ]

-- what has been scanned so far neither clashes nor forces anything new
pub record IsScanned {L : Type 0} (eq : L → L → Bool) (opposite : L → L) (set : List L) (clauses : List (List L)) : Type 0 where
  pub quiet : list_any (is_negated opposite (has eq set)) clauses ≡ false
  pub settled : AllByRecursion (IsSettled eq opposite set) clauses

-- one clause more that asks for nothing
pub scanned-next : {L : Type 0} (eq : L → L → Bool) (opposite : L → L) (set : List L) (clauses : List (List L)) (i : ℕ) (clause d : List L) → i < length clauses
    → clause ≡ get_or clauses i d → IsScanned eq opposite set (take i clauses) → AsksFor eq opposite set clause Nothing → IsScanned eq opposite set (take (i + 1) clauses)
scanned-next {L} eq opposite set clauses i clause d lt is scanned asks =
    let here : AsksFor eq opposite set (get_or clauses i d) Nothing = subst (λ (c : List L). AsksFor eq opposite set c Nothing) is asks in
    record {
      quiet = list_any_more (is_negated opposite (has eq set)) clauses i d lt ∙ rw (scanned.quiet, here.0) refl;
      settled = rw (take_more clauses i d lt) (all-append (IsSettled eq opposite set) (take i clauses) (get_or clauses i d ∷ []) scanned.settled (here.1, tt));
    }

-- what a clause asks for is what some clause asks for
pub found-here : {L : Type 0} (eq : L → L → Bool) (opposite : L → L) (set : List L) (clauses : List (List L)) (i : ℕ) (clause d : List L) (found : Found L) → i < length clauses
    → clause ≡ get_or clauses i d → found ≢ Nothing → AsksFor eq opposite set clause found → IsFound eq opposite set clauses found
found-here {L} eq opposite set clauses i clause d Clash lt is some asks =
    list_any_at (is_negated opposite (has eq set)) clauses i d lt (subst (λ (c : List L). is_negated opposite (has eq set) c ≡ true) is asks)
found-here {L} eq opposite set clauses i clause d (Forced lit) lt is some asks =
    (asks.0, list_any_at (is_forced_by eq opposite set lit) clauses i d lt (subst (λ (c : List L). is_forced_by eq opposite set lit c ≡ true) is asks.1))
found-here eq opposite set clauses i clause d Nothing lt is some asks = absurd (some refl)

-- where all clauses are scanned, none asks for anything
pub scanned-all : {L : Type 0} (eq : L → L → Bool) (opposite : L → L) (set : List L) (clauses : List (List L)) (i : ℕ) → length clauses ≤ i
    → IsScanned eq opposite set (take i clauses) → IsFound eq opposite set clauses Nothing
scanned-all {L} eq opposite set clauses i le scanned =
    let all : IsScanned eq opposite set clauses = subst (λ (cs : List (List L)). IsScanned eq opposite set cs) (take_all i clauses le) scanned in (all.quiet, all.settled)
