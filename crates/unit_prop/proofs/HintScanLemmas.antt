-- What the hints come to that are found by scanning.
use Rattle.std.proofs.Common.{◌≡◌, ℕ, ◌+◌, ◌<◌, Bool, true, false, not, ◌||◌, List, [], ◌∷◌, ◌++◌, length, take, get_or, Some, None, refl, sym, ap, ◌∙◌, subst, inl, inr, append_assoc, zero, suc, arith}
use Rattle.std.specs.Prelude.{map, filter}
use Rattle.std.specs.List.{find, list_any, AllByRecursion}
use Rattle.std.proofs.lemmas.List.Folds.{list_any_at}
use Rattle.std.proofs.lemmas.Bool.{or_cases, or_left, or_right, and_parts, or_parts}
use Rattle.lits.specs.Clause.{has, has_pair, firsts, no_repeat, IsClause}
use Rattle.lits.specs.Same.{same_lit, opposite}
use Rattle.lits.specs.declared.literal.Lit.{Lit}
use Rattle.lits.specs.declared.step.Named.{Named}
use Rattle.lits.specs.declared.step.Ref.{Ref}
use Rattle.lits.specs.contracts.literal.LitLiteral.TheImpl.Laws as lit
use Rattle.unit_prop.specs.Closure.{is_negated, ClosureClashes, IsOpen}
use Rattle.unit_prop.specs.Step.{open_in, fault_from, IsStep}
use Rattle.unit_prop.specs.Log.{base_clause, base_clauses}
use Rattle.unit_prop.specs.Propagation.{IsConsistent, IsSettled, is_forced_by}
use Rattle.unit_prop.specs.HintScan.{IsNamed, asks, ScansTo}
use Rattle.unit_prop.specs.HintScan.ScansTo.{last, next}
use Rattle.unit_prop.proofs.LiteralLemmas.{contrary, has-map-opposite}
use Rattle.unit_prop.proofs.AskLemmas.{ask-none, ask-unit, ask-satisfied, ask-more}
use Rattle.unit_prop.proofs.OpenLemmas.{hint-nothing, hint-one}
use Rattle.unit_prop.proofs.ClosureLemmas.{IsRound, round-clash, round-next, round-last, consistent-push, missing_places, missing_places-falls}
use Rattle.lits.proofs.Facts.{lit_laws}

-- the first that passes is in the list, and passes
pub find-passes : {X : Type 0} (P : X → Type 0) (p : X → Bool) (xs : List X) (x : X) → AllByRecursion P xs → find p xs ≡ Some x
    → (p x ≡ true) × P x
find-passes P p [] x all e = let f : None ≡ Some x = e in cc
find-passes P p (y ∷ ys) x all e = go (p y) refl (find-passes P p ys x all.1)
  where
    go : (b : Bool) → p y ≡ b → (find p ys ≡ Some x → (p x ≡ true) × P x) → (p x ≡ true) × P x
    go true f rest =
        let g : Some y ≡ Some x = rw f at e in let same : y ≡ x = cc in
        (subst (λ (z : _). p z ≡ true) same f, subst P same all.0)
    go false f rest = rest (rw f at e)

-- the first clause that asks asks
pub asking-found : (base : List Named) (set : List Lit) (n : Named) → find (λ m. asks set m.clause) base ≡ Some n → asks set n.clause ≡ true
asking-found base set n e = (find-passes (λ _. Unit {0}) (λ m. asks set m.clause) base n (any base) e).0
  where
    any : (ns : List Named) → AllByRecursion (λ _. Unit {0}) ns
    any [] = tt
    any (m ∷ ms) = (tt, any ms)

-- what the first that passes has besides, some element has
pub find-any : {X : Type 0} (p q : X → Bool) (xs : List X) (x : X) → find p xs ≡ Some x → q x ≡ true → list_any q xs ≡ true
find-any p q [] x e h = let f : None ≡ Some x = e in cc
find-any p q (y ∷ ys) x e h = go (p y) refl (find-any p q ys x)
  where
    go : (b : Bool) → p y ≡ b → (find p ys ≡ Some x → q x ≡ true → list_any q ys ≡ true) → (q y || list_any q ys) ≡ true
    go true f rest =
        let g : Some y ≡ Some x = rw f at e in let same : y ≡ x = cc in
        or_left _ _ (subst (λ (z : _). q z ≡ true) (sym same) h)
    go false f rest = or_right (q y) _ (rest (rw f at e) h)

-- a test of clauses finds one in a base
any-base : (q : List Lit → Bool) (base : List Named) → list_any (λ n. q n.clause) base ≡ true → list_any q (base_clauses base) ≡ true
any-base q [] e = e
any-base q (n ∷ ns) e =
    elim (or_cases (q n.clause) (list_any (λ m. q m.clause) ns) e) [
      | inl f ↦ or_left _ _ f
      | inr f ↦ or_right (q n.clause) _ (any-base q ns f)
    ]

-- a clause that asks for no hint is settled
no_hint : (set clause : List Lit) → asks set clause ≡ false
    → (is_negated opposite (has same_lit set) clause ≡ false) × IsSettled same_lit opposite set clause
no_hint set clause e = go (open_in same_lit opposite set clause) refl
  where
    go : (os : List Lit) → open_in same_lit opposite set clause ≡ os
        → (is_negated opposite (has same_lit set) clause ≡ false) × IsSettled same_lit opposite set clause
    go [] f = let g : true ≡ false = rw f at e in cc
    go (l ∷ []) f = ask-satisfied lit_laws set clause l f (there (has same_lit set l) refl)
      where
        there : (b : Bool) → has same_lit set l ≡ b → has same_lit set l ≡ true
        there true h = h
        there false h = let g : not (has same_lit set l) ≡ false = rw f at e in cc
    go (l ∷ m ∷ ls) f = ask-more lit_laws set clause (l, m, ls, f)

-- a set that no clause of the base asks of is the closure, and doesn't clash
pub none-settles : (base : List Named) (given set : List Lit) → IsRound same_lit opposite (base_clauses base) given set
    → find (λ n. asks set n.clause) base ≡ None → IsOpen same_lit opposite (base_clauses base) given
none-settles base given set round e =
    let quiet = all base e in
    let closure = round-last (base_clauses base) given set round quiet.0 quiet.1 in
    record { set = has same_lit set; closed = closure.0.closed; apart = closure.1 }
  where
    all : (ns : List Named) → find (λ n. asks set n.clause) ns ≡ None
        → (list_any (is_negated opposite (has same_lit set)) (base_clauses ns) ≡ false)
        × AllByRecursion (IsSettled same_lit opposite set) (base_clauses ns)
    all [] f = (refl, tt)
    all (n ∷ ns) f = go (asks set n.clause) refl (all ns)
      where
        go : (b : Bool) → asks set n.clause ≡ b
            → (find (λ m. asks set m.clause) ns ≡ None
            → (list_any (is_negated opposite (has same_lit set)) (base_clauses ns) ≡ false)
            × AllByRecursion (IsSettled same_lit opposite set) (base_clauses ns))
            → (list_any (is_negated opposite (has same_lit set)) (base_clauses (n ∷ ns)) ≡ false)
            × AllByRecursion (IsSettled same_lit opposite set) (base_clauses (n ∷ ns))
        go true g rest = let h : Some n ≡ None = rw g at f in cc
        go false g rest =
            let here = no_hint set n.clause g in let more = rest (rw g at f) in
            (rw (here.0, more.0) refl, (here.1, more.1))

-- what the hints are where scanning stands: all that come to an end from the set make hints from the start
pub record IsScanning (base : List Named) (given set : List Lit) (hints : List Ref) : Type 0 where
  pub round : IsRound same_lit opposite (base_clauses base) given set
  pub leads : (more : List Ref) → ScansTo base set more → ScansTo base given (hints ++ more)

-- the literal that a clause leaves, which asks for a hint
pub asking-one : (set clause : List Lit) (l : Lit) → asks set clause ≡ true → open_in same_lit opposite set clause ≡ l ∷ []
    → has same_lit set l ≡ false
asking-one set clause l e f = go (has same_lit set l) refl
  where
    go : (b : Bool) → has same_lit set l ≡ b → b ≡ false
    go false g = refl
    go true g = let h : not (has same_lit set l) ≡ true = rw f at e in let k : not (has same_lit set l) ≡ false = ap not g in cc

module _ (base : List Named) (given set : List Lit) (hints : List Ref) (scanning : IsScanning base given set hints) (n : Named)
    (found : find (λ m. asks set m.clause) base ≡ Some n) where
  pub scanning-next : (l : Lit) → open_in same_lit opposite set n.clause ≡ l ∷ [] → has same_lit set l ≡ false
      → IsScanning base given (set ++ l ∷ []) (hints ++ n.by ∷ [])
  scanning-next l e fresh =
      let unit = ask-unit lit_laws set n.clause l e fresh in
      let some = find-any (λ m. asks set m.clause) (λ m. is_forced_by same_lit opposite set l m.clause) base n found unit.1 in
      record {
        round = round-next lit_laws lit.differs-law (base_clauses base) given set l scanning.round unit.0 (any-base (is_forced_by same_lit opposite set l) base some);
        leads = λ more scans. rw (append_assoc hints (n.by ∷ []) more) (scanning.leads (n.by ∷ more) (next set n l more found e scans));
      }

  pub scanning-falls : (l : Lit) → open_in same_lit opposite set n.clause ≡ l ∷ [] → has same_lit set l ≡ false
      → missing_places same_lit (set ++ l ∷ []) (base_clauses base) < missing_places same_lit set (base_clauses base)
  scanning-falls l e fresh =
      let unit = ask-unit lit_laws set n.clause l e fresh in
      let some = find-any (λ m. asks set m.clause) (λ m. is_forced_by same_lit opposite set l m.clause) base n found unit.1 in
      missing_places-falls lit_laws set l fresh (base_clauses base) (any-base (is_forced_by same_lit opposite set l) base some)

  pub scanning-last : open_in same_lit opposite set n.clause ≡ [] → ScansTo base given (hints ++ n.by ∷ [])
  scanning-last e = scanning.leads (n.by ∷ []) (last set n found e)

  pub scanning-clash : open_in same_lit opposite set n.clause ≡ [] → ClosureClashes same_lit opposite (base_clauses base) given
  scanning-clash e =
      let some = find-any (λ m. asks set m.clause) (λ m. is_negated opposite (has same_lit set) m.clause) base n found (ask-none lit_laws set n.clause e) in
      round-clash (base_clauses base) given set scanning.round (any-base (is_negated opposite (has same_lit set)) base some)

-- hints that scanning finds have no fault
pub scans-faultless : (base : List Named) → IsNamed base → (place : ℕ) (set : List Lit) (hints : List Ref) → IsConsistent same_lit opposite set
    → ScansTo base set hints → fault_from same_lit opposite (base_clause base) place (record { set = set; clashed = false }) hints ≡ None
scans-faultless base named place _ _ consistent (last set n found e) =
    let at = find-passes (λ m. base_clause base m.by ≡ Some m.clause) (λ m. asks set m.clause) base n named found in
    rw (at.1, hint-nothing lit_laws (record { is = refl; quiet = refl; consistent = consistent }) n.clause e) refl
scans-faultless base named place _ _ consistent (next set n l more found e scans) =
    let at = find-passes (λ m. base_clause base m.by ≡ Some m.clause) (λ m. asks set m.clause) base n named found in
    let fresh = asking-one set n.clause l at.0 e in
    let unit = ask-unit lit_laws set n.clause l e fresh in
    rw (at.1, hint-one lit_laws (record { is = refl; quiet = refl; consistent = consistent }) n.clause e fresh refl)
    (scans-faultless base named (place + 1) (set ++ l ∷ []) more (consistent-push lit_laws lit.differs-law [] [] set l consistent unit.0) scans)

-- a clause keeps all its literals where the first of each is kept
firsts-once : (xs : List Lit) → no_repeat same_lit xs ≡ true → firsts same_lit xs ≡ xs
firsts-once [] e = refl
firsts-once (x ∷ xs) e =
    let parts = and_parts (not (has same_lit xs x)) (no_repeat same_lit xs) e in
    rw (firsts-once xs parts.1) (ap (λ (l : List Lit). x ∷ l) (keeps xs parts.0))
  where
    keeps : (ys : List Lit) → not (has same_lit ys x) ≡ true → filter (λ y. not (same_lit x y)) ys ≡ ys
    keeps [] f = refl
    keeps (y ∷ ys) f = go (same_lit y x) refl (keeps ys)
      where
        go : (b : Bool) → same_lit y x ≡ b → (not (has same_lit ys x) ≡ true → filter (λ z. not (same_lit x z)) ys ≡ ys)
            → filter (λ z. not (same_lit x z)) (y ∷ ys) ≡ y ∷ ys
        go true g rest = let h : false ≡ true = rw g at f in cc
        go false g rest = rw (lit_laws.equivalence.symm x y ∙ g) (ap (λ (l : List Lit). y ∷ l) (rest (rw g at f)))

-- a literal isn't among those before it
once-before : (xs : List Lit) (i : ℕ) (d : Lit) → i < length xs → no_repeat same_lit xs ≡ true
    → has same_lit (take i xs) (get_or xs i d) ≡ false
once-before [] i d below e = absurd (omega arith)
once-before (y ∷ ys) zero d below e = refl
once-before (y ∷ ys) (suc i) d below e =
    let parts = and_parts (not (has same_lit ys y)) (no_repeat same_lit ys) e in
    go (same_lit y x) refl parts.0 (once-before ys i d (omega arith) parts.1)
  where
    x : Lit
    x = get_or ys i d

    go : (b : Bool) → same_lit y x ≡ b → not (has same_lit ys y) ≡ true → has same_lit (take i ys) x ≡ false
        → (same_lit y x || has same_lit (take i ys) x) ≡ false
    go false f apart rest = rw (f, rest) refl
    go true f apart rest =
        let same : y ≡ x = lit_laws.exact y x f in
        let there : has same_lit ys x ≡ true =
        list_any_at (λ z. same_lit z x) ys i d (omega arith) (lit_laws.equivalence.refl x) in
        let not_there : not (has same_lit ys x) ≡ true = subst (λ (z : Lit). not (has same_lit ys z) ≡ true) same apart in
        let no : not (has same_lit ys x) ≡ false = ap not there in cc

-- the next literal's negation isn't among those of the literals before it
pub negation-fresh : (clause set : List Lit) (i : ℕ) (d negation : Lit) → i < length clause → IsClause same_lit opposite clause
    → set ≡ map opposite (take i clause) → negation ≡ opposite (get_or clause i d) → has same_lit set negation ≡ false
negation-fresh clause set i d negation below is at e =
    rw (at, e)
    (has-map-opposite lit_laws (take i clause) (opposite (get_or clause i d))
    ∙ (ap (has same_lit (take i clause)) (lit_laws.twice (get_or clause i d)) ∙ once-before clause i d below is.once))

-- of a literal and its negation a list without a complementary pair has one at most
pair-apart : (c : List Lit) (l : Lit) → has_pair same_lit opposite c ≡ false → has same_lit c (opposite l) ≡ true → has same_lit c l ≡ false
pair-apart [] l f h = refl
pair-apart (x ∷ xs) l f h =
    let parts = or_parts (has same_lit xs (opposite x)) (has_pair same_lit opposite xs) f in
    elim (or_cases (same_lit x (opposite l)) (has same_lit xs (opposite l)) h) [
      | inl e ↦ first (lit_laws.exact x (opposite l) e) parts.0
      | inr e ↦ later parts.0 e (pair-apart xs l parts.1 e)
    ]
  where
    first : x ≡ opposite l → has same_lit xs (opposite x) ≡ false → has same_lit (x ∷ xs) l ≡ false
    first same none =
        let back : opposite x ≡ l = ap opposite same ∙ lit_laws.twice l in
        let here : same_lit x l ≡ false = subst (λ (z : Lit). same_lit x z ≡ false) back (lit.differs-law x) in
        let there : has same_lit xs l ≡ false = subst (λ (z : Lit). has same_lit xs z ≡ false) back none in
        rw (here, there) refl

    later : has same_lit xs (opposite x) ≡ false → has same_lit xs (opposite l) ≡ true → has same_lit xs l ≡ false → has same_lit (x ∷ xs) l ≡ false
    later none some rest = go (same_lit x l) refl
      where
        go : (b : Bool) → same_lit x l ≡ b → (same_lit x l || has same_lit xs l) ≡ false
        go false e = rw (e, rest) refl
        go true e =
            let same : x ≡ l = lit_laws.exact x l e in
            contrary _ some (subst (λ (z : Lit). has same_lit xs (opposite z) ≡ false) same none)

-- a clause's negations are consistent
negations-consistent : (clause : List Lit) → has_pair same_lit opposite clause ≡ false → IsConsistent same_lit opposite (map opposite clause)
negations-consistent clause e = record {
  apart = λ l h. has-map-opposite lit_laws clause (opposite l)
      ∙ (ap (has same_lit clause) (lit_laws.twice l) ∙ pair-apart clause l e (sym (has-map-opposite lit_laws clause l) ∙ h));
}

-- before the first hint
pub scanning-start : (base : List Named) (clause : List Lit) → IsClause same_lit opposite clause
    → IsScanning base (map opposite clause) (map opposite clause) []
scanning-start base clause is = record {
  round = record { starts = λ l h. h; least = λ p closed. closed.starts; consistent = negations-consistent clause is.apart };
  leads = λ more scans. scans;
}

pub scans-step : (base : List Named) (clause : List Lit) (hints : List Ref) → IsNamed base → IsClause same_lit opposite clause
    → ScansTo base (map opposite clause) hints → IsStep same_lit opposite (base_clause base) clause hints
scans-step base clause hints named is scans =
    rw (is.apart, firsts-once clause is.once)
    (scans-faultless base named 1 (map opposite clause) hints (negations-consistent clause is.apart) scans)
