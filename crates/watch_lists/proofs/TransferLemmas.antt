-- What holds of closures over codes holds of those over literals.
use Rattle.std.proofs.Common.{◌≡◌, ℕ, Bool, true, ◌&&◌, ◌||◌, List, [], ◌∷◌, map, refl, sym, ap, ◌∙◌, subst, nat_eq, inl, inr}
use Rattle.std.specs.List.{list_any, AllByRecursion}
use Rattle.std.proofs.lemmas.Bool.{or_cases, or_left, or_right, and_parts, and_from}
use Rattle.lits.specs.Clause.{has, no_repeat}
use Rattle.lits.specs.Same.{same_lit, same_node, opposite}
use Rattle.lits.specs.declared.node.Node.{Node}
use Rattle.lits.specs.declared.literal.Lit.{Lit}
use Rattle.unit_prop.specs.Closure.{forces, is_negated, IsClosed, Clashes, IsClosure, ClosureClashes}
use Rattle.unit_prop.specs.Propagation.{IsSettled}
use Rattle.lits.proofs.Facts.{lit_laws}
use Rattle.flat_base.specs.Codes.{lit_at, IsCode}
use Rattle.watch_lists.specs.Codes.{flip}
use Rattle.watch_lists.proofs.FlipLemmas.{same_exact, is_literal-flip}
use Rattle.watch_lists.proofs.Facts.{lit_at-flip, lit_at-exact, flip-code, has-lits, code-of, has-codes, has-same}

-- a clause of codes as literals
abbrev pub lits_at : List Node → List ℕ → List Lit
lits_at nodes codes = map (lit_at nodes) codes

abbrev pub clauses_at : List Node → List (List ℕ) → List (List Lit)
clauses_at nodes clauses = map (map (lit_at nodes)) clauses

-- codes of variables
abbrev pub AreCodes : List Node → List ℕ → Type 0
AreCodes nodes codes = (c : ℕ) → has nat_eq codes c ≡ true → IsCode nodes c

tail-codes : (nodes : List Node) (x : ℕ) (xs : List ℕ) → AreCodes nodes (x ∷ xs) → AreCodes nodes xs
tail-codes nodes x xs are c h = are c (or_right (nat_eq x c) _ h)

head-code : (nodes : List Node) (x : ℕ) (xs : List ℕ) → AreCodes nodes (x ∷ xs) → IsCode nodes x
head-code nodes x xs are = are x (or_left _ _ (is_literal-flip.equivalence.refl x))

module _ (nodes : List Node) where
  -- a set of literals, asked by code
  pub negated-down : (p : Lit → Bool) (clause : List ℕ) → is_negated opposite p (lits_at nodes clause) ≡ is_negated flip (λ c. p (lit_at nodes c)) clause
  negated-down p [] = refl
  negated-down p (x ∷ xs) = rw (lit_at-flip nodes x, negated-down p xs) refl

  pub forces-down : (p : Lit → Bool) (clause : List ℕ) (l : ℕ) → forces nat_eq flip (λ c. p (lit_at nodes c)) clause l ≡ true
      → forces same_lit opposite p (lits_at nodes clause) (lit_at nodes l) ≡ true
  forces-down p [] l h = refl
  forces-down p (x ∷ xs) l h =
      let parts = and_parts (nat_eq x l || p (lit_at nodes (flip x))) _ h in
      and_from (same_lit (lit_at nodes x) (lit_at nodes l) || p (opposite (lit_at nodes x))) (forces same_lit opposite p (lits_at nodes xs) (lit_at nodes l)) (elim (or_cases _ _ parts.0) [
        | inl e ↦ or_left _ _ (subst (λ (z : ℕ). same_lit (lit_at nodes x) (lit_at nodes z) ≡ true) (same_exact x l e) (lit_laws.equivalence.refl (lit_at nodes x)))
        | inr f ↦ or_right (same_lit (lit_at nodes x) (lit_at nodes l)) _ (ap p (sym (lit_at-flip nodes x)) ∙ f)
      ]) (forces-down p xs l parts.1)

  -- a closed set of literals is closed over codes
  pub closed-down : (clauses : List (List ℕ)) (given : List ℕ) (p : Lit → Bool) → IsClosed same_lit opposite (clauses_at nodes clauses) (lits_at nodes given) p
      → IsClosed nat_eq flip clauses given (λ c. p (lit_at nodes c))
  closed-down clauses given p closed = record {
    starts = λ c h. closed.starts (lit_at nodes c) (has-lits nodes given c h);
    units = units clauses closed.units;
  }
    where
      units : (cs : List (List ℕ)) → AllByRecursion (λ c. (l : Lit) → has same_lit c l ≡ true → forces same_lit opposite p c l ≡ true → p l ≡ true) (clauses_at nodes cs)
          → AllByRecursion (λ c. (l : ℕ) → has nat_eq c l ≡ true → forces nat_eq flip (λ c. p (lit_at nodes c)) c l ≡ true → p (lit_at nodes l) ≡ true) cs
      units [] all = tt
      units (c ∷ cs) all = (λ l inside force. all.0 (lit_at nodes l) (has-lits nodes c l inside) (forces-down p c l force), units cs all.1)

  -- a clash over codes is one over literals
  pub clashes-up : (clauses : List (List ℕ)) (p : Lit → Bool) → Clashes flip clauses (λ c. p (lit_at nodes c)) → Clashes opposite (clauses_at nodes clauses) p
  clashes-up clauses p (inl h) = inl (some clauses h)
    where
      some : (cs : List (List ℕ)) → list_any (is_negated flip (λ c. p (lit_at nodes c))) cs ≡ true → list_any (is_negated opposite p) (clauses_at nodes cs) ≡ true
      some [] h = h
      some (c ∷ cs) h = elim (or_cases _ _ h) [
        | inl e ↦ or_left _ _ (negated-down p c ∙ e)
        | inr f ↦ or_right (is_negated opposite p (lits_at nodes c)) _ (some cs f)
      ]
  clashes-up clauses p (inr h) = inr (lit_at nodes h.0, h.1, ap p (sym (lit_at-flip nodes h.0)) ∙ h.2)

  pub closure_clashes-up : (clauses : List (List ℕ)) (given : List ℕ) → ClosureClashes nat_eq flip clauses given
      → ClosureClashes same_lit opposite (clauses_at nodes clauses) (lits_at nodes given)
  closure_clashes-up clauses given clash p closed = clashes-up clauses p (clash (λ c. p (lit_at nodes c)) (closed-down clauses given p closed))

  module _ (once : no_repeat same_node nodes ≡ true) where
    -- the literals of a list of codes, asked by code
    pub negated-same : (set clause : List ℕ) → AreCodes nodes set → AreCodes nodes clause
        → is_negated opposite (has same_lit (lits_at nodes set)) (lits_at nodes clause) ≡ is_negated flip (has nat_eq set) clause
    negated-same set [] a b = refl
    negated-same set (x ∷ xs) a b =
        let here : has same_lit (lits_at nodes set) (opposite (lit_at nodes x)) ≡ has nat_eq set (flip x) =
        ap (has same_lit (lits_at nodes set)) (sym (lit_at-flip nodes x)) ∙ has-same nodes set (flip x) once a (flip-code nodes x (head-code nodes x xs b)) in
        ap (λ (c : Bool). c && is_negated opposite (has same_lit (lits_at nodes set)) (lits_at nodes xs)) here
        ∙ ap (λ (c : Bool). has nat_eq set (flip x) && c) (negated-same set xs a (tail-codes nodes x xs b))

    pub forces-up : (set clause : List ℕ) (l : ℕ) → AreCodes nodes set → AreCodes nodes clause → IsCode nodes l
        → forces same_lit opposite (has same_lit (lits_at nodes set)) (lits_at nodes clause) (lit_at nodes l) ≡ true → forces nat_eq flip (has nat_eq set) clause l ≡ true
    forces-up set [] l a b h f = refl
    forces-up set (x ∷ xs) l a b h f =
        let parts = and_parts (same_lit (lit_at nodes x) (lit_at nodes l) || has same_lit (lits_at nodes set) (opposite (lit_at nodes x))) _ f in
        and_from (nat_eq x l || has nat_eq set (flip x)) (forces nat_eq flip (has nat_eq set) xs l) (elim (or_cases _ _ parts.0) [
          | inl e ↦ or_left _ _ (subst (λ (z : ℕ). nat_eq x z ≡ true) (lit_at-exact nodes x l once (head-code nodes x xs b) h (lit_laws.exact _ _ e)) (is_literal-flip.equivalence.refl x))
          | inr e ↦ or_right (nat_eq x l) _ (has-codes nodes set (flip x) once a (flip-code nodes x (head-code nodes x xs b)) (ap (has same_lit (lits_at nodes set)) (lit_at-flip nodes x) ∙ e))
        ]) (forces-up set xs l a (tail-codes nodes x xs b) h parts.1)

    pub forces-same : (set clause : List ℕ) (l : ℕ) → forces nat_eq flip (has nat_eq set) clause l ≡ true
        → forces same_lit opposite (has same_lit (lits_at nodes set)) (lits_at nodes clause) (lit_at nodes l) ≡ true
    forces-same set [] l h = refl
    forces-same set (x ∷ xs) l h =
        let parts = and_parts (nat_eq x l || has nat_eq set (flip x)) _ h in
        and_from (same_lit (lit_at nodes x) (lit_at nodes l) || has same_lit (lits_at nodes set) (opposite (lit_at nodes x))) (forces same_lit opposite (has same_lit (lits_at nodes set)) (lits_at nodes xs) (lit_at nodes l)) (elim (or_cases _ _ parts.0) [
          | inl e ↦ or_left _ _ (subst (λ (z : ℕ). same_lit (lit_at nodes x) (lit_at nodes z) ≡ true) (same_exact x l e) (lit_laws.equivalence.refl (lit_at nodes x)))
          | inr f ↦ or_right (same_lit (lit_at nodes x) (lit_at nodes l)) _ (ap (has same_lit (lits_at nodes set)) (sym (lit_at-flip nodes x)) ∙ has-lits nodes set (flip x) f)
        ]) (forces-same set xs l parts.1)

    -- a settled clause over codes is one over literals, and the converse
    pub settled-up : (set clause : List ℕ) → AreCodes nodes set → AreCodes nodes clause → IsSettled nat_eq flip set clause → IsSettled same_lit opposite (lits_at nodes set) (lits_at nodes clause)
    settled-up set clause a b settled l inside force =
        let w = code-of nodes clause l inside in
        let code = b w.0 w.1 in
        subst (λ (z : Lit). has same_lit (lits_at nodes set) z ≡ true) w.2
        (has-lits nodes set w.0 (settled w.0 w.1 (forces-up set clause w.0 a b code (subst (λ (z : Lit). forces same_lit opposite (has same_lit (lits_at nodes set)) (lits_at nodes clause) z ≡ true) (sym w.2) force))))

    pub settled-down : (set clause : List ℕ) → AreCodes nodes set → AreCodes nodes clause → IsSettled same_lit opposite (lits_at nodes set) (lits_at nodes clause) → IsSettled nat_eq flip set clause
    settled-down set clause a b settled l inside force =
        has-codes nodes set l once a (b l inside) (settled (lit_at nodes l) (has-lits nodes clause l inside) (forces-same set clause l force))

    -- the closure over codes is the closure over literals
    pub closure-up : (clauses : List (List ℕ)) (given set : List ℕ) → AreCodes nodes set → AllByRecursion (AreCodes nodes) clauses → AreCodes nodes given
        → IsClosure nat_eq flip clauses given set × ¬ Clashes flip clauses (has nat_eq set)
        → IsClosure same_lit opposite (clauses_at nodes clauses) (lits_at nodes given) (lits_at nodes set) × ¬ Clashes opposite (clauses_at nodes clauses) (has same_lit (lits_at nodes set))
    closure-up clauses given set a b g is = (
      record {
        closed = record {
          starts = λ l h. let w = code-of nodes given l h in
              subst (λ (z : Lit). has same_lit (lits_at nodes set) z ≡ true) w.2 (has-lits nodes set w.0 (is.0.closed.starts w.0 w.1));
          units = units clauses b is.0.closed.units;
        };
        least = λ p closed l h. let w = code-of nodes set l h in
            subst (λ (z : Lit). p z ≡ true) w.2 (is.0.least (λ c. p (lit_at nodes c)) (closed-down clauses given p closed) w.0 w.1);
      },
      apart,
    )
      where
        units : (cs : List (List ℕ)) → AllByRecursion (AreCodes nodes) cs → AllByRecursion (λ c. (l : ℕ) → has nat_eq c l ≡ true → forces nat_eq flip (has nat_eq set) c l ≡ true → has nat_eq set l ≡ true) cs
            → AllByRecursion (λ c. (l : Lit) → has same_lit c l ≡ true → forces same_lit opposite (has same_lit (lits_at nodes set)) c l ≡ true → has same_lit (lits_at nodes set) l ≡ true) (clauses_at nodes cs)
        units [] b all = tt
        units (c ∷ cs) b all = (settled-up set c a b.0 all.0, units cs b.1 all.1)

        none : (cs : List (List ℕ)) → AllByRecursion (AreCodes nodes) cs → list_any (is_negated opposite (has same_lit (lits_at nodes set))) (clauses_at nodes cs) ≡ list_any (is_negated flip (has nat_eq set)) cs
        none [] b = refl
        none (c ∷ cs) b = rw (negated-same set c a b.0, none cs b.1) refl

        apart : ¬ Clashes opposite (clauses_at nodes clauses) (has same_lit (lits_at nodes set))
        apart (inl h) = is.1 (inl (sym (none clauses b) ∙ h))
        apart (inr h) =
            let w = code-of nodes set h.0 h.1 in
            is.1 (inr (
              w.0,
              w.1,
              has-codes nodes set (flip w.0) once a (flip-code nodes w.0 (a w.0 w.1))
                  (ap (has same_lit (lits_at nodes set)) (lit_at-flip nodes w.0 ∙ ap opposite w.2) ∙ h.2),
            ))
