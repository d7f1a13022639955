-- The variables of a base, and which literals are over it.
use Rattle.std.proofs.Common.{◌≡◌, ℕ, ◌+◌, ◌<◌, length, take, get_or, Bool, true, false, not, ◌&&◌, ◌||◌, List, [], ◌∷◌, ◌++◌, refl, sym, ap, ◌∙◌, append_assoc, ◌⊎◌, inl, inr}
use Rattle.std.specs.Prelude.{map}
use Rattle.std.specs.List.{AllByRecursion}
use Rattle.std.proofs.lemmas.List.{take_more, map-append, append-nil}
use Rattle.std.proofs.lemmas.Bool.{or_cases, or_left, or_right}
use Rattle.lits.specs.Clause.{has, firsts}
use Rattle.lits.specs.declared.literal.Lit.{Lit}
use Rattle.lits.specs.declared.step.Named.{Named}
use Rattle.lits.specs.declared.step.Step.{Step}
use Rattle.lits.proofs.Facts.{IsLiteral, has-append, has-firsts, firsts-push, all-append, lit_laws, take_one}
use Rattle.unit_prop.specs.New.{occurs}
use Rattle.unit_prop.specs.Log.{base_clauses, clauses_of}
use Rattle.lits.specs.Same.{same_lit, opposite}
use Rattle.unit_prop.specs.Refuter.{is_over, IsOver}
use Rattle.solver_plain.specs.Literals.{variable_of, is_free, with_lit}
use Rattle.solver_plain.specs.Formula.{literals_of, variables_of, IsFormula}
use Rattle.solver_plain.proofs.ListLemmas.{each-of, each-at, all-each}

-- one more literal's variable
pub variables-next : (seen lits vars new : List Lit) (i : ℕ) (d y : Lit) → i < length lits
    → vars ≡ firsts same_lit (seen ++ map variable_of (take i lits)) → y ≡ variable_of (get_or lits i d)
    → new ≡ with_lit vars y
    → new ≡ firsts same_lit (seen ++ map variable_of (take (i + 1) lits))
variables-next seen lits vars new i d y below so_far at e =
    e ∙ rw (at, so_far, has-firsts lit_laws before v) (sym (firsts-push lit_laws before v))
    ∙ ap (firsts same_lit) (append_assoc seen (map variable_of (take i lits)) (v ∷ []) ∙ ap (λ (l : List Lit). seen ++ l) more)
  where
    v : Lit
    v = variable_of (get_or lits i d)

    before : List Lit
    before = seen ++ map variable_of (take i lits)

    more : map variable_of (take i lits) ++ variable_of (get_or lits i d) ∷ [] ≡ map variable_of (take (i + 1) lits)
    more = sym (ap (map variable_of) (take_more lits i d below) ∙ map-append variable_of (take i lits) (get_or lits i d ∷ []))

literals_of-push : (base : List Named) (n : Named) → literals_of (base ++ n ∷ []) ≡ literals_of base ++ n.clause
literals_of-push [] n = append-nil n.clause
literals_of-push (x ∷ xs) n = ap (λ (l : List Lit). x.clause ++ l) (literals_of-push xs n) ∙ sym (append_assoc x.clause (literals_of xs) n.clause)

-- one more clause's variables
pub variables_of-next : (base : List Named) (vars new : List Lit) (i : ℕ) (n : Named) → i < length base → n ≡ get_or base i n
    → vars ≡ variables_of (take i base)
    → ((seen : List Lit) → vars ≡ firsts same_lit seen → new ≡ firsts same_lit (seen ++ map variable_of n.clause))
    → new ≡ variables_of (take (i + 1) base)
variables_of-next base vars new i n below at so_far add =
    add (map variable_of (literals_of (take i base))) so_far
    ∙ ap (firsts same_lit) (sym (map-append variable_of (literals_of (take i base)) n.clause)
    ∙ ap (map variable_of) (sym (literals_of-push (take i base) n) ∙ ap literals_of (sym (take_one base i n below at))))

-- one more copy
pub copies-next : (base copies new : List Named) (i : ℕ) (n : Named) (clause : List Lit) → i < length base
    → n ≡ get_or base i n → copies ≡ take i base → clause ≡ n.clause
    → new ≡ copies ++ record { clause = clause; by = n.by } ∷ [] → new ≡ take (i + 1) base
copies-next base copies new i n clause below at so_far same e = e ∙ rw (so_far, same) (sym (take_one base i n below at))

interleave : (a b c d : Bool) → ((a || b) || (c || d)) ≡ ((a || c) || (b || d))
interleave true b c d = refl
interleave false true true d = refl
interleave false true false d = refl
interleave false false c d = refl

module _ {L : Type 0} {eq : L → L → Bool} {opposite : L → L} (laws : IsLiteral eq opposite) where
  -- each literal of each clause occurs in the clauses
  pub all-occur : (clauses : List (List L)) → AllByRecursion (λ c. AllByRecursion (λ l. occurs eq opposite clauses l ≡ true) c) clauses
  all-occur [] = tt
  all-occur (c ∷ cs) = (
    each-of laws (λ l. occurs eq opposite (c ∷ cs) l ≡ true) c (λ l h. or_left _ _ (or_left _ _ h)),
    all-each (λ d. AllByRecursion (λ l. occurs eq opposite cs l ≡ true) d) (λ d. AllByRecursion (λ l. occurs eq opposite (c ∷ cs) l ≡ true) d) cs
        (λ d. all-each (λ l. occurs eq opposite cs l ≡ true) (λ l. occurs eq opposite (c ∷ cs) l ≡ true) d (λ l h. or_right _ _ h)) (all-occur cs),
  )

log-over : (base : List Named) (log : List Step) → AllByRecursion (λ s. IsOver base s.clause) log
    → AllByRecursion (IsOver base) (map (λ s. s.clause) log)
log-over base [] all = tt
log-over base (s ∷ ss) all = (all.0, log-over base ss all.1)

-- every clause of a formula is over its base
pub all-over : (base : List Named) (log : List Step) (variables : List Lit) → IsFormula base log variables
    → AllByRecursion (IsOver base) (clauses_of base log)
all-over base log variables f =
    all-append (IsOver base) (base_clauses base) (map (λ s. s.clause) log) (all-occur lit_laws (base_clauses base)) (log-over base log f.within)

-- a variable is a literal or its negation
pub variable-cases : (l : Lit) → (variable_of l ≡ l) ⊎ (variable_of l ≡ opposite l)
variable-cases l = go l.neg refl
  where
    go : (b : Bool) → l.neg ≡ b → (variable_of l ≡ l) ⊎ (variable_of l ≡ opposite l)
    go false e = inl (ap (λ (b : Bool). let m : Lit = record { node = l.node; neg = b } in m) (sym e))
    go true e = inr (ap (λ (b : Bool). let m : Lit = record { node = l.node; neg = not b } in m) (sym e))

pub is_free-variable : (set : List Lit) (l : Lit) → is_free set (variable_of l) ≡ is_free set l
is_free-variable set l = go (variable-cases l)
  where
    swap : (a b : Bool) → (not a && not b) ≡ (not b && not a)
    swap true true = refl
    swap true false = refl
    swap false true = refl
    swap false false = refl

    go : (variable_of l ≡ l) ⊎ (variable_of l ≡ opposite l) → is_free set (variable_of l) ≡ is_free set l
    go (inl e) = ap (is_free set) e
    go (inr e) =
        ap (is_free set) e ∙ ap (λ (k : Lit). not (has same_lit set (opposite l)) && not (has same_lit set k)) (lit_laws.twice l)
        ∙ swap (has same_lit set (opposite l)) (has same_lit set l)

-- a variable that is the same for both signs
module _ {L : Type 0} {eq : L → L → Bool} {opposite : L → L} (laws : IsLiteral eq opposite) (variable : L → L)
    (cases : (l : L) → (variable l ≡ l) ⊎ (variable l ≡ opposite l)) (signless : (l : L) → variable (opposite l) ≡ variable l) where
  same-variable : (m l : L) → eq (variable m) (variable l) ≡ (eq m l || eq m (opposite l))
  same-variable m l = go (eq (variable m) (variable l)) (eq m l || eq m (opposite l)) refl refl
    where
      equal : (k : L) → m ≡ k → eq m k ≡ true
      equal k e = ap (λ (z : L). eq z k) e ∙ laws.equivalence.refl k

      forth : variable m ≡ variable l → (variable m ≡ m) ⊎ (variable m ≡ opposite m) → (variable l ≡ l) ⊎ (variable l ≡ opposite l)
          → (eq m l || eq m (opposite l)) ≡ true
      forth e (inl f) (inl g) = or_left _ _ (equal l (sym f ∙ e ∙ g))
      forth e (inl f) (inr g) = or_right (eq m l) _ (equal (opposite l) (sym f ∙ e ∙ g))
      forth e (inr f) (inl g) =
          let h : opposite m ≡ l = sym f ∙ e ∙ g in or_right (eq m l) _ (equal (opposite l) (sym (laws.twice m) ∙ ap opposite h))
      forth e (inr f) (inr g) =
          let h : opposite m ≡ opposite l = sym f ∙ e ∙ g in
          or_left _ _ (equal l (sym (laws.twice m) ∙ ap opposite h ∙ laws.twice l))

      back : (eq m l ≡ true) ⊎ (eq m (opposite l) ≡ true) → eq (variable m) (variable l) ≡ true
      back (inl e) = ap (λ (z : L). eq (variable z) (variable l)) (laws.exact m l e) ∙ laws.equivalence.refl (variable l)
      back (inr e) =
          ap (λ (z : L). eq (variable z) (variable l)) (laws.exact m (opposite l) e)
          ∙ ap (λ (z : L). eq z (variable l)) (signless l) ∙ laws.equivalence.refl (variable l)

      go : (a b : Bool) → eq (variable m) (variable l) ≡ a → (eq m l || eq m (opposite l)) ≡ b
          → eq (variable m) (variable l) ≡ (eq m l || eq m (opposite l))
      go true b e f = e ∙ sym (forth (laws.exact _ _ e) (cases m) (cases l))
      go false true e f = back (or_cases _ _ f) ∙ sym f
      go false false e f = e ∙ sym f

  has-variables : (xs : List L) (l : L) → has eq (map variable xs) (variable l) ≡ (has eq xs l || has eq xs (opposite l))
  has-variables [] l = refl
  has-variables (x ∷ xs) l =
      rw (same-variable x l, has-variables xs l) (interleave (eq x l) (eq x (opposite l)) (has eq xs l) (has eq xs (opposite l)))

module _ (eq : Lit → Lit → Bool) (opposite : Lit → Lit) (laws : IsLiteral eq opposite) where
  occurs-literals : (base : List Named) (l : Lit)
      → occurs eq opposite (base_clauses base) l ≡ (has eq (literals_of base) l || has eq (literals_of base) (opposite l))
  occurs-literals [] l = refl
  occurs-literals (n ∷ ns) l =
      rw (has-append laws n.clause (literals_of ns) l, has-append laws n.clause (literals_of ns) (opposite l), occurs-literals ns l)
      (interleave (has eq n.clause l) (has eq n.clause (opposite l)) (has eq (literals_of ns) l) (has eq (literals_of ns) (opposite l)))

-- a literal is over a base exactly where its variable is among the base's
pub over-variables : (base : List Named) (l : Lit) → is_over base l ≡ has same_lit (variables_of base) (variable_of l)
over-variables base l =
    occurs-literals same_lit opposite lit_laws base l
    ∙ sym (has-firsts lit_laws (map variable_of (literals_of base)) (variable_of l)
    ∙ has-variables lit_laws variable_of variable-cases (λ k. refl) (literals_of base) l)

pub over-opposite : (base : List Named) (l : Lit) → is_over base (opposite l) ≡ is_over base l
over-opposite base l = over-variables base (opposite l) ∙ sym (over-variables base l)

plain : (xs : List Lit) → AllByRecursion (λ (v : Lit). variable_of v ≡ v) (map variable_of xs)
plain [] = tt
plain (x ∷ xs) = (refl, plain xs)

-- a variable of the base has no sign
pub variables-plain : (base : List Named) (v : Lit) → has same_lit (variables_of base) v ≡ true → variable_of v ≡ v
variables-plain base v h =
    each-at lit_laws (λ (w : Lit). variable_of w ≡ w) (map variable_of (literals_of base)) v (plain (literals_of base))
    (sym (has-firsts lit_laws (map variable_of (literals_of base)) v) ∙ h)

pub variables-over : (base : List Named) (v : Lit) → has same_lit (variables_of base) v ≡ true → is_over base v ≡ true
variables-over base v h =
    over-variables base v ∙ ap (has same_lit (variables_of base)) (variables-plain base v h) ∙ h
