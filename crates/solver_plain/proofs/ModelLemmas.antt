-- A closure that has every variable of the base is a model of it.
use Rattle.std.proofs.Common.{◌≡◌, Bool, true, false, ◌||◌, List, [], ◌∷◌, None, refl, sym, ap, ◌∙◌, ◌⊎◌, inl, inr}
use Rattle.std.specs.Prelude.{map}
use Rattle.std.specs.List.{list_any, find, AllByRecursion}
use Rattle.std.proofs.lemmas.Bool.{or_cases, or_left, or_right, and_parts, or_parts, not-true}
use Rattle.lits.specs.Clause.{has, no_repeat, has_pair, IsClause}
use Rattle.lits.specs.declared.literal.Lit.{Lit}
use Rattle.lits.proofs.Facts.{IsLiteral, lit_laws}
use Rattle.unit_prop.specs.Closure.{is_negated}
use Rattle.unit_prop.specs.Log.{base_clauses}
use Rattle.lits.specs.Same.{same_lit, opposite}
use Rattle.unit_prop.specs.Refuter.{is_over, IsOver, IsModel}
use Rattle.unit_prop.proofs.Facts.{all-true, has-head, has-map-opposite}
use Rattle.solver_plain.specs.Literals.{variable_of, is_free, value_in}
use Rattle.solver_plain.specs.Formula.{Clauses, clauses_in, literals_of, variables_of}
use Rattle.solver_plain.specs.Scan.{IsSound, IsOpenClosure}
use Rattle.solver_plain.proofs.ListLemmas.{each-at, each-of, all-left, all-fail, find-none, once-firsts}
use Rattle.solver_plain.proofs.FormulaLemmas.{over-variables, over-opposite, variable-cases, variables-plain, variables-over, is_free-variable, all-occur}
use Rattle.solver_plain.proofs.SearchLemmas.{IsDeciding}

module _ {L : Type 0} {eq : L → L → Bool} {opposite : L → L} (laws : IsLiteral eq opposite) where
  -- a function that another undoes keeps a list without repeats
  pub once-map : (f g : L → L) (xs : List L) → ((x : L) → has eq xs x ≡ true → g (f x) ≡ x) → no_repeat eq xs ≡ true
      → no_repeat eq (map f xs) ≡ true
  once-map f g [] undone once = refl
  once-map f g (x ∷ xs) undone once =
      let both = and_parts _ _ once in
      rw (
        apart xs (λ y h. undone y (or_right (eq x y) _ h)) (not-true _ both.0),
        once-map f g xs (λ y h. undone y (or_right (eq x y) _ h)) both.1,
      ) refl
    where
      apart : (ys : List L) → ((y : L) → has eq ys y ≡ true → g (f y) ≡ y) → has eq ys x ≡ false → has eq (map f ys) (f x) ≡ false
      apart [] back e = refl
      apart (y ∷ ys) back e = go (eq y x) (eq (f y) (f x)) refl refl (apart ys (λ z h. back z (or_right (eq y z) _ h)))
        where
          go : (a b : Bool) → eq y x ≡ a → eq (f y) (f x) ≡ b → (has eq ys x ≡ false → has eq (map f ys) (f x) ≡ false)
              → has eq (map f (y ∷ ys)) (f x) ≡ false
          go true b h k rest = let m : true ≡ false = rw h at e in cc
          go false false h k rest = rw k (rest (rw h at e))
          go false true h k rest =
              let at : f y ≡ f x = laws.exact _ _ k in
              let same : y ≡ x = sym (back y (has-head laws y ys)) ∙ ap g at ∙ undone x (has-head laws x xs) in
              let m : eq y x ≡ true = ap (λ (z : L). eq z x) same ∙ laws.equivalence.refl x in cc

  pub has-map : (f : L → L) (xs : List L) (x : L) → has eq xs x ≡ true → has eq (map f xs) (f x) ≡ true
  has-map f [] x h = cc
  has-map f (y ∷ ys) x h = go (or_cases (eq y x) (has eq ys x) h) (has-map f ys x)
    where
      go : (eq y x ≡ true) ⊎ (has eq ys x ≡ true) → (has eq ys x ≡ true → has eq (map f ys) (f x) ≡ true)
          → has eq (map f (y ∷ ys)) (f x) ≡ true
      go (inl e) rest = or_left _ _ (ap (λ (z : L). eq (f z) (f x)) (laws.exact y x e) ∙ laws.equivalence.refl (f x))
      go (inr e) rest = or_right (eq (f y) (f x)) _ (rest e)

  pub all-map : (P : L → Type 0) (f : L → L) (xs : List L) → ((x : L) → has eq xs x ≡ true → P (f x)) → AllByRecursion P (map f xs)
  all-map P f [] each = tt
  all-map P f (x ∷ xs) each = (each x (has-head laws x xs), all-map P f xs (λ y h. each y (or_right (eq x y) _ h)))

  -- where no literal of the list stands beside its negation there is no pair
  pub pair-none : (xs : List L) → ((l : L) → has eq xs l ≡ true → has eq xs (opposite l) ≡ false) → has_pair eq opposite xs ≡ false
  pair-none [] apart = refl
  pair-none (x ∷ xs) apart =
      rw (
        (or_parts (eq x (opposite x)) (has eq xs (opposite x)) (apart x (has-head laws x xs))).1,
        pair-none xs (λ l h. (or_parts (eq x (opposite l)) (has eq xs (opposite l)) (apart l (or_right (eq x l) _ h))).1),
      ) refl

module _ (f : Clauses) (set : List Lit) (sound : IsSound f set) (full : find (is_free set) (variables_of f.base) ≡ None) where
  -- each literal over the base has a value
  valued : (l : Lit) → is_over f.base l ≡ true → (has same_lit set l ≡ true) ⊎ (has same_lit set (opposite l) ≡ true)
  valued l over = go (has same_lit set l) (has same_lit set (opposite l)) refl refl taken
    where
      taken : is_free set l ≡ false
      taken =
          sym (is_free-variable set l)
          ∙ find-none lit_laws (is_free set) (variables_of f.base) (variable_of l) full (sym (over-variables f.base l) ∙ over)

      go : (a b : Bool) → has same_lit set l ≡ a → has same_lit set (opposite l) ≡ b → is_free set l ≡ false
          → (has same_lit set l ≡ true) ⊎ (has same_lit set (opposite l) ≡ true)
      go true b e g t = inl e
      go false true e g t = inr g
      go false false e g t = let h : true ≡ false = rw (e, g) at t in cc

  -- a variable's value is in the set
  value-there : (v : Lit) → is_over f.base v ≡ true → has same_lit set (value_in set v) ≡ true
  value-there v over = go (has same_lit set v) refl (valued v over)
    where
      go : (b : Bool) → has same_lit set v ≡ b → (has same_lit set v ≡ true) ⊎ (has same_lit set (opposite v) ≡ true)
          → has same_lit set (value_in set v) ≡ true
      go true e which = rw e e
      go false e (inl g) = cc
      go false e (inr g) = rw e g

  -- a literal of the set is its variable's value
  value-of : (l : Lit) → has same_lit set l ≡ true → value_in set (variable_of l) ≡ l
  value-of l h = go (variable-cases l)
    where
      go : (variable_of l ≡ l) ⊎ (variable_of l ≡ opposite l) → value_in set (variable_of l) ≡ l
      go (inl e) = ap (value_in set) e ∙ rw h refl
      go (inr e) = let none = sound.consistent.apart l h in ap (value_in set) e ∙ rw none (lit_laws.twice l)

  value-plain : (v : Lit) → variable_of v ≡ v → variable_of (value_in set v) ≡ v
  value-plain v plain = go (has same_lit set v) refl
    where
      go : (b : Bool) → has same_lit set v ≡ b → variable_of (value_in set v) ≡ v
      go true e = rw e plain
      go false e = rw e plain

  model-has : (l : Lit) → is_over f.base l ≡ true → has same_lit set l ≡ true
      → has same_lit (map (value_in set) (variables_of f.base)) l ≡ true
  model-has l over h =
      ap (has same_lit (map (value_in set) (variables_of f.base))) (sym (value-of l h))
      ∙ has-map lit_laws (value_in set) (variables_of f.base) (variable_of l) (sym (over-variables f.base l) ∙ over)

  model-set : AllByRecursion (λ (l : Lit). has same_lit set l ≡ true) (map (value_in set) (variables_of f.base))
  model-set =
      all-map lit_laws (λ (l : Lit). has same_lit set l ≡ true) (value_in set) (variables_of f.base)
      (λ v h. value-there v (variables-over f.base v h))

  in-set : (l : Lit) → has same_lit (map (value_in set) (variables_of f.base)) l ≡ true → has same_lit set l ≡ true
  in-set l h = each-at lit_laws (λ (k : Lit). has same_lit set k ≡ true) (map (value_in set) (variables_of f.base)) l model-set h

  model-clause : IsClause same_lit opposite (map (value_in set) (variables_of f.base))
  model-clause = record {
    once = once-map lit_laws (value_in set) variable_of (variables_of f.base) (λ v h. value-plain v (variables-plain f.base v h))
        (once-firsts lit_laws (map variable_of (literals_of f.base)));
    apart = pair-none lit_laws (map (value_in set) (variables_of f.base)) (λ l h. other l (sound.consistent.apart l (in-set l h)));
  }
    where
      other : (l : Lit) → has same_lit set (opposite l) ≡ false → has same_lit (map (value_in set) (variables_of f.base)) (opposite l) ≡ false
      other l e = go (has same_lit (map (value_in set) (variables_of f.base)) (opposite l)) refl
        where
          go : (b : Bool) → has same_lit (map (value_in set) (variables_of f.base)) (opposite l) ≡ b
              → has same_lit (map (value_in set) (variables_of f.base)) (opposite l) ≡ false
          go false g = g
          go true g = let h = in-set (opposite l) g in cc

  -- a clause that the set doesn't negate has a literal of the model
  clause-met : (c : List Lit) → IsOver f.base c → is_negated opposite (has same_lit set) c ≡ false
      → list_any (has same_lit (map (value_in set) (variables_of f.base))) c ≡ true
  clause-met c over e = go (list_any (has same_lit (map (value_in set) (variables_of f.base))) c) refl
    where
      go : (b : Bool) → list_any (has same_lit (map (value_in set) (variables_of f.base))) c ≡ b
          → list_any (has same_lit (map (value_in set) (variables_of f.base))) c ≡ true
      go true g = g
      go false g =
          let negated : is_negated opposite (has same_lit set) c ≡ true =
          all-true lit_laws (λ m. has same_lit set (opposite m)) c
          (λ m h. which m (each-at lit_laws (λ (k : Lit). is_over f.base k ≡ true) c m over h)
          (each-at lit_laws (λ (k : Lit). has same_lit (map (value_in set) (variables_of f.base)) k ≡ false) c m
          (all-fail (has same_lit (map (value_in set) (variables_of f.base))) c g) h)) in
          cc
        where
          which : (m : Lit) → is_over f.base m ≡ true → has same_lit (map (value_in set) (variables_of f.base)) m ≡ false
              → has same_lit set (opposite m) ≡ true
          which m over_m none = value (valued m over_m)
            where
              value : (has same_lit set m ≡ true) ⊎ (has same_lit set (opposite m) ≡ true) → has same_lit set (opposite m) ≡ true
              value (inl k) = let there = model-has m over_m k in cc
              value (inr k) = k

-- what follows from two properties holds of each clause that has both
pub all-both : (P Q R : List Lit → Type 0) (xs : List (List Lit)) → ((x : List Lit) → P x → Q x → R x) → AllByRecursion P xs
    → AllByRecursion Q xs → AllByRecursion R xs
all-both P Q R [] join ps qs = tt
all-both P Q R (x ∷ xs) join ps qs = (join x ps.0 qs.0, all-both P Q R xs join ps.1 qs.1)

-- no clause of the base is negated in an open closure
not_negated : (f : Clauses) (given set : List Lit) → IsOpenClosure f given set
    → AllByRecursion (λ c. is_negated opposite (has same_lit set) c ≡ false) (base_clauses f.base)
not_negated f given set o =
    all-left (λ c. is_negated opposite (has same_lit set) c ≡ false) (base_clauses f.base) (map (λ s. s.clause) f.log)
    (all-fail (is_negated opposite (has same_lit set)) (clauses_in f) (go (list_any (is_negated opposite (has same_lit set)) (clauses_in f)) refl))
  where
    go : (b : Bool) → list_any (is_negated opposite (has same_lit set)) (clauses_in f) ≡ b
        → list_any (is_negated opposite (has same_lit set)) (clauses_in f) ≡ false
    go false e = e
    go true e = absurd (o.apart (inl e))

-- decisions that leave no variable free give a model of the base in which the target is false
pub model-full : (f : Clauses) (target lits set : List Lit) → IsDeciding f target lits set
    → find (is_free set) (variables_of f.base) ≡ None → IsModel f.base target (map (value_in set) (variables_of f.base))
model-full f target lits set d full = record {
  once = model-clause f set d.closure.sound full;
  within = each-of lit_laws (λ (l : Lit). is_over f.base l ≡ true) (map (value_in set) (variables_of f.base))
      (λ l h. each-at lit_laws (λ (k : Lit). is_over f.base k ≡ true) set l d.closure.sound.over (in-set f set d.closure.sound full l h));
  whole = λ l over. some l over (valued f set d.closure.sound full l over);
  meets = all-both (IsOver f.base) (λ c. is_negated opposite (has same_lit set) c ≡ false)
      (λ c. list_any (has same_lit (map (value_in set) (variables_of f.base))) c ≡ true) (base_clauses f.base)
      (clause-met f set d.closure.sound full) (all-occur lit_laws (base_clauses f.base))
      (not_negated f (map opposite lits) set d.closure);
  refutes = all-true lit_laws (λ l. has same_lit (map (value_in set) (variables_of f.base)) (opposite l)) target
      (λ l h. model-has f set d.closure.sound full (opposite l)
      (over-opposite f.base l ∙ each-at lit_laws (λ (k : Lit). is_over f.base k ≡ true) lits l d.over (d.begins l h))
      (d.closure.closure.closed.starts (opposite l)
      (has-map-opposite lit_laws lits (opposite l) ∙ ap (has same_lit lits) (lit_laws.twice l) ∙ d.begins l h)));
}
  where
    some : (l : Lit) → is_over f.base l ≡ true → (has same_lit set l ≡ true) ⊎ (has same_lit set (opposite l) ≡ true)
        → (has same_lit (map (value_in set) (variables_of f.base)) l || has same_lit (map (value_in set) (variables_of f.base)) (opposite l)) ≡ true
    some l over (inl h) = or_left _ _ (model-has f set d.closure.sound full l over h)
    some l over (inr h) =
        or_right (has same_lit (map (value_in set) (variables_of f.base)) l) _
        (model-has f set d.closure.sound full (opposite l) (over-opposite f.base l ∙ over) h)
