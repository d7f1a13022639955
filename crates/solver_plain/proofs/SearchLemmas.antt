-- The steps of a search, and what a clash teaches.
use Rattle.std.proofs.Common.{◌≡◌, ◌<◌, length, Bool, true, false, not, ◌||◌, List, [], ◌∷◌, ◌++◌, Option, Some, None, refl, sym, ap, ◌∙◌, subst, ◌⊎◌, inl, inr}
use Rattle.std.specs.Prelude.{map, filter}
use Rattle.std.specs.Bool.{OnTrue}
use Rattle.std.specs.Option.{is_some}
use Rattle.std.specs.List.{find}
use Rattle.std.proofs.lemmas.List.{map-append}
use Rattle.std.proofs.lemmas.List.Folds.{list_any-append}
use Rattle.std.proofs.lemmas.Bool.{or_cases, or_left, or_right, and_parts, or_parts, not-true}
use Rattle.lits.specs.Clause.{has, firsts, no_repeat, has_pair, IsClause}
use Rattle.lits.specs.declared.literal.Lit.{Lit}
use Rattle.lits.specs.declared.step.Ref.{Ref}
use Rattle.lits.specs.declared.step.Step.{Step}
use Rattle.lits.specs.contracts.literal.LitLiteral.TheImpl.Laws as lit
use Rattle.lits.proofs.Facts.{has-append, no_repeat-push, has_pair-push, all-append, lit_laws}
use Rattle.unit_prop.specs.Closure.{IsClosed}
use Rattle.unit_prop.specs.Propagation.{IsConsistent, IsFree}
use Rattle.unit_prop.specs.New.{occurs, others_negated, Lacks, IsNew}
use Rattle.unit_prop.specs.Step.{IsStep}
use Rattle.unit_prop.specs.Log.{base_clauses, clauses_of}
use Rattle.lits.specs.Same.{same_lit, opposite}
use Rattle.unit_prop.specs.Refuter.{is_over, IsOver}
use Rattle.unit_prop.proofs.Facts.{has-filter, has-map-opposite, contrary, alone}
use Rattle.solver_plain.specs.Literals.{is_free}
use Rattle.solver_plain.specs.Formula.{Clauses, clause_named, clauses_in, variables_of}
use Rattle.solver_plain.specs.Scan.{IsSound, IsFreeVariable, IsOpenClosure, IsClash, IsScan, ClashesFrom}
use Rattle.solver_plain.specs.Search.{IsLearnedFor}
use Rattle.solver_plain.proofs.ListLemmas.{all-each, find-some, firsts-once}
use Rattle.solver_plain.proofs.FormulaLemmas.{variables-over, over-opposite}
use Rattle.solver_plain.proofs.ScanLemmas.{sound-push, free-less}

consistent-cons : (x : Lit) (xs : List Lit) → has same_lit xs (opposite x) ≡ false → IsConsistent same_lit opposite xs
    → IsConsistent same_lit opposite (x ∷ xs)
consistent-cons x xs e is = record { apart = λ l h. go l (or_cases (same_lit x l) (has same_lit xs l) h) }
  where
    other : (l : Lit) → has same_lit xs l ≡ true → (b : Bool) → same_lit x (opposite l) ≡ b → same_lit x (opposite l) ≡ false
    other l k false f = f
    other l k true f =
        let at : opposite x ≡ l = ap opposite (lit_laws.exact x (opposite l) f) ∙ lit_laws.twice l in
        contrary _ k (ap (has same_lit xs) (sym at) ∙ e)

    go : (l : Lit) → (same_lit x l ≡ true) ⊎ (has same_lit xs l ≡ true) → (same_lit x (opposite l) || has same_lit xs (opposite l)) ≡ false
    go l (inl k) =
        subst (λ (z : Lit). (same_lit x (opposite z) || has same_lit xs (opposite z)) ≡ false) (lit_laws.exact x l k)
        (rw (lit.differs-law x, e) refl)
    go l (inr k) = rw (other l k (same_lit x (opposite l)) refl, is.apart l k) refl

-- a list without a pair has no literal beside its negation
pub consistent-clause : (xs : List Lit) → has_pair same_lit opposite xs ≡ false → IsConsistent same_lit opposite xs
consistent-clause [] pair = record { apart = λ l h. contrary _ h refl }
consistent-clause (x ∷ xs) pair =
    let parts = or_parts (has same_lit xs (opposite x)) (has_pair same_lit opposite xs) pair in
    consistent-cons x xs parts.0 (consistent-clause xs parts.1)

-- the negations of a clause are a sound set to begin with
pub sound-negations : (f : Clauses) (lits : List Lit) → IsClause same_lit opposite lits → IsOver f.base lits
    → IsSound f (map opposite (firsts same_lit lits))
sound-negations f lits clause over =
    subst (λ (xs : List Lit). IsSound f (map opposite xs)) (sym (firsts-once lit_laws lits clause.once)) (record {
      consistent = record { apart = λ l h. apart_at l h };
      over = over_at lits over;
    })
  where
    apart_at : (l : Lit) → has same_lit (map opposite lits) l ≡ true → has same_lit (map opposite lits) (opposite l) ≡ false
    apart_at l h =
        has-map-opposite lit_laws lits (opposite l)
        ∙ (consistent-clause lits clause.apart).apart (opposite l) (sym (has-map-opposite lit_laws lits l) ∙ h)

    over_at : (xs : List Lit) → IsOver f.base xs → IsOver f.base (map opposite xs)
    over_at [] all = tt
    over_at (x ∷ xs) all = (over-opposite f.base x ∙ all.0, over_at xs all.1)

-- hints from the negations of a clause to a clash make it a step
pub step-reached : (f : Clauses) (lits : List Lit) (hints : List Ref) → has_pair same_lit opposite lits ≡ false
    → IsClash f (map opposite (firsts same_lit lits)) hints → IsStep same_lit opposite (clause_named f) lits hints
step-reached f lits hints apart clash = rw apart clash.reached

pub closure-once : (f : Clauses) (lits set : List Lit) → no_repeat same_lit lits ≡ true
    → IsOpenClosure f (map opposite (firsts same_lit lits)) set → IsOpenClosure f (map opposite lits) set
closure-once f lits set once open_set =
    subst (λ (xs : List Lit). IsOpenClosure f (map opposite xs) set) (firsts-once lit_laws lits once) open_set

-- where the closure clashes no set is closed and doesn't
pub clash-not_open : (f : Clauses) (lits set : List Lit) → no_repeat same_lit lits ≡ true
    → ClashesFrom f (map opposite lits)
    → IsOpenClosure f (map opposite (firsts same_lit lits)) set → ⊥
clash-not_open f lits set once clashes open_set =
    let o = closure-once f lits set once open_set in o.apart (clashes (has same_lit set) o.closure.closed)

-- how far the decisions have come: the clause of their negations, and the closure of the decisions
pub record IsDeciding (f : Clauses) (target lits set : List Lit) : Type 0 where
  pub clause : IsClause same_lit opposite lits
  pub over : IsOver f.base lits
  pub begins : (l : Lit) → has same_lit target l ≡ true → has same_lit lits l ≡ true
  pub closure : IsOpenClosure f (map opposite lits) set

-- what is found free is a free variable of the base
pub free-first : (f : Clauses) (set : List Lit) (v : Lit) → find (is_free set) (variables_of f.base) ≡ Some v → IsFreeVariable f set v
free-first f set v e =
    let found = find-some lit_laws (is_free set) (variables_of f.base) v e in
    let free = and_parts _ _ found.1 in
    record { over = variables-over f.base v found.0; free = record { fresh = not-true _ free.0; apart = not-true _ free.1 } }

negation-free : (set : List Lit) (v : Lit) → IsFree same_lit opposite set v → IsFree same_lit opposite set (opposite v)
negation-free set v free = record { fresh = free.apart; apart = ap (has same_lit set) (lit_laws.twice v) ∙ free.fresh }

-- a decision keeps a set sound
pub decision-sound : (f : Clauses) (set : List Lit) (v : Lit) → IsSound f set → IsFreeVariable f set v
    → IsSound f (set ++ opposite v ∷ [])
decision-sound f set v sound free =
    sound-push f set (opposite v) sound (negation-free set v free.free) (over-opposite f.base v ∙ free.over)

module _ (f : Clauses) (target lits set : List Lit) (v : Lit) (d : IsDeciding f target lits set) (free : IsFreeVariable f set v) where
  -- what is in the clause so far is negated in the set
  negated_there : (l : Lit) → has same_lit lits l ≡ true → has same_lit set (opposite l) ≡ true
  negated_there l h =
      d.closure.closure.closed.starts (opposite l)
      (has-map-opposite lit_laws lits (opposite l) ∙ ap (has same_lit lits) (lit_laws.twice l) ∙ h)

  not_there : has same_lit lits v ≡ false
  not_there = go (has same_lit lits v) refl
    where
      go : (b : Bool) → has same_lit lits v ≡ b → has same_lit lits v ≡ false
      go false e = e
      go true e = let h = negated_there v e in let g = free.free.apart in cc

  negation_not_there : has same_lit lits (opposite v) ≡ false
  negation_not_there = go (has same_lit lits (opposite v)) refl
    where
      go : (b : Bool) → has same_lit lits (opposite v) ≡ b → has same_lit lits (opposite v) ≡ false
      go false e = e
      go true e = let h = sym (ap (has same_lit set) (lit_laws.twice v)) ∙ negated_there (opposite v) e in let g = free.free.fresh in cc

  pub decided-clause : IsClause same_lit opposite (lits ++ v ∷ [])
  decided-clause = record {
    once = no_repeat-push lit_laws lits v ∙ rw (d.clause.once, not_there) refl;
    apart = has_pair-push lit_laws lits v ∙ rw (d.clause.apart, negation_not_there) refl;
  }

  pub decided-over : IsOver f.base (lits ++ v ∷ [])
  decided-over = all-append (λ (l : Lit). is_over f.base l ≡ true) lits (v ∷ []) d.over (free.over, tt)

  -- a set closed from all decisions is closed from the closure of the earlier ones and the last
  closed-last : (p : Lit → Bool) → IsClosed same_lit opposite (clauses_in f) (map opposite (lits ++ v ∷ [])) p
      → IsClosed same_lit opposite (clauses_in f) (set ++ opposite v ∷ []) p
  closed-last p closed = record { starts = starts; units = closed.units }
    where
      given : (l : Lit) → has same_lit (map opposite (lits ++ v ∷ [])) l ≡ (has same_lit lits (opposite l) || has same_lit (v ∷ []) (opposite l))
      given l = has-map-opposite lit_laws (lits ++ v ∷ []) l ∙ has-append lit_laws lits (v ∷ []) (opposite l)

      earlier : IsClosed same_lit opposite (clauses_in f) (map opposite lits) p
      earlier = record {
        starts = λ l h. closed.starts l (given l ∙ or_left _ _ (sym (has-map-opposite lit_laws lits l) ∙ h));
        units = closed.units;
      }

      last : p (opposite v) ≡ true
      last =
          closed.starts (opposite v) (given (opposite v)
          ∙ or_right (has same_lit lits (opposite (opposite v))) _ (or_left _ _ (ap (same_lit v) (lit_laws.twice v) ∙ lit_laws.equivalence.refl v)))

      starts : (l : Lit) → has same_lit (set ++ opposite v ∷ []) l ≡ true → p l ≡ true
      starts l h = which (or_cases (has same_lit set l) (has same_lit (opposite v ∷ []) l) (sym (has-append lit_laws set (opposite v ∷ []) l) ∙ h))
        where
          which : (has same_lit set l ≡ true) ⊎ (has same_lit (opposite v ∷ []) l ≡ true) → p l ≡ true
          which (inl k) = d.closure.closure.least p earlier l k
          which (inr k) = ap p (sym (lit_laws.exact (opposite v) l (alone _ k))) ∙ last

  pub decided-clashes : ClashesFrom f (set ++ opposite v ∷ [])
      → ClashesFrom f (map opposite (lits ++ v ∷ []))
  decided-clashes clashes p closed = clashes p (closed-last p closed)

  -- the decision and what it forces join the closure
  pub deciding-next : (set' : List Lit) → IsOpenClosure f (set ++ opposite v ∷ []) set' → IsDeciding f target (lits ++ v ∷ []) set'
  deciding-next set' o = record {
    clause = decided-clause;
    over = decided-over;
    begins = λ l h. has-append lit_laws lits (v ∷ []) l ∙ or_left _ _ (d.begins l h);
    closure = record {
      closure = record {
        closed = record { starts = starts; units = o.closure.closed.units };
        least = λ p closed. o.closure.least p (closed-last p closed);
      };
      apart = o.apart;
      sound = o.sound;
    };
  }
    where
      starts : (l : Lit) → has same_lit (map opposite (lits ++ v ∷ [])) l ≡ true → has same_lit set' l ≡ true
      starts l h =
          o.closure.closed.starts l (has-append lit_laws set (opposite v ∷ []) l
          ∙ which (or_cases (has same_lit (map opposite lits) l) (has same_lit (opposite v ∷ []) l)
          (sym (has-append lit_laws (map opposite lits) (opposite v ∷ []) l) ∙ ap (λ (xs : List Lit). has same_lit xs l) (sym (map-append opposite lits (v ∷ []))) ∙ h)))
        where
          which : (has same_lit (map opposite lits) l ≡ true) ⊎ (has same_lit (opposite v ∷ []) l ≡ true)
              → (has same_lit set l || has same_lit (opposite v ∷ []) l) ≡ true
          which (inl k) = or_left _ _ (d.closure.closure.closed.starts l k)
          which (inr k) = or_right (has same_lit set l) _ k

  pub deciding-less : (set' : List Lit) → IsOpenClosure f (set ++ opposite v ∷ []) set'
      → length (filter (is_free set') (variables_of f.base)) < length (filter (is_free set) (variables_of f.base))
  deciding-less set' o =
      free-less f.base set set' (opposite v)
      (λ l h. o.closure.closed.starts l (has-append lit_laws set (opposite v ∷ []) l ∙ or_left _ _ h))
      (over-opposite f.base v ∙ free.over)
      (negation-free set v free.free)
      (o.closure.closed.starts (opposite v) (has-append lit_laws set (opposite v ∷ []) (opposite v)
      ∙ or_right (has same_lit set (opposite v)) _ (or_left _ _ (lit_laws.equivalence.refl (opposite v)))))

  -- before the last decision nothing clashed, and its variable was free
  lacks-last : Lacks same_lit opposite (clauses_in f) (others_negated same_lit opposite (lits ++ v ∷ []) v) v
  lacks-last = record {
    set = has same_lit set;
    closed = record { starts = starts; units = d.closure.closure.closed.units };
    apart = d.closure.apart;
    lacks = free.free.fresh;
  }
    where
      starts : (l : Lit) → has same_lit (others_negated same_lit opposite (lits ++ v ∷ []) v) l ≡ true → has same_lit set l ≡ true
      starts l h =
          let kept : has same_lit (filter (λ m. not (same_lit m v)) (lits ++ v ∷ [])) (opposite l) ≡ true =
          sym (has-map-opposite lit_laws (filter (λ m. not (same_lit m v)) (lits ++ v ∷ [])) l) ∙ h in
          let both = and_parts _ _ (sym (has-filter lit_laws (λ m. not (same_lit m v)) (lits ++ v ∷ []) (opposite l)) ∙ kept) in
          which (not-true _ both.1) (or_cases (has same_lit lits (opposite l)) (has same_lit (v ∷ []) (opposite l)) (sym (has-append lit_laws lits (v ∷ []) (opposite l)) ∙ both.0))
        where
          which : same_lit (opposite l) v ≡ false → (has same_lit lits (opposite l) ≡ true) ⊎ (has same_lit (v ∷ []) (opposite l) ≡ true) → has same_lit set l ≡ true
          which apart (inl k) = d.closure.closure.closed.starts l (has-map-opposite lit_laws lits l ∙ k)
          which apart (inr k) =
              let g : same_lit (opposite l) v ≡ true = lit_laws.equivalence.symm (opposite l) v ∙ alone _ k in cc

  learned-new : (clause : List Lit) → clause ≡ lits ++ v ∷ [] → IsNew same_lit opposite (clauses_of f.base f.log) clause
  learned-new clause e = subst (λ (c : List Lit). IsNew same_lit opposite (clauses_of f.base f.log) c) (sym e) (record {
    known = all-each (λ (l : Lit). is_over f.base l ≡ true) (λ (l : Lit). occurs same_lit opposite (clauses_of f.base f.log) l ≡ true)
        (lits ++ v ∷ []) known decided-over;
    lit = v;
    inside = has-append lit_laws lits (v ∷ []) v ∙ or_right (has same_lit lits v) _ (or_left _ _ (lit_laws.equivalence.refl v));
    missed = lacks-last;
  })
    where
      known : (l : Lit) → is_over f.base l ≡ true → occurs same_lit opposite (clauses_of f.base f.log) l ≡ true
      known l h =
          list_any-append (λ c. has same_lit c l || has same_lit c (opposite l)) (base_clauses f.base) (map (λ s. s.clause) f.log)
          ∙ or_left _ _ h

  -- what the clash teaches, where the target's negations alone don't clash
  pub learned-for : (first : List Lit) → IsOpenClosure f (map opposite target) first → (step : Step) → step.clause ≡ lits ++ v ∷ []
      → IsStep same_lit opposite (clause_named f) step.clause step.hints → IsLearnedFor f target step
  learned-for first o step e shown = record {
    over = subst (λ (c : List Lit). IsOver f.base c) (sym e) decided-over;
    undecided = record { set = has same_lit first; closed = o.closure.closed; apart = o.apart };
    learned = record { step = shown; new = learned-new step.clause e };
  }

-- what a scan after a decision answers
pub decision-clashes : (f : Clauses) (given set : List Lit) (o : Option (List Ref)) → IsScan f given set o
    → OnTrue (is_some o) (ClashesFrom f given)
decision-clashes f given set None scan = tt
decision-clashes f given set (Some hints) scan = scan.clashes
