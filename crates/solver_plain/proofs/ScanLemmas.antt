-- The steps of a scan.
use Rattle.std.proofs.Common.{◌≡◌, ℕ, ◌+◌, ◌<◌, length, take, get_or, Bool, true, false, List, [], ◌∷◌, ◌++◌, Option, None, Ok, refl, sym, ap, ◌∙◌, subst}
use Rattle.std.specs.Prelude.{map, filter, if◌then◌else◌}
use Rattle.std.specs.List.{AllByRecursion}
use Rattle.std.proofs.lemmas.List.{take_more, map-append}
use Rattle.std.proofs.lemmas.Bool.{or_left, or_right, and_parts, not-true}
use Rattle.lits.specs.Clause.{has, firsts}
use Rattle.lits.specs.declared.literal.Lit.{Lit}
use Rattle.lits.specs.declared.step.Named.{Named}
use Rattle.lits.specs.declared.step.Ref.{Ref}
use Rattle.lits.specs.contracts.literal.LitLiteral.TheImpl.Laws as lit
use Rattle.lits.proofs.Facts.{has-append, has-firsts, firsts-push, all-append, lit_laws}
use Rattle.unit_prop.specs.Closure.{is_negated}
use Rattle.unit_prop.specs.Propagation.{IsFree, is_forced_by, IsSettled}
use Rattle.unit_prop.specs.Step.{State, after_found, fault_from}
use Rattle.lits.specs.Same.{same_lit, opposite}
use Rattle.unit_prop.specs.Refuter.{is_over, IsOver}
use Rattle.unit_prop.proofs.Facts.{contrary, has-map-opposite, IsRound, round-next, round-clash, round-last, consistent-push}
use Rattle.solver_plain.specs.declared.effect.Effect.{Effect}
use Rattle.solver_plain.specs.declared.effect.Effect.TheVariants.{Clashes, Forces}
use Rattle.solver_plain.specs.declared.formula.Hint.{Hint}
use Rattle.solver_plain.specs.Literals.{variable_of, is_free, with_lit}
use Rattle.solver_plain.specs.Formula.{Clauses, clause_named, clauses_in, variables_of}
use Rattle.solver_plain.specs.Effect.{IsUnit, IsQuiet, HasEffect, IsHint}
use Rattle.solver_plain.specs.Scan.{IsSound, IsOpenClosure, IsClash}
use Rattle.solver_plain.proofs.ListLemmas.{each-at, all-each, none-passes, filter-lt}
use Rattle.solver_plain.proofs.EffectLemmas.{after-negated, after-unit}
use Rattle.solver_plain.proofs.NameLemmas.{all-named, any-named}
use Rattle.solver_plain.proofs.FormulaLemmas.{over-variables, is_free-variable}

-- one more negation
pub negations-next : (lits set new : List Lit) (i : ℕ) (d y : Lit) → i < length lits
    → set ≡ map opposite (firsts same_lit (take i lits)) → y ≡ opposite (get_or lits i d)
    → new ≡ with_lit set y → new ≡ map opposite (firsts same_lit (take (i + 1) lits))
negations-next lits set new i d y below so_far at e = go (has same_lit (take i lits) (get_or lits i d)) refl
  where
    there : has same_lit set y ≡ has same_lit (take i lits) (get_or lits i d)
    there =
        rw (so_far, at, has-map-opposite lit_laws (firsts same_lit (take i lits)) (opposite (get_or lits i d)))
        (ap (λ (z : Lit). has same_lit (firsts same_lit (take i lits)) z) (lit_laws.twice (get_or lits i d))
        ∙ has-firsts lit_laws (take i lits) (get_or lits i d))

    grown : firsts same_lit (take (i + 1) lits)
        ≡ (if has same_lit (take i lits) (get_or lits i d) then firsts same_lit (take i lits)
        else firsts same_lit (take i lits) ++ get_or lits i d ∷ [])
    grown = ap (firsts same_lit) (take_more lits i d below) ∙ firsts-push lit_laws (take i lits) (get_or lits i d)

    go : (b : Bool) → has same_lit (take i lits) (get_or lits i d) ≡ b → new ≡ map opposite (firsts same_lit (take (i + 1) lits))
    go true f =
        let same : new ≡ set = e ∙ rw (there ∙ f) refl in
        let kept : firsts same_lit (take (i + 1) lits) ≡ firsts same_lit (take i lits) = grown ∙ rw f refl in
        rw (same, kept) so_far
    go false f =
        let one : new ≡ set ++ y ∷ [] = e ∙ rw (there ∙ f) refl in
        let kept : firsts same_lit (take (i + 1) lits) ≡ firsts same_lit (take i lits) ++ get_or lits i d ∷ [] = grown ∙ rw f refl in
        rw (one, kept, so_far, at) (sym (map-append opposite (firsts same_lit (take i lits)) (get_or lits i d ∷ [])))

-- the hints bring a step from one state to another
abbrev pub Brings : {N L : Type 0} → (L → L → Bool) → (L → L) → (N → Option (List L)) → State L → List N → State L → Type 0
Brings eq opposite find s [] t = s ≡ t
Brings {L = L} eq opposite find s (n ∷ ns) t =
    (u : State L) × (after_found eq opposite s (find n) ≡ Ok u) × Brings eq opposite find u ns t

module _ {N L : Type 0} (eq : L → L → Bool) (opposite : L → L) (find : N → Option (List L)) where
  pub brings-push : (s : State L) (hints : List N) (t u : State L) (n : N) → Brings eq opposite find s hints t
      → after_found eq opposite t (find n) ≡ Ok u → Brings eq opposite find s (hints ++ n ∷ []) u
  brings-push s [] t u n here e = (u, ap (λ (z : State L). after_found eq opposite z (find n)) here ∙ e, refl)
  brings-push s (m ∷ ms) t u n here e = (here.0, here.1, brings-push here.0 ms t u n here.2 e)

  -- hints that end at a wholly negated clause have no fault
  pub brings-fault : (place : ℕ) (s : State L) (hints : List N) (t : State L) → Brings eq opposite find s hints t
      → t.clashed ≡ true → fault_from eq opposite find place s hints ≡ None
  brings-fault place s [] t here clash =
      let e : s.clashed ≡ true = ap (λ (z : State L). z.clashed) here ∙ clash in rw e refl
  brings-fault place s (n ∷ ns) t here clash = rw here.1 (brings-fault (place + 1) here.0 ns t here.2 clash)

-- a scan or a decision gives a value to a variable of the base that had none
pub free-less : (base : List Named) (set set' : List Lit) (x : Lit) → ((l : Lit) → has same_lit set l ≡ true → has same_lit set' l ≡ true)
    → is_over base x ≡ true → IsFree same_lit opposite set x → has same_lit set' x ≡ true
    → length (filter (is_free set') (variables_of base)) < length (filter (is_free set) (variables_of base))
free-less base set set' x more over free now =
    filter-lt lit_laws (is_free set) (is_free set') (variables_of base) (variable_of x) less
    (sym (over-variables base x) ∙ over) (is_free-variable set x ∙ rw (free.fresh, free.apart) refl) (is_free-variable set' x ∙ rw now refl)
  where
    still : (k : Lit) → (b : Bool) → has same_lit set k ≡ b → has same_lit set' k ≡ false → has same_lit set k ≡ false
    still k false g e = g
    still k true g e = contrary _ (more k g) e

    less : (l : Lit) → is_free set' l ≡ true → is_free set l ≡ true
    less l f =
        let parts = and_parts _ _ f in
        rw (
          still l (has same_lit set l) refl (not-true _ parts.0),
          still (opposite l) (has same_lit set (opposite l)) refl (not-true _ parts.1),
        ) refl

-- how far a scan from the given literals has come
pub record IsScanning (f : Clauses) (given set : List Lit) (hints : List Ref) : Type 0 where
  pub brings : Brings same_lit opposite (clause_named f) (record { set = given; clashed = false }) hints (record { set = set; clashed = false })
  pub round : IsRound same_lit opposite (clauses_in f) given set
  pub over : IsOver f.base set

pub scanning-start : (f : Clauses) (given : List Lit) → IsSound f given → IsScanning f given given []
scanning-start f given sound = record {
  brings = refl;
  round = record { starts = λ l h. h; least = λ p closed. closed.starts; consistent = sound.consistent };
  over = sound.over;
}

-- a set stays sound where a free literal joins it
pub sound-push : (f : Clauses) (set : List Lit) (x : Lit) → IsSound f set → IsFree same_lit opposite set x → is_over f.base x ≡ true
    → IsSound f (set ++ x ∷ [])
sound-push f set x sound free here = record {
  consistent = consistent-push lit_laws lit.differs-law (clauses_in f) set set x sound.consistent free;
  over = all-append (λ (l : Lit). is_over f.base l ≡ true) set (x ∷ []) sound.over (here, tt);
}

-- what the hint's clause forces
hint-unit : (f : Clauses) (set : List Lit) (h : Hint) (x : Lit) → (hint : IsHint (clause_named f) set h) → h.effect ≡ Forces x
    → IsUnit same_lit opposite set hint.clause x
hint-unit f set h x hint e = subst (λ (k : Effect). HasEffect set hint.clause k) e hint.acts

module _ (f : Clauses) (over : AllByRecursion (IsOver f.base) (clauses_in f)) where
  forces-over : (set : List Lit) (h : Hint) (x : Lit) → IsHint (clause_named f) set h → h.effect ≡ Forces x → is_over f.base x ≡ true
  forces-over set h x hint e =
      each-at lit_laws (λ (l : Lit). is_over f.base l ≡ true) hint.clause x
      (all-named (IsOver f.base) f.base f.log h.by hint.clause over hint.named)
      (and_parts _ _ (hint-unit f set h x hint e).forced).0

  pub scanning-next : (given set : List Lit) (hints : List Ref) (h : Hint) (x : Lit) → IsScanning f given set hints
      → IsHint (clause_named f) set h → h.effect ≡ Forces x → IsScanning f given (set ++ x ∷ []) (hints ++ h.by ∷ [])
  scanning-next given set hints h x s hint e =
      let unit = hint-unit f set h x hint e in
      record {
        brings = brings-push same_lit opposite (clause_named f) (record { set = given; clashed = false }) hints
            (record { set = set; clashed = false }) (record { set = set ++ x ∷ []; clashed = false }) h.by s.brings
            (rw hint.named (after-unit lit_laws set hint.clause x s.round.consistent unit));
        round = round-next lit_laws lit.differs-law (clauses_in f) given set x s.round unit.free
            (any-named (is_forced_by same_lit opposite set x) f.base f.log h.by hint.clause hint.named unit.forced);
        over = all-append (λ (l : Lit). is_over f.base l ≡ true) set (x ∷ []) s.over (forces-over set h x hint e, tt);
      }

  pub scanning-less : (set : List Lit) (h : Hint) (x : Lit) → IsHint (clause_named f) set h → h.effect ≡ Forces x
      → length (filter (is_free (set ++ x ∷ [])) (variables_of f.base)) < length (filter (is_free set) (variables_of f.base))
  scanning-less set h x hint e =
      let unit = hint-unit f set h x hint e in
      free-less f.base set (set ++ x ∷ []) x (λ l g. has-append lit_laws set (x ∷ []) l ∙ or_left _ _ g)
      (forces-over set h x hint e) unit.free
      (has-append lit_laws set (x ∷ []) x ∙ or_right (has same_lit set x) _ (or_left _ _ (lit_laws.equivalence.refl x)))

pub scanning-clash : (f : Clauses) (given set : List Lit) (hints : List Ref) (h : Hint) → IsScanning f given set hints
    → IsHint (clause_named f) set h → h.effect ≡ Clashes → IsClash f given (hints ++ h.by ∷ [])
scanning-clash f given set hints h s hint e = record {
  reached = brings-fault same_lit opposite (clause_named f) 1 (record { set = given; clashed = false }) (hints ++ h.by ∷ [])
      (record { set = set; clashed = true })
      (brings-push same_lit opposite (clause_named f) (record { set = given; clashed = false }) hints
      (record { set = set; clashed = false }) (record { set = set; clashed = true }) h.by s.brings
      (rw hint.named (after-negated lit_laws set hint.clause s.round.consistent negated)))
      refl;
  clashes = round-clash (clauses_in f) given set s.round
      (any-named (is_negated opposite (has same_lit set)) f.base f.log h.by hint.clause hint.named negated);
}
  where
    negated : is_negated opposite (has same_lit set) hint.clause ≡ true
    negated = subst (λ (k : Effect). HasEffect set hint.clause k) e hint.acts

-- where no clause does anything more, the set is the closure
pub scanning-quiet : (f : Clauses) (given set : List Lit) (hints : List Ref) → IsScanning f given set hints
    → AllByRecursion (IsQuiet same_lit opposite set) (clauses_in f) → IsOpenClosure f given set
scanning-quiet f given set hints s quiet =
    let last = round-last (clauses_in f) given set s.round
    (none-passes (is_negated opposite (has same_lit set)) (clauses_in f)
    (all-each (IsQuiet same_lit opposite set) (λ c. is_negated opposite (has same_lit set) c ≡ false) (clauses_in f) (λ c q. q.not_negated) quiet))
    (all-each (IsQuiet same_lit opposite set) (IsSettled same_lit opposite set) (clauses_in f) (λ c q. q.settled) quiet) in
    record { closure = last.0; apart = last.1; sound = record { consistent = s.round.consistent; over = s.over } }
