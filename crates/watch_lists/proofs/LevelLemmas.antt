-- The literals of a trail up to some place are the closure of the decisions among them.
use Rattle.std.proofs.Common.{◌≡◌, ℕ, zero, suc, ◌<◌, ◌≤◌, Bool, true, false, List, [], ◌∷◌, length, refl, sym, ◌∙◌, subst, arith, get_or, take, nat_eq, inl, inr, Option, Some, None}
use Rattle.std.specs.List.{list_any, AllByRecursion}
use Rattle.std.specs.Prelude.{IfNone, IfSome}
use Rattle.std.proofs.lemmas.List.{get_or-take, length-take-le, take_all, get_or_default}
use Rattle.std.proofs.lemmas.List.Elements.{recursion_from_All, All-from_recursion}
use Rattle.std.proofs.lemmas.Bool.{or_cases, or_left, or_right, cases_Bool}
use Rattle.lits.specs.Clause.{has}
use Rattle.unit_prop.specs.Closure.{forces, is_negated, IsClosed, Clashes, IsClosure, ClosureClashes}
use Rattle.unit_prop.specs.Propagation.{IsSettled}
use Rattle.unit_prop.proofs.Facts.{contrary, IsRound, round-clash, round-last, forces-more}
use Rattle.watch_lists.specs.Codes.{flip}
use Rattle.watch_lists.specs.State.{codes_at, AreGuards, IsMarked, IsJustified, IsEngine, IsStuck, IsPropagated, AsksNothing, decisions}
use Rattle.watch_lists.specs.declared.engine.Engine.{Engine}
use Rattle.watch_lists.specs.declared.engine.Pair.{Pair}
use Rattle.watch_lists.specs.declared.engine.Level.{Level}
use Rattle.watch_lists.proofs.FlipLemmas.{is_literal-flip, same_exact}
use Rattle.watch_lists.proofs.GuardLemmas.{guarded-settled, guarded-quiet}
use Rattle.watch_lists.proofs.TrailLemmas.{has-take}

-- where a literal of a list stands
pub record IsAt (xs : List ℕ) (x : ℕ) : Type 0 where
  pub place : ℕ
  pub below : place < length xs
  pub is : get_or xs place 0 ≡ x

pub place_of : (xs : List ℕ) (x : ℕ) → has nat_eq xs x ≡ true → IsAt xs x
place_of [] x h = contrary _ h refl
place_of (y ∷ ys) x h = elim (or_cases (nat_eq y x) (has nat_eq ys x) h) [
  | inl e ↦ record { place = zero; below = omega arith; is = same_exact y x e }
  | inr f ↦ let w = place_of ys x f in let b = w.below in record { place = suc w.place; below = omega arith; is = w.is }
]

-- a literal without a reason is a decision
pub decided : (ls : List ℕ) (rs : List (Option ℕ)) (k : ℕ) → k < length ls → k < length rs → get_or rs k None ≡ None → has nat_eq (decisions ls rs) (get_or ls k 0) ≡ true
decided [] rs k h g e = absurd (omega arith)
decided (l ∷ ls) [] k h g e = absurd (omega arith)
decided (l ∷ ls) (None ∷ rs) zero h g e = or_left _ _ (is_literal-flip.equivalence.refl l)
decided (l ∷ ls) (Some by ∷ rs) zero h g e = cc
decided (l ∷ ls) (None ∷ rs) (suc k) h g e = or_right (nat_eq l (get_or ls k 0)) _ (decided ls rs k (omega arith) (omega arith) e)
decided (l ∷ ls) (Some by ∷ rs) (suc k) h g e = decided ls rs k (omega arith) (omega arith) e

-- a decision is a literal
pub decisions-in : (ls : List ℕ) (rs : List (Option ℕ)) (l : ℕ) → has nat_eq (decisions ls rs) l ≡ true → has nat_eq ls l ≡ true
decisions-in [] rs l h = h
decisions-in (x ∷ ls) [] l h = contrary _ h refl
decisions-in (x ∷ ls) (None ∷ rs) l h = elim (or_cases (nat_eq x l) _ h) [ inl e ↦ or_left _ _ e | inr f ↦ or_right (nat_eq x l) _ (decisions-in ls rs l f) ]
decisions-in (x ∷ ls) (Some by ∷ rs) l h = or_right (nat_eq x l) _ (decisions-in ls rs l h)

-- the element of a list of which each has P
at-place : (P : List ℕ → Type 0) (xs : List (List ℕ)) → AllByRecursion P xs → (i : ℕ) → i < length xs → P (get_or xs i [])
at-place P xs all i h = All-from_recursion P xs all i [] h

module _ {clauses : List (List ℕ)} {truth : List Bool} {places trail : List ℕ} {reasons : List (Option ℕ)} {levels : List Level} {head : ℕ}
    (is : IsMarked clauses truth places trail reasons levels head) (n : ℕ) (within : n ≤ length trail) where
  -- the literals up to n are in each closed set
  least-place : (p : ℕ → Bool) → IsClosed nat_eq flip clauses (decisions (take n trail) (take n reasons)) p
      → (m : ℕ) → m ≤ n → (k : ℕ) → k < m → p (get_or trail k 0) ≡ true
  least-place p closed zero le k h = absurd (omega arith)
  least-place p closed (suc m) le k h = go (get_or reasons k None) refl (is.justified k (omega arith)) (least-place p closed m (omega arith))
    where
      go : (by : Option ℕ) → get_or reasons k None ≡ by → IsJustified clauses (take k trail) (get_or trail k 0) (get_or reasons k None)
          → ((j : ℕ) → j < m → p (get_or trail j 0) ≡ true) → p (get_or trail k 0) ≡ true
      go None e just before =
          let in_trail : k < length (take n trail) = omega (arith, length-take-le n trail within) in
          let in_reasons : k < length (take n reasons) = omega (arith, length-take-le n reasons (omega (arith, is.reasons_all)), is.reasons_all) in
          let h0 = decided (take n trail) (take n reasons) k in_trail in_reasons (get_or-take n reasons k None (omega arith) ∙ e) in
          closed.starts (get_or trail k 0) (subst (λ (z : ℕ). has nat_eq (decisions (take n trail) (take n reasons)) z ≡ true) (get_or-take n trail k 0 (omega arith)) h0)
      go (Some by) e just before =
          let j : IsJustified clauses (take k trail) (get_or trail k 0) (Some by) = subst (λ (o : Option ℕ). IsJustified clauses (take k trail) (get_or trail k 0) o) e just in
          at-place (λ c. (l : ℕ) → has nat_eq c l ≡ true → forces nat_eq flip p c l ≡ true → p l ≡ true) clauses closed.units by j.0 (get_or trail k 0) j.1
          (forces-more nat_eq flip (has nat_eq (take k trail)) p (codes_at clauses by) (get_or trail k 0) earlier j.2)
        where
          earlier : (l : ℕ) → has nat_eq (take k trail) l ≡ true → p l ≡ true
          earlier l inside =
              let w = place_of (take k trail) l inside in
              let b : w.place < k = omega (arith, w.below, length-take-le k trail (omega arith)) in
              subst (λ (z : ℕ). p z ≡ true) (sym (get_or-take k trail w.place 0 b) ∙ w.is) (before w.place (omega arith))

  pub least-level : (p : ℕ → Bool) → IsClosed nat_eq flip clauses (decisions (take n trail) (take n reasons)) p
      → (l : ℕ) → has nat_eq (take n trail) l ≡ true → p l ≡ true
  least-level p closed l inside =
      let w = place_of (take n trail) l inside in
      let b : w.place < n = omega (arith, w.below, length-take-le n trail within) in
      subst (λ (z : ℕ). p z ≡ true) (sym (get_or-take n trail w.place 0 b) ∙ w.is) (least-place p closed n (omega arith) w.place b)

  pub apart-level : (l : ℕ) → has nat_eq (take n trail) l ≡ true → has nat_eq (take n trail) (flip l) ≡ false
  apart-level l inside = elim (cases_Bool (has nat_eq (take n trail) (flip l))) [
    | inl h ↦ contrary _ (has-take n trail (flip l) h) (is.apart l (has-take n trail l inside))
    | inr h ↦ h
  ]

  pub level-round : IsRound nat_eq flip clauses (decisions (take n trail) (take n reasons)) (take n trail)
  level-round = record {
    starts = λ l h. decisions-in (take n trail) (take n reasons) l h;
    least = least-level;
    consistent = record { apart = apart-level };
  }

  -- guarded clauses make them the closure
  pub level-closure : (pairs : List Pair) → AreGuards clauses pairs (take n trail) (take n trail) → length clauses ≤ length pairs
      → IsClosure nat_eq flip clauses (decisions (take n trail) (take n reasons)) (take n trail) × ¬ Clashes flip clauses (has nat_eq (take n trail))
  level-closure pairs guards all = round-last clauses _ (take n trail) level-round quiet
      (recursion_from_All (IsSettled nat_eq flip (take n trail)) clauses (λ i d h. subst (λ (c : List ℕ). IsSettled nat_eq flip (take n trail) c) (get_or_default clauses i [] d h)
      (guarded-settled is_literal-flip (has nat_eq (take n trail)) (codes_at clauses i) _ _ apart-level (guards i (omega arith)))))
    where
      none : (cs : List (List ℕ)) → ((i : ℕ) → i < length cs → is_negated flip (has nat_eq (take n trail)) (get_or cs i []) ≡ false) → list_any (is_negated flip (has nat_eq (take n trail))) cs ≡ false
      none [] each = refl
      none (c ∷ cs) each = rw (each zero (omega arith), none cs (λ i h. each (suc i) (omega arith))) refl

      quiet : list_any (is_negated flip (has nat_eq (take n trail))) clauses ≡ false
      quiet = none clauses (λ i h. guarded-quiet is_literal-flip (has nat_eq (take n trail)) (codes_at clauses i) _ _ apart-level (guards i (omega arith)))

-- as they are where no clause asks for anything
pub settled-closure : {clauses : List (List ℕ)} {truth : List Bool} {places trail : List ℕ} {reasons : List (Option ℕ)} {levels : List Level} {head : ℕ}
    → IsMarked clauses truth places trail reasons levels head → (n : ℕ) → n ≤ length trail → ((i : ℕ) → i < length clauses → AsksNothing (take n trail) (codes_at clauses i))
    → IsClosure nat_eq flip clauses (decisions (take n trail) (take n reasons)) (take n trail) × ¬ Clashes flip clauses (has nat_eq (take n trail))
settled-closure {clauses} {truth} {places} {trail} {reasons} is n within settled = round-last clauses _ (take n trail) (level-round is n within) (none clauses (λ i h. (settled i h).0))
    (recursion_from_All (IsSettled nat_eq flip (take n trail)) clauses (λ i d h. subst (λ (c : List ℕ). IsSettled nat_eq flip (take n trail) c) (get_or_default clauses i [] d h) (settled i h).1))
  where
    none : (cs : List (List ℕ)) → ((i : ℕ) → i < length cs → is_negated flip (has nat_eq (take n trail)) (get_or cs i []) ≡ false) → list_any (is_negated flip (has nat_eq (take n trail))) cs ≡ false
    none [] each = refl
    none (c ∷ cs) each = rw (each zero (omega arith), none cs (λ i h. each (suc i) (omega arith))) refl

-- a clause that is wholly negated: the closure clashes
pub conflict-clashes : (e : Engine) (i : ℕ) → IsStuck e i → ClosureClashes nat_eq flip e.clauses (decisions e.trail.items e.reasons.items)
conflict-clashes e i is =
    let n = length e.trail.items in
    let all : take n e.trail.items ≡ e.trail.items = take_all n e.trail.items (omega arith) in
    let all_reasons : take n e.reasons.items ≡ e.reasons.items = take_all n e.reasons.items (omega (arith, is.0.trail.reasons_all)) in
    let round = level-round is.0.trail n (omega arith) in
    let whole : IsRound nat_eq flip e.clauses (decisions e.trail.items e.reasons.items) e.trail.items = rw (all, all_reasons) at round in
    round-clash e.clauses (decisions e.trail.items e.reasons.items) e.trail.items whole (some e.clauses i is.1 is.2)
  where
    some : (cs : List (List ℕ)) (i : ℕ) → i < length cs → is_negated flip (has nat_eq e.trail.items) (get_or cs i []) ≡ true → list_any (is_negated flip (has nat_eq e.trail.items)) cs ≡ true
    some [] i h f = absurd (omega arith)
    some (c ∷ cs) zero h f = or_left _ _ f
    some (c ∷ cs) (suc i) h f = or_right (is_negated flip (has nat_eq e.trail.items) c) _ (some cs i (omega arith) f)

-- what propagation ends with
pub propagated-none : (e : Engine) → IsEngine e → e.head ≡ length e.trail.items → length e.clauses ≤ length e.pairs.items
    → IsClosure nat_eq flip e.clauses (decisions e.trail.items e.reasons.items) e.trail.items × ¬ Clashes flip e.clauses (has nat_eq e.trail.items)
propagated-none e engine done all =
    let n = length e.trail.items in
    let whole : take n e.trail.items ≡ e.trail.items = take_all n e.trail.items (omega arith) in
    let reasons : take n e.reasons.items ≡ e.reasons.items = take_all n e.reasons.items (omega (arith, engine.trail.reasons_all)) in
    let past : take e.head e.trail.items ≡ e.trail.items = take_all e.head e.trail.items (omega (arith, done)) in
    let guards : AreGuards e.clauses e.pairs.items e.trail.items e.trail.items = subst (λ (z : List ℕ). AreGuards e.clauses e.pairs.items z e.trail.items) past engine.watched.guards in
    let guards2 : AreGuards e.clauses e.pairs.items (take n e.trail.items) (take n e.trail.items) = subst (λ (z : List ℕ). AreGuards e.clauses e.pairs.items z z) (sym whole) guards in
    rw (whole, reasons) at (level-closure engine.trail n (omega arith) e.pairs.items guards2 all)

pub propagated : (e : Engine) (r : Option ℕ) → length e.clauses ≤ length e.pairs.items → IsPropagated e r
    → IfNone r (IsClosure nat_eq flip e.clauses (decisions e.trail.items e.reasons.items) e.trail.items × ¬ Clashes flip e.clauses (has nat_eq e.trail.items))
    × IfSome r (λ _. ClosureClashes nat_eq flip e.clauses (decisions e.trail.items e.reasons.items))
propagated e None all h = (propagated-none e h.0 h.1 all, tt)
propagated e (Some i) all h = (tt, conflict-clashes e i h)

pub propagated-stuck : (e : Engine) (r : Option ℕ) → IsPropagated e r → IfSome r (λ i. IsStuck e i)
propagated-stuck e None h = tt
propagated-stuck e (Some i) h = h

pub propagated-engine : (e : Engine) (r : Option ℕ) → IsPropagated e r → IsEngine e
propagated-engine e None h = h.0
propagated-engine e (Some i) h = h.0
