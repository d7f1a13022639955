-- Which literals of a clause a step leaves open, and what its next state is.
use Rattle.std.proofs.Common.{◌≡◌, ℕ, ◌+◌, ◌<◌, length, take, drop, get_or, Bool, true, false, not, ◌&&◌, ◌||◌, List, [], ◌∷◌, ◌++◌, Ok, Err, refl, sym, ap, ◌∙◌, inl, inr, add-one, drop-cons}
use Rattle.std.specs.Prelude.{filter, if◌then◌else◌, Result, OnOk, OnErr, IfErr}
use Rattle.std.specs.List.{list_any}
use Rattle.std.proofs.lemmas.List.{take-append-drop}
use Rattle.std.proofs.lemmas.Bool.{and_parts, or_cases, not-true}
use Rattle.std.proofs.lemmas.List.Elements.{filter-append}
use Rattle.lits.specs.Clause.{has, firsts}
use Rattle.lits.proofs.Facts.{IsLiteral, has-firsts}
use Rattle.unit_prop.specs.declared.why.Why.{Why}
use Rattle.unit_prop.specs.declared.why.Why.TheVariants.{Satisfied, TwoFree}
use Rattle.unit_prop.specs.declared.why.StepErr.{StepErr}
use Rattle.unit_prop.specs.declared.why.StepErr.TheVariants.{Bad, NoMemory}
use Rattle.unit_prop.specs.Step.{State, open_in, is_satisfied, after_open, after_hint, IfBad}
use Rattle.unit_prop.specs.Propagation.{IsConsistent}
use Rattle.unit_prop.proofs.LiteralLemmas.{has-head, has-filter, witness, passes}
use Rattle.unit_prop.proofs.ClosureLemmas.{consistent-push}
use Rattle.unit_prop.proofs.StepLemmas.{has-open_in}

-- the first that passes is the first that is kept
pub filter-first : {X : Type 0} (p : X → Bool) (xs : List X) (i : ℕ) (x : X) → i < length xs → x ≡ get_or xs i x
    → filter p (take i xs) ≡ [] → filter p xs ≡ filter p (x ∷ drop (i + 1) xs)
filter-first p xs i x below at none =
    let parts : xs ≡ take i xs ++ (x ∷ drop (i + 1) xs) =
    sym (take-append-drop i xs) ∙ ap (λ (l : List _). take i xs ++ l) (drop-cons xs i x below ∙ rw (sym at, add-one) refl) in
    ap (filter p) parts ∙ (filter-append p (take i xs) (x ∷ drop (i + 1) xs) ∙ ap (λ (l : List _). l ++ filter p (x ∷ drop (i + 1) xs)) none)

module _ {L : Type 0} {eq : L → L → Bool} {opposite : L → L} (laws : IsLiteral eq opposite) where
  -- the rest of the list without the first literal, each once
  abbrev others : L → List L → List L
  others l rest = filter (λ y. not (eq l y)) (firsts eq rest)

  has-others : (l : L) (rest : List L) (q : L) → has eq (others l rest) q ≡ (has eq rest q && not (eq l q))
  has-others l rest q =
      has-filter laws (λ y. not (eq l y)) (firsts eq rest) q ∙ ap (λ (b : Bool). b && not (eq l q)) (has-firsts laws rest q)

  open-one : (p : L → Bool) (l : L) (rest : List L) → p l ≡ true
      → list_any (λ m. not (eq l m) && p m) rest ≡ false → firsts eq (filter p (l ∷ rest)) ≡ l ∷ []
  open-one p l rest e none = rw e (go (others l (filter p rest)) refl)
    where
      go : (os : List L) → others l (filter p rest) ≡ os → l ∷ others l (filter p rest) ≡ l ∷ []
      go [] f = rw f refl
      go (y ∷ ys) f =
          let here : has eq (others l (filter p rest)) y ≡ true = ap (λ (o : List L). has eq o y) f ∙ has-head laws y ys in
          let parts = and_parts _ _ (sym (has-others l (filter p rest) y) ∙ here) in
          let inside = and_parts _ _ (sym (has-filter laws p rest y) ∙ parts.0) in
          let some = passes laws (λ m. not (eq l m) && p m) rest y inside.0 (rw (parts.1, inside.1) refl) in
          cc

  open-more : (p : L → Bool) (l : L) (rest : List L) → p l ≡ true
      → list_any (λ m. not (eq l m) && p m) rest ≡ true
      → (m n : L) × (ls : List L) × (firsts eq (filter p (l ∷ rest)) ≡ m ∷ n ∷ ls)
  open-more p l rest e some = go (others l (filter p rest)) refl
    where
      w : (m : L) × (has eq rest m ≡ true) × ((not (eq l m) && p m) ≡ true)
      w = witness laws (λ m. not (eq l m) && p m) rest some

      go : (os : List L) → others l (filter p rest) ≡ os → (m n : L) × (ls : List L) × (firsts eq (filter p (l ∷ rest)) ≡ m ∷ n ∷ ls)
      go [] f =
          let parts : (not (eq l w.0) ≡ true) × (p w.0 ≡ true) = and_parts _ _ w.2 in
          let kept : has eq (filter p rest) w.0 ≡ true = has-filter laws p rest w.0 ∙ rw (w.1, parts.1) refl in
          let here : has eq (others l (filter p rest)) w.0 ≡ true = has-others l (filter p rest) w.0 ∙ rw (kept, parts.0) refl in
          let none : has eq (others l (filter p rest)) w.0 ≡ false = ap (λ (o : List L). has eq o w.0) f in
          cc
      go (y ∷ ys) f = (l, y, ys, rw e (ap (λ (o : List L). l ∷ o) f))

  -- the test by which a clause's literals are open
  abbrev is_open : List L → L → Bool
  is_open set l = not (has eq set (opposite l))

  pub open_in-one : (set : List L) (first : L) (rest : List L) → has eq set (opposite first) ≡ false
      → list_any (λ m. not (eq first m) && is_open set m) rest ≡ false → open_in eq opposite set (first ∷ rest) ≡ first ∷ []
  open_in-one set first rest e = open-one (is_open set) first rest (ap not e)

  pub open_in-more : (set : List L) (first : L) (rest : List L) → has eq set (opposite first) ≡ false
      → list_any (λ m. not (eq first m) && is_open set m) rest ≡ true
      → (m n : L) × (ls : List L) × (open_in eq opposite set (first ∷ rest) ≡ m ∷ n ∷ ls)
  open_in-more set first rest e = open-more (is_open set) first rest (ap not e)

  -- the literals before the first one that is open change nothing
  pub open_in-first : (set clause : List L) (i : ℕ) (lit : L) → i < length clause → lit ≡ get_or clause i lit
      → filter (is_open set) (take i clause) ≡ [] → open_in eq opposite set clause ≡ open_in eq opposite set (lit ∷ drop (i + 1) clause)
  open_in-first set clause i lit below at none = ap (firsts eq) (filter-first (is_open set) clause i lit below at none)

  -- the only literal that is open in a clause isn't negated
  pub open-apart : (set clause : List L) (l : L) → open_in eq opposite set clause ≡ l ∷ [] → has eq set (opposite l) ≡ false
  open-apart set clause l e = not-true (has eq set (opposite l)) (and_parts _ _ (sym (has-open_in laws set clause l) ∙ (ap (λ (o : List L). has eq o l) e ∙ has-head laws l []))).1

  -- a true literal of a clause is open where no negation of a true one is true
  satisfied-open : (set clause : List L) → IsConsistent eq opposite set → is_satisfied eq set clause ≡ true
      → (m : L) × (has eq (open_in eq opposite set clause) m ≡ true) × (has eq set m ≡ true)
  satisfied-open set clause consistent h =
      let w : (m : L) × (has eq clause m ≡ true) × (has eq set m ≡ true) = witness laws (has eq set) clause h in
      (w.0, has-open_in laws set clause w.0 ∙ rw (w.1, consistent.apart w.0 w.2) refl, w.2)

  pub unsatisfied-nothing : (set clause : List L) → IsConsistent eq opposite set → open_in eq opposite set clause ≡ []
      → is_satisfied eq set clause ≡ false
  unsatisfied-nothing set clause consistent none = go (is_satisfied eq set clause) refl
    where
      go : (b : Bool) → is_satisfied eq set clause ≡ b → is_satisfied eq set clause ≡ false
      go false e = e
      go true e =
          let w = satisfied-open set clause consistent e in
          let f : has eq (open_in eq opposite set clause) w.0 ≡ false = ap (λ (o : List L). has eq o w.0) none in
          let t : has eq (open_in eq opposite set clause) w.0 ≡ true = w.1 in
          cc

  pub satisfied-one : (set clause : List L) (l : L) → IsConsistent eq opposite set → open_in eq opposite set clause ≡ l ∷ []
      → is_satisfied eq set clause ≡ has eq set l
  satisfied-one set clause l consistent one = go (is_satisfied eq set clause) (has eq set l) refl refl
    where
      inside : has eq clause l ≡ true
      inside = (and_parts _ _ (sym (has-open_in laws set clause l) ∙ (ap (λ (o : List L). has eq o l) one ∙ has-head laws l []))).0

      go : (b d : Bool) → is_satisfied eq set clause ≡ b → has eq set l ≡ d → is_satisfied eq set clause ≡ has eq set l
      go true true e f = e ∙ sym f
      go false false e f = e ∙ sym f
      go false true e f = let t = passes laws (has eq set) clause l inside f in cc
      go true false e f =
          let w = satisfied-open set clause consistent e in
          let only : (eq l w.0 || false) ≡ true = sym (ap (λ (o : List L). has eq o w.0) one) ∙ w.1 in
          let same : l ≡ w.0 = laws.exact l w.0 (elim (or_cases (eq l w.0) false only) [ inl a ↦ a | inr a ↦ cc ]) in
          let t : has eq set l ≡ true = ap (has eq set) same ∙ w.2 in
          cc

-- the set is that of the state, no hint's clause was wholly false, and no literal is true beside its negation
pub record IsQuiet {L : Type 0} (eq : L → L → Bool) (opposite : L → L) (s : State L) (set : List L) (clashed : Bool) : Type 0 where
  pub is : record { set = set; clashed = clashed } ≡ s
  pub quiet : clashed ≡ false
  pub consistent : IsConsistent eq opposite set

module _ {L : Type 0} {eq : L → L → Bool} {opposite : L → L} (laws : IsLiteral eq opposite) {s : State L} {set : List L} {clashed : Bool}
    (at : IsQuiet eq opposite s set clashed) (clause : List L) where
  after : (os : List L) → is_satisfied eq set clause ≡ false → open_in eq opposite set clause ≡ os
      → after_hint eq opposite s clause ≡ after_open set os
  after os e f = rw (sym at.is, at.quiet, e, f) refl

  satisfied : is_satisfied eq set clause ≡ true → after_hint eq opposite s clause ≡ Err Satisfied
  satisfied e = rw (sym at.is, at.quiet, e) refl

  pub hint-nothing : open_in eq opposite set clause ≡ [] → after_hint eq opposite s clause ≡ Ok (record { set = set; clashed = true })
  hint-nothing e = after [] (unsatisfied-nothing laws set clause at.consistent e) e

  pub hint-one : {l : L} {new : List L} → open_in eq opposite set clause ≡ l ∷ [] → has eq set l ≡ false → new ≡ set ++ l ∷ []
      → after_hint eq opposite s clause ≡ Ok (record { set = new; clashed = clashed })
  hint-one {l} {new} e f g = after (l ∷ []) (satisfied-one laws set clause l at.consistent e ∙ f) e ∙ rw (g, at.quiet) refl

  hint-satisfied : {l : L} → open_in eq opposite set clause ≡ l ∷ [] → (w : Why) → (w ≡ Satisfied) × (has eq set l ≡ true)
      → after_hint eq opposite s clause ≡ Err w
  hint-satisfied {l} e w h = satisfied (satisfied-one laws set clause l at.consistent e ∙ h.1) ∙ ap Err (sym h.0)

  -- the only open literal was put into the set, or it was there
  pub hint-taken : {A E : Type 0} (r : Result A E) (l : L) (new : List L) → open_in eq opposite set clause ≡ l ∷ []
      → OnOk r ((has eq set l ≡ false) × (new ≡ set ++ l ∷ []))
      → OnOk r (after_hint eq opposite s clause ≡ Ok (record { set = new; clashed = clashed }))
  hint-taken (Ok x) l new e ok = hint-one e ok.0 ok.1
  hint-taken (Err e) l new f ok = tt

  pub hint-refused : {A : Type 0} (r : Result A StepErr) (l : L) → open_in eq opposite set clause ≡ l ∷ []
      → IfErr r (λ e. IfBad e (λ w. (w ≡ Satisfied) × (has eq set l ≡ true)))
      → IfErr r (λ e. IfBad e (λ w. after_hint eq opposite s clause ≡ Err w))
  hint-refused (Ok x) l e bad = tt
  hint-refused (Err NoMemory) l e bad = tt
  hint-refused (Err (Bad w)) l e bad = hint-satisfied e w bad

  pub taken-consistent : ((x : L) → eq x (opposite x) ≡ false) → {A E : Type 0} (r : Result A E) (l : L) (new : List L)
      → open_in eq opposite set clause ≡ l ∷ [] → OnOk r ((has eq set l ≡ false) × (new ≡ set ++ l ∷ [])) → OnErr r (new ≡ set)
      → IsConsistent eq opposite new
  taken-consistent differs (Ok x) l new e ok err =
      rw ok.1
      (consistent-push laws differs [] [] set l at.consistent (record { fresh = ok.0; apart = open-apart laws set clause l e }))
  taken-consistent differs (Err e) l new f ok err = rw err at.consistent

  pub hint-more : ((l m : L) × (ls : List L) × (open_in eq opposite set clause ≡ l ∷ m ∷ ls)) → (w : Why)
      → w ≡ (if is_satisfied eq set clause then Satisfied else TwoFree) → after_hint eq opposite s clause ≡ Err w
  hint-more (l, m, ls, e) w f = go (is_satisfied eq set clause) refl
    where
      go : (b : Bool) → is_satisfied eq set clause ≡ b → after_hint eq opposite s clause ≡ Err w
      go true g = satisfied g ∙ ap Err (sym (f ∙ rw g refl))
      go false g = after (l ∷ m ∷ ls) g e ∙ ap Err (sym (f ∙ rw g refl))
