-- A step stays a step where its literals and the names of its hints are renamed, one to one on the literals that stand
-- in it, and also where there are more clauses than it needs.
use Rattle.std.proofs.Common.{◌≡◌, ℕ, ◌+◌, Bool, true, false, not, ◌||◌, List, [], ◌∷◌, ◌++◌, Option, Some, None, Result, Ok, Err, refl, sym, ap, ap₂, ◌∙◌, subst}
use Rattle.std.specs.Prelude.{filter, map}
use Rattle.std.specs.List.{AllByRecursion}
use Rattle.std.proofs.lemmas.List.{map-append}
use Rattle.lits.specs.Clause.{has, has_pair, firsts}
use Rattle.lits.proofs.Facts.{all-append, all-filter}
use Rattle.unit_prop.specs.declared.why.Why.{Why}
use Rattle.unit_prop.specs.declared.why.Why.TheVariants.{AfterFalse, Satisfied}
use Rattle.unit_prop.specs.Step.{State, start_of, open_in, is_satisfied, after_open, after_hint, fault_from, IsStep}

-- f tells the literals apart that P holds of, and negates as they are negated
pub record IsRenaming {L M : Type 0} (eq : L → L → Bool) (opposite : L → L) (eq' : M → M → Bool) (opposite' : M → M) (f : L → M) (P : L → Type 0) : Type 0 where
  pub same : (x y : L) → P x → P y → eq' (f x) (f y) ≡ eq x y
  pub flips : (x : L) → f (opposite x) ≡ opposite' (f x)
  pub closed : (x : L) → P x → P (opposite x)

filter-map : {X Y : Type 0} (f : X → Y) (p : X → Bool) (q : Y → Bool) (xs : List X) → AllByRecursion (λ x. q (f x) ≡ p x) xs
    → filter q (map f xs) ≡ map f (filter p xs)
filter-map f p q [] all = refl
filter-map f p q (x ∷ xs) all = go (p x) refl (filter-map f p q xs all.1)
  where
    go : (b : Bool) → p x ≡ b → filter q (map f xs) ≡ map f (filter p xs) → filter q (map f (x ∷ xs)) ≡ map f (filter p (x ∷ xs))
    go true e rest = rw (all.0, e) (ap (λ (l : List _). f x ∷ l) rest)
    go false e rest = rw (all.0, e) rest

module _ {L M : Type 0} {eq : L → L → Bool} {opposite : L → L} {eq' : M → M → Bool} {opposite' : M → M} {f : L → M} {P : L → Type 0}
    (renames : IsRenaming eq opposite eq' opposite' f P) where
  has-map : (xs : List L) (x : L) → AllByRecursion P xs → P x → has eq' (map f xs) (f x) ≡ has eq xs x
  has-map [] x all px = refl
  has-map (y ∷ ys) x all px = ap₂ (λ (a b : Bool). a || b) (renames.same y x all.0 px) (has-map ys x all.1 px)

  -- whether the negation is in the list
  has-flipped : (xs : List L) (x : L) → AllByRecursion P xs → P x → has eq' (map f xs) (opposite' (f x)) ≡ has eq xs (opposite x)
  has-flipped xs x all px = ap (has eq' (map f xs)) (sym (renames.flips x)) ∙ has-map xs (opposite x) all (renames.closed x px)

  has_pair-map : (xs : List L) → AllByRecursion P xs → has_pair eq' opposite' (map f xs) ≡ has_pair eq opposite xs
  has_pair-map [] all = refl
  has_pair-map (x ∷ xs) all = ap₂ (λ (a b : Bool). a || b) (has-flipped xs x all.1 all.0) (has_pair-map xs all.1)

  pub all-firsts : (xs : List L) → AllByRecursion P xs → AllByRecursion P (firsts eq xs)
  all-firsts [] all = tt
  all-firsts (x ∷ xs) all = (all.0, all-filter P (λ y. not (eq x y)) (firsts eq xs) (all-firsts xs all.1))

  firsts-map : (xs : List L) → AllByRecursion P xs → firsts eq' (map f xs) ≡ map f (firsts eq xs)
  firsts-map [] all = refl
  firsts-map (x ∷ xs) all =
      ap (λ (l : List M). f x ∷ filter (λ y. not (eq' (f x) y)) l) (firsts-map xs all.1)
      ∙ ap (λ (l : List M). f x ∷ l)
      (filter-map f (λ y. not (eq x y)) (λ y. not (eq' (f x) y)) (firsts eq xs) (tests (firsts eq xs) (all-firsts xs all.1)))
    where
      tests : (ys : List L) → AllByRecursion P ys → AllByRecursion (λ y. not (eq' (f x) (f y)) ≡ not (eq x y)) ys
      tests [] py = tt
      tests (y ∷ ys) py = (ap not (renames.same x y all.0 py.0), tests ys py.1)

  all-opposite : (xs : List L) → AllByRecursion P xs → AllByRecursion P (map opposite xs)
  all-opposite [] all = tt
  all-opposite (x ∷ xs) all = (renames.closed x all.0, all-opposite xs all.1)

  map-opposite : (xs : List L) → map opposite' (map f xs) ≡ map f (map opposite xs)
  map-opposite [] = refl
  map-opposite (x ∷ xs) = ap₂ (λ (y : M) (ys : List M). y ∷ ys) (sym (renames.flips x)) (map-opposite xs)

  open_in-map : (set clause : List L) → AllByRecursion P set → AllByRecursion P clause
      → open_in eq' opposite' (map f set) (map f clause) ≡ map f (open_in eq opposite set clause)
  open_in-map set clause all here =
      ap (firsts eq') (filter-map f (λ l. not (has eq set (opposite l))) (λ l. not (has eq' (map f set) (opposite' l))) clause (tests clause here))
      ∙ firsts-map (filter (λ l. not (has eq set (opposite l))) clause) (all-filter P (λ l. not (has eq set (opposite l))) clause here)
    where
      tests : (ys : List L) → AllByRecursion P ys → AllByRecursion (λ y. not (has eq' (map f set) (opposite' (f y))) ≡ not (has eq set (opposite y))) ys
      tests [] py = tt
      tests (y ∷ ys) py = (ap not (has-flipped set y all py.0), tests ys py.1)

  satisfied-map : (set clause : List L) → AllByRecursion P set → AllByRecursion P clause
      → is_satisfied eq' (map f set) (map f clause) ≡ is_satisfied eq set clause
  satisfied-map set [] all here = refl
  satisfied-map set (l ∷ ls) all here = ap₂ (λ (a b : Bool). a || b) (has-map set l all here.0) (satisfied-map set ls all here.1)

  -- the state with its literals renamed
  abbrev state : State L → State M
  state s = record { set = map f s.set; clashed = s.clashed }

  -- what an open list makes of the state, where it is no fault, is over P, and the renamed lists do the same
  opened : (s t : State L) (os : List L) → AllByRecursion P s.set → AllByRecursion P os → after_open s.set os ≡ Ok t
      → AllByRecursion P t.set × (after_open (map f s.set) (map f os) ≡ Ok (state t))
  opened s t [] all here e =
      let at : record { set = s.set; clashed = true } ≡ t = cc in
      (subst (λ (z : State L). AllByRecursion P z.set) at all, ap (λ (z : State L). Ok (state z)) at)
  opened s t (l ∷ []) all here e =
      let at : record { set = s.set ++ l ∷ []; clashed = false } ≡ t = cc in (
        subst (λ (z : State L). AllByRecursion P z.set) at (all-append P s.set (l ∷ []) all here),
        ap (λ (x : List M). Ok (record { set = x; clashed = false })) (sym (map-append f s.set (l ∷ [])))
            ∙ ap (λ (z : State L). Ok (state z)) at,
      )
  opened s t (l ∷ m ∷ ls) all here e = cc

  hinted : (s t : State L) (clause : List L) → AllByRecursion P s.set → AllByRecursion P clause → after_hint eq opposite s clause ≡ Ok t
      → AllByRecursion P t.set × (after_hint eq' opposite' (state s) (map f clause) ≡ Ok (state t))
  hinted s t clause all here e = go (s.clashed) (is_satisfied eq s.set clause) refl refl
    where
      go : (a b : Bool) → s.clashed ≡ a → is_satisfied eq s.set clause ≡ b
          → AllByRecursion P t.set × (after_hint eq' opposite' (state s) (map f clause) ≡ Ok (state t))
      go true b g h = let k : Err AfterFalse ≡ Ok t = rw g at e in cc
      go false true g h = let k : Err Satisfied ≡ Ok t = rw (g, h) at e in cc
      go false false g h =
          let open_here = all-firsts (filter (λ l. not (has eq s.set (opposite l))) clause) (all-filter P (λ l. not (has eq s.set (opposite l))) clause here) in
          let r = opened s t (open_in eq opposite s.set clause) all open_here (rw (g, h) at e) in
          (r.0, rw (g, satisfied-map s.set clause all here ∙ h) (ap (after_open (map f s.set)) (open_in-map s.set clause all here) ∙ r.1))

  module _ {N R : Type 0} (r : N → R) (find : N → Option (List L)) (find' : R → Option (List M))
      (finds : (n : N) (c : List L) → find n ≡ Some c → AllByRecursion P c × (find' (r n) ≡ Some (map f c))) where
    fault_from-renamed : (place : ℕ) (s : State L) (hints : List N) → AllByRecursion P s.set → fault_from eq opposite find place s hints ≡ None
        → fault_from eq' opposite' find' place (state s) (map r hints) ≡ None
    fault_from-renamed place s [] all e = e
    fault_from-renamed place s (n ∷ ns) all e = named (λ t. fault_from-renamed (place + 1) t ns) (find n) refl
      where
        go : ((t : State L) → AllByRecursion P t.set → fault_from eq opposite find (place + 1) t ns ≡ None
            → fault_from eq' opposite' find' (place + 1) (state t) (map r ns) ≡ None)
            → (c : List L) (o : Result (State L) Why) → find n ≡ Some c → after_hint eq opposite s c ≡ o
            → fault_from eq' opposite' find' place (state s) (map r (n ∷ ns)) ≡ None
        go rest c (Ok t) g h =
            let k = hinted s t c all (finds n c g).0 h in
            rw ((finds n c g).1, k.1) (rest t k.0 (rw (g, h) at e))
        go rest c (Err why) g h = let k : Some _ ≡ None = rw (g, h) at e in cc

        named : ((t : State L) → AllByRecursion P t.set → fault_from eq opposite find (place + 1) t ns ≡ None
            → fault_from eq' opposite' find' (place + 1) (state t) (map r ns) ≡ None)
            → (o : Option (List L)) → find n ≡ o → fault_from eq' opposite' find' place (state s) (map r (n ∷ ns)) ≡ None
        named rest None g = let k : Some _ ≡ None = rw g at e in cc
        named rest (Some c) g = go rest c (after_hint eq opposite s c) g refl

    -- the renamed step is one over clauses that hold those of the step's names, renamed
    pub step-renamed : (clause : List L) (hints : List N) → AllByRecursion P clause → IsStep eq opposite find clause hints
        → IsStep eq' opposite' find' (map f clause) (map r hints)
    step-renamed clause hints all step = go (has_pair eq opposite clause) refl
      where
        start : start_of eq' opposite' (map f clause) ≡ state (start_of eq opposite clause)
        start = ap (λ (l : List M). record { set = l; clashed = false }) (ap (map opposite') (firsts-map clause all) ∙ map-opposite (firsts eq clause))

        go : (b : Bool) → has_pair eq opposite clause ≡ b → IsStep eq' opposite' find' (map f clause) (map r hints)
        go true e = let k : Some _ ≡ None = rw e at step in cc
        go false e =
            rw (has_pair-map clause all ∙ e)
            (ap (λ (s : State M). fault_from eq' opposite' find' 1 s (map r hints)) start
            ∙ fault_from-renamed 1 (start_of eq opposite clause) hints (all-opposite (firsts eq clause) (all-firsts clause all)) (rw e at step))
