-- The first fault of a step is the same where its literals and those of the clauses have other names.
use Rattle.std.proofs.Common.{◌≡◌, ℕ, ◌+◌, Bool, true, false, not, ◌||◌, List, [], ◌∷◌, Option, Some, None, Result, Ok, Err, refl, sym, ap, ap₂, ◌∙◌}
use Rattle.std.specs.Prelude.{filter, map}
use Rattle.std.specs.Option.{option_map}
use Rattle.std.proofs.lemmas.List.{map-append}
use Rattle.lits.specs.Clause.{has, has_pair, firsts}
use Rattle.lits.specs.Dimacs.{DimacsLiteral}
use Rattle.lits.specs.Same.{same_dim, opposite_dim}
use Rattle.unit_prop.specs.declared.why.Why.{Why}
use Rattle.unit_prop.specs.Step.{State, start_of, open_in, is_satisfied, after_open, after_hint, fault_from, first_fault}
use Rattle.lrat_checker.specs.Renamed.{IsRenaming}

filter-map : {X Y : Type 0} (f : X → Y) (p : X → Bool) (q : Y → Bool) → ((x : X) → q (f x) ≡ p x) → (xs : List X)
    → filter q (map f xs) ≡ map f (filter p xs)
filter-map f p q same [] = refl
filter-map f p q same (x ∷ xs) = go (p x) refl (filter-map f p q same xs)
  where
    go : (b : Bool) → p x ≡ b → filter q (map f xs) ≡ map f (filter p xs) → filter q (map f (x ∷ xs)) ≡ map f (filter p (x ∷ xs))
    go true e rest = rw (same x, e) (ap (λ (l : List _). f x ∷ l) rest)
    go false e rest = rw (same x, e) rest

module _ {f : DimacsLiteral → DimacsLiteral} (renames : IsRenaming f) where
  has-map : (xs : List DimacsLiteral) (x : DimacsLiteral) → has same_dim (map f xs) (f x) ≡ has same_dim xs x
  has-map [] x = refl
  has-map (y ∷ ys) x = ap₂ (λ (a b : Bool). a || b) (renames.same y x) (has-map ys x)

  -- whether the negation is in the list
  has-flipped : (xs : List DimacsLiteral) (x : DimacsLiteral) → has same_dim (map f xs) (opposite_dim (f x)) ≡ has same_dim xs (opposite_dim x)
  has-flipped xs x = ap (has same_dim (map f xs)) (sym (renames.flips x)) ∙ has-map xs (opposite_dim x)

  has_pair-map : (xs : List DimacsLiteral) → has_pair same_dim opposite_dim (map f xs) ≡ has_pair same_dim opposite_dim xs
  has_pair-map [] = refl
  has_pair-map (x ∷ xs) = ap₂ (λ (a b : Bool). a || b) (has-flipped xs x) (has_pair-map xs)

  firsts-map : (xs : List DimacsLiteral) → firsts same_dim (map f xs) ≡ map f (firsts same_dim xs)
  firsts-map [] = refl
  firsts-map (x ∷ xs) =
      ap (λ (l : List DimacsLiteral). f x ∷ filter (λ y. not (same_dim (f x) y)) l) (firsts-map xs)
      ∙ ap (λ (l : List DimacsLiteral). f x ∷ l)
      (filter-map f (λ y. not (same_dim x y)) (λ y. not (same_dim (f x) y)) (λ y. ap not (renames.same x y)) (firsts same_dim xs))

  map-opposite : (xs : List DimacsLiteral) → map opposite_dim (map f xs) ≡ map f (map opposite_dim xs)
  map-opposite [] = refl
  map-opposite (x ∷ xs) = ap₂ (λ (y : DimacsLiteral) (ys : List DimacsLiteral). y ∷ ys) (sym (renames.flips x)) (map-opposite xs)

  open_in-map : (set clause : List DimacsLiteral) → open_in same_dim opposite_dim (map f set) (map f clause) ≡ map f (open_in same_dim opposite_dim set clause)
  open_in-map set clause =
      ap (firsts same_dim) (filter-map f (λ l. not (has same_dim set (opposite_dim l))) (λ l. not (has same_dim (map f set) (opposite_dim l))) (λ y. ap not (has-flipped set y)) clause)
      ∙ firsts-map (filter (λ l. not (has same_dim set (opposite_dim l))) clause)

  satisfied-map : (set clause : List DimacsLiteral) → is_satisfied same_dim (map f set) (map f clause) ≡ is_satisfied same_dim set clause
  satisfied-map set [] = refl
  satisfied-map set (l ∷ ls) = ap₂ (λ (a b : Bool). a || b) (has-map set l) (satisfied-map set ls)

  -- the state with its literals renamed
  abbrev state : State DimacsLiteral → State DimacsLiteral
  state s = record { set = map f s.set; clashed = s.clashed }

  abbrev moved : Result (State DimacsLiteral) Why → Result (State DimacsLiteral) Why
  moved (Ok s) = Ok (state s)
  moved (Err why) = Err why

  after_open-map : (set os : List DimacsLiteral) → after_open (map f set) (map f os) ≡ moved (after_open set os)
  after_open-map set [] = refl
  after_open-map set (l ∷ []) = ap (λ (x : List DimacsLiteral). Ok (record { set = x; clashed = false })) (sym (map-append f set (l ∷ [])))
  after_open-map set (l ∷ m ∷ ls) = refl

  after_hint-map : (s : State DimacsLiteral) (clause : List DimacsLiteral)
      → after_hint same_dim opposite_dim (state s) (map f clause) ≡ moved (after_hint same_dim opposite_dim s clause)
  after_hint-map s clause = go (s.clashed) (is_satisfied same_dim s.set clause) refl refl
    where
      go : (a b : Bool) → s.clashed ≡ a → is_satisfied same_dim s.set clause ≡ b
          → after_hint same_dim opposite_dim (state s) (map f clause) ≡ moved (after_hint same_dim opposite_dim s clause)
      go true b g h = rw g refl
      go false true g h = rw (g, satisfied-map s.set clause, h) refl
      go false false g h =
          rw (g, satisfied-map s.set clause, h)
          (ap (after_open (map f s.set)) (open_in-map s.set clause) ∙ after_open-map s.set (open_in same_dim opposite_dim s.set clause))

  module _ (find find' : ℕ → Option (List DimacsLiteral)) (finds : (n : ℕ) → find' n ≡ option_map (map f) (find n)) where
    fault_from-map : (place : ℕ) (s : State DimacsLiteral) (hints : List ℕ)
        → fault_from same_dim opposite_dim find' place (state s) hints ≡ fault_from same_dim opposite_dim find place s hints
    fault_from-map place s [] = refl
    fault_from-map place s (n ∷ ns) = named (λ t. fault_from-map (place + 1) t ns) (find n) refl
      where
        go : ((t : State DimacsLiteral) → fault_from same_dim opposite_dim find' (place + 1) (state t) ns ≡ fault_from same_dim opposite_dim find (place + 1) t ns)
            → (c : List DimacsLiteral) (o : Result (State DimacsLiteral) Why) → find n ≡ Some c → after_hint same_dim opposite_dim s c ≡ o
            → fault_from same_dim opposite_dim find' place (state s) (n ∷ ns) ≡ fault_from same_dim opposite_dim find place s (n ∷ ns)
        go rest c (Ok t) g h = rw (finds n, g, after_hint-map s c, h) (rest t)
        go rest c (Err why) g h = rw (finds n, g, after_hint-map s c, h) refl

        named : ((t : State DimacsLiteral) → fault_from same_dim opposite_dim find' (place + 1) (state t) ns ≡ fault_from same_dim opposite_dim find (place + 1) t ns)
            → (o : Option (List DimacsLiteral)) → find n ≡ o
            → fault_from same_dim opposite_dim find' place (state s) (n ∷ ns) ≡ fault_from same_dim opposite_dim find place s (n ∷ ns)
        named rest None g = rw (finds n, g) refl
        named rest (Some c) g = go rest c (after_hint same_dim opposite_dim s c) g refl

    pub first_fault-map : (clause : List DimacsLiteral) (hints : List ℕ)
        → first_fault same_dim opposite_dim find' (map f clause) hints ≡ first_fault same_dim opposite_dim find clause hints
    first_fault-map clause hints = go (has_pair same_dim opposite_dim clause) refl
      where
        start : start_of same_dim opposite_dim (map f clause) ≡ state (start_of same_dim opposite_dim clause)
        start = ap (λ (l : List DimacsLiteral). record { set = l; clashed = false }) (ap (map opposite_dim) (firsts-map clause) ∙ map-opposite (firsts same_dim clause))

        go : (b : Bool) → has_pair same_dim opposite_dim clause ≡ b
            → first_fault same_dim opposite_dim find' (map f clause) hints ≡ first_fault same_dim opposite_dim find clause hints
        go true e = rw (has_pair-map clause, e) refl
        go false e =
            rw (has_pair-map clause, e)
            (ap (λ (s : State DimacsLiteral). fault_from same_dim opposite_dim find' 1 s hints) start
            ∙ fault_from-map 1 (start_of same_dim opposite_dim clause) hints)
