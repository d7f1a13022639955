-- Literals by numbers of their variables are renamed one to one.
use Rattle.std.proofs.Common.{◌≡◌, ℕ, ◌+◌, ◌<◌, Bool, true, false, List, [], ◌∷◌, ◌++◌, map, take, length, get_or, Option, Some, None, refl, sym, ap, ap₂, ◌∙◌, arith}
use Rattle.std.proofs.lemmas.List.{map-append}
use Rattle.lits.specs.Dimacs.{DimacsLiteral}
use Rattle.lits.specs.Same.{same_dim}
use Rattle.lits.proofs.Facts.{dim_laws, take_one}
use Rattle.lrat_checker.specs.Renamed.{IsRenaming, IsNumbering, Extends, ByNumbers, number_of, renumbered}

-- two variables of one number are one
module _ (numbers : ℕ → Option ℕ) (count : ℕ) (is : IsNumbering numbers count) where
  number_of-apart : (v w : ℕ) → number_of numbers count v ≡ number_of numbers count w → v ≡ w
  number_of-apart v w same = go (numbers v) (numbers w) refl refl
    where
      go : (a b : Option ℕ) → numbers v ≡ a → numbers w ≡ b → v ≡ w
      go (Some n) (Some m) e f =
          let k : n ≡ m = rw (e, f) at same in
          is.apart v w n e (f ∙ ap Some (sym k))
      go (Some n) None e f =
          let k : n ≡ count + w + 1 = rw (e, f) at same in
          let below = (is.within v n e).1 in
          omega (arith, k, below)
      go None (Some m) e f =
          let k : count + v + 1 ≡ m = rw (e, f) at same in
          let below = (is.within w m f).1 in
          omega (arith, k, below)
      go None None e f =
          let k : count + v + 1 ≡ count + w + 1 = rw (e, f) at same in
          omega (arith, k)

  pub renumbered-renames : IsRenaming (renumbered numbers count)
  renumbered-renames = record { same = same; flips = λ x. refl }
    where
      back : (x y : DimacsLiteral) → renumbered numbers count x ≡ renumbered numbers count y → x ≡ y
      back x y e =
          let v : x.var ≡ y.var = number_of-apart x.var y.var (ap (λ (d : DimacsLiteral). d.var) e) in
          let n : x.neg ≡ y.neg = ap (λ (d : DimacsLiteral). d.neg) e in
          ap₂ (λ (var : ℕ) (neg : Bool). record { var = var; neg = neg }) v n

      same : (x y : DimacsLiteral) → same_dim (renumbered numbers count x) (renumbered numbers count y) ≡ same_dim x y
      same x y = go (same_dim (renumbered numbers count x) (renumbered numbers count y)) (same_dim x y) refl refl
        where
          go : (a b : Bool) → same_dim (renumbered numbers count x) (renumbered numbers count y) ≡ a → same_dim x y ≡ b
              → same_dim (renumbered numbers count x) (renumbered numbers count y) ≡ same_dim x y
          go true true e f = e ∙ sym f
          go false false e f = e ∙ sym f
          go true false e f =
              let one : x ≡ y = back x y (dim_laws.exact (renumbered numbers count x) (renumbered numbers count y) e) in
              let g : same_dim x y ≡ true = ap (same_dim x) (sym one) ∙ dim_laws.equivalence.refl x in
              cc
          go false true e f =
              let one : x ≡ y = dim_laws.exact x y f in
              let g : same_dim (renumbered numbers count x) (renumbered numbers count y) ≡ true =
              ap (λ (d : DimacsLiteral). same_dim (renumbered numbers count x) (renumbered numbers count d)) (sym one) ∙ dim_laws.equivalence.refl (renumbered numbers count x) in
              cc

-- what is renumbered, with one item more
pub by_numbers-more : {A : Type 0} (rename : (DimacsLiteral → DimacsLiteral) → A → A) (old new : ℕ → Option ℕ) (xs : List A) (i : ℕ) (x y : A) (ys : List A)
    → i < length xs → x ≡ get_or xs i x → Extends old new → ByNumbers rename old (take i xs) ys
    → ((later : ℕ → Option ℕ) (count : ℕ) → Extends new later → y ≡ rename (renumbered later count) x)
    → ByNumbers rename new (take (i + 1) xs) (ys ++ y ∷ [])
by_numbers-more rename old new xs i x y ys below at more so next later count extends =
    let f = renumbered later count in
    rw (so later count (λ v n e. extends v n (more v n e)), next later count extends)
    (sym (ap (map (rename f)) (take_one xs i x below at) ∙ map-append (rename f) (take i xs) (x ∷ [])))
