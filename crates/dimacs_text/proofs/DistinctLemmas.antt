-- How the first ones of a list of literals grow with it, and the set of their codes.
use Rattle.std.proofs.Common.{◌≡◌, ℕ, ◌+◌, ◌<◌, Bool, true, false, ◌||◌, List, [], ◌∷◌, ◌++◌, cond, length, take, get_or, nat_cmp, refl, sym, ap, ◌∙◌, subst, arith}
use Rattle.std.proofs.lemmas.Bool.Decides.{nat_tests}
use Rattle.std.specs.BTreeSet.{BTreeSet, contains, Updates, IsUnchanged}
use Rattle.std.specs.BTreeMap.{is_at}
use Rattle.std.specs.List.{list_any}
use Rattle.lits.specs.Clause.{has, firsts}
use Rattle.lits.specs.Code.{code_of_dim}
use Rattle.lits.specs.Dimacs.{DimacsLiteral}
use Rattle.lits.specs.Same.{same_dim}
use Rattle.lits.proofs.Facts.{dim_laws, take_one, has-append, has-firsts, firsts-push, own-code_of_dim}

-- the literal at a place joins those that are kept of the literals before, unless it is there
module _ (lits : List DimacsLiteral) (i : ℕ) (x : DimacsLiteral) (kept : List DimacsLiteral)
    (below : i < length lits) (at : x ≡ get_or lits i x) (first : kept ≡ firsts same_dim (take i lits)) where
  next : (b : Bool) → has same_dim kept x ≡ b
      → cond b kept (kept ++ x ∷ []) ≡ firsts same_dim (take (i + 1) lits)
  next b e =
      let is : has same_dim (take i lits) x ≡ b =
      sym (has-firsts dim_laws (take i lits) x) ∙ ap (λ l. has same_dim l x) (sym first) ∙ e in
      rw (take_one lits i x below at, firsts-push dim_laws (take i lits) x, is, sym first) refl

  pub first-known : has same_dim kept x ≡ true → kept ≡ firsts same_dim (take (i + 1) lits)
  first-known e = next true e

  pub first-new : has same_dim kept x ≡ false → kept ++ x ∷ [] ≡ firsts same_dim (take (i + 1) lits)
  first-new e = next false e

-- the set has the codes of these literals, and of no others
abbrev pub HasCodes : BTreeSet ℕ → List DimacsLiteral → Type 0
HasCodes codes lits = (d : DimacsLiteral) → contains nat_cmp codes (code_of_dim d) ≡ has same_dim lits d

at-number : (m n : ℕ) → is_at (nat_cmp m) n ≡ true → m ≡ n
at-number m n e = grind (arith, nat_tests)

at-itself : (n : ℕ) → is_at (nat_cmp n) n ≡ true
at-itself n = grind (arith, nat_tests)

-- the codes of two literals are equal where the literals are
at-code : (x d : DimacsLiteral) → is_at (nat_cmp (code_of_dim x)) (code_of_dim d) ≡ same_dim x d
at-code x d = go (is_at (nat_cmp (code_of_dim x)) (code_of_dim d)) (same_dim x d) refl refl
  where
    go : (a b : Bool) → is_at (nat_cmp (code_of_dim x)) (code_of_dim d) ≡ a → same_dim x d ≡ b → a ≡ b
    go true true e f = refl
    go false false e f = refl
    go true false e f =
        let one : x ≡ d = own-code_of_dim x d (at-number (code_of_dim x) (code_of_dim d) e) in
        let same : same_dim x d ≡ true = ap (same_dim x) (sym one) ∙ dim_laws.equivalence.refl x in
        cc
    go false true e f =
        let one : x ≡ d = dim_laws.exact x d f in
        let same : is_at (nat_cmp (code_of_dim x)) (code_of_dim d) ≡ true =
        ap (λ (y : DimacsLiteral). is_at (nat_cmp (code_of_dim x)) (code_of_dim y)) (sym one) ∙ at-itself (code_of_dim x) in
        cc

pub codes-new : (old new : BTreeSet ℕ) (x : DimacsLiteral) (lits : List DimacsLiteral)
    → Updates nat_cmp old new (code_of_dim x) true → HasCodes old lits → HasCodes new (lits ++ x ∷ [])
codes-new old new x lits updates are d =
    updates.0 (code_of_dim d)
    ∙ rw (at-code x d, are d, has-append dim_laws lits (x ∷ []) d) (bits (same_dim x d) (has same_dim lits d))
  where
    bits : (a b : Bool) → cond a true b ≡ (b || (a || false))
    bits true true = refl
    bits true false = refl
    bits false true = refl
    bits false false = refl

pub codes-known : (old new : BTreeSet ℕ) (lits : List DimacsLiteral) → IsUnchanged old new → HasCodes old lits
    → HasCodes new lits
codes-known old new lits same are d =
    ap (λ (keys : List ℕ). list_any (is_at (nat_cmp (code_of_dim d))) keys) same ∙ are d
