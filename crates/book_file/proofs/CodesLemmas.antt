-- How it shows literal by literal whether a list is a clause, and how a set has the codes of those that were seen.
use Rattle.std.proofs.Common.{◌≡◌, ℕ, ◌+◌, ◌<◌, Bool, true, false, not, ◌&&◌, ◌||◌, List, [], ◌∷◌, ◌++◌, cond, length, take, get_or, nat_cmp, refl, sym, ap, ◌∙◌, arith}
use Rattle.std.proofs.lemmas.List.{take_more}
use Rattle.std.proofs.lemmas.Bool.Decides.{nat_tests}
use Rattle.std.specs.BTreeSet.{BTreeSet, contains, Updates}
use Rattle.std.specs.BTreeMap.{is_at}
use Rattle.lits.specs.Clause.{has, no_repeat, has_pair}
use Rattle.lits.specs.Code.{code_of_lit}
use Rattle.lits.specs.declared.literal.Lit.{Lit}
use Rattle.lits.specs.Same.{same_lit, opposite}
use Rattle.lits.proofs.Facts.{lit_laws, has-append, no_repeat-push, has_pair-push, own-code_of_lit}
use Rattle.book_file.specs.Lines.{is_clause}

-- the set has the codes of these literals, and of no others
abbrev pub HasCodes : BTreeSet ℕ → List Lit → Type 0
HasCodes codes lits = (l : Lit) → contains nat_cmp codes (code_of_lit l) ≡ has same_lit lits l

at-number : (m n : ℕ) → is_at (nat_cmp m) n ≡ true → m ≡ n
at-number m n e = grind (arith, nat_tests)

at-itself : (n : ℕ) → is_at (nat_cmp n) n ≡ true
at-itself n = grind (arith, nat_tests)

-- the codes of two literals are equal where the literals are
at-code : (x l : Lit) → is_at (nat_cmp (code_of_lit x)) (code_of_lit l) ≡ same_lit x l
at-code x l = go (is_at (nat_cmp (code_of_lit x)) (code_of_lit l)) (same_lit x l) refl refl
  where
    go : (a b : Bool) → is_at (nat_cmp (code_of_lit x)) (code_of_lit l) ≡ a → same_lit x l ≡ b → a ≡ b
    go true true e f = refl
    go false false e f = refl
    go true false e f =
        let one : x ≡ l = own-code_of_lit x l (at-number (code_of_lit x) (code_of_lit l) e) in
        let same : same_lit x l ≡ true = ap (same_lit x) (sym one) ∙ lit_laws.equivalence.refl x in
        cc
    go false true e f =
        let one : x ≡ l = lit_laws.exact x l f in
        let same : is_at (nat_cmp (code_of_lit x)) (code_of_lit l) ≡ true =
        ap (λ (y : Lit). is_at (nat_cmp (code_of_lit x)) (code_of_lit y)) (sym one) ∙ at-itself (code_of_lit x) in
        cc

is_clause-push : (xs : List Lit) (x : Lit)
    → is_clause (xs ++ x ∷ []) ≡ ((is_clause xs && not (has same_lit xs (opposite x))) && not (has same_lit xs x))
is_clause-push xs x =
    rw (no_repeat-push lit_laws xs x, has_pair-push lit_laws xs x)
    (bits (no_repeat same_lit xs) (has_pair same_lit opposite xs) (has same_lit xs x) (has same_lit xs (opposite x)))
  where
    bits : (once pair x opposite : Bool)
        → ((once && not x) && not (pair || opposite)) ≡ (((once && not pair) && not opposite) && not x)
    bits false pair x opposite = refl
    bits true true true opposite = refl
    bits true true false opposite = refl
    bits true false true true = refl
    bits true false true false = refl
    bits true false false true = refl
    bits true false false false = refl

-- the literal at a place joins those before it
module _ (lits : List Lit) (i : ℕ) (below : i < length lits) (d : Lit) where
  pub codes-next : (old new : BTreeSet ℕ) → Updates nat_cmp old new (code_of_lit (get_or lits i d)) true
      → HasCodes old (take i lits) → HasCodes new (take (i + 1) lits)
  codes-next old new updates are l =
      updates.0 (code_of_lit l)
      ∙ rw (at-code (get_or lits i d) l, are l, take_more lits i d below, has-append lit_laws (take i lits) (get_or lits i d ∷ []) l)
      (bits (same_lit (get_or lits i d) l) (has same_lit (take i lits) l))
    where
      bits : (a b : Bool) → cond a true b ≡ (b || (a || false))
      bits true true = refl
      bits true false = refl
      bits false true = refl
      bits false false = refl

  pub clause-next : (old : BTreeSet ℕ) → HasCodes old (take i lits)
      → is_clause (take (i + 1) lits)
      ≡ ((is_clause (take i lits) && not (contains nat_cmp old (code_of_lit (opposite (get_or lits i d)))))
      && not (contains nat_cmp old (code_of_lit (get_or lits i d))))
  clause-next old are =
      rw (take_more lits i d below, are (opposite (get_or lits i d)), are (get_or lits i d))
      (is_clause-push (take i lits) (get_or lits i d))
