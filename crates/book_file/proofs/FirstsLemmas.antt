-- Literals are the clause that they make where that is as long as they are.
use Rattle.std.proofs.Common.{◌≡◌, suc, ◌≤◌, ◌<◌, Bool, true, false, not, ◌&&◌, filter, List, [], ◌∷◌, length, refl, sym, ap, ◌∙◌, arith}
use Rattle.std.proofs.lemmas.Bool.{and_parts, or_parts, not-true}
use Rattle.lits.specs.Clause.{has, firsts, no_repeat, has_pair, IsClause}
use Rattle.lits.specs.Same.{same_lit, opposite}
use Rattle.lits.specs.declared.literal.Lit.{Lit}
use Rattle.lits.proofs.Facts.{lit_laws}
use Rattle.book_file.specs.Lines.{is_clause}

filter-short : (p : Lit → Bool) (xs : List Lit) → length (filter p xs) ≤ length xs
filter-short p [] = omega arith
filter-short p (x ∷ xs) = go (p x) refl (filter-short p xs)
  where
    go : (b : Bool) → p x ≡ b → length (filter p xs) ≤ length xs → length (filter p (x ∷ xs)) ≤ length (x ∷ xs)
    go true e less = rw e (omega arith)
    go false e less = rw e (omega arith)

filter-whole : (p : Lit → Bool) (xs : List Lit) → length (filter p xs) ≡ length xs → filter p xs ≡ xs
filter-whole p [] same = refl
filter-whole p (x ∷ xs) same = go (p x) refl (filter-whole p xs)
  where
    go : (b : Bool) → p x ≡ b → (length (filter p xs) ≡ length xs → filter p xs ≡ xs) → filter p (x ∷ xs) ≡ x ∷ xs
    go true e rest =
        let more : suc (length (filter p xs)) ≡ suc (length xs) = rw e at same in
        rw e (ap (λ (l : List Lit). x ∷ l) (rest (omega arith)))
    go false e rest =
        let more : length (filter p xs) ≡ suc (length xs) = rw e at same in
        let less = filter-short p xs in absurd (omega arith)

firsts-short : (xs : List Lit) → length (firsts same_lit xs) ≤ length xs
firsts-short [] = omega arith
firsts-short (x ∷ xs) =
    let rest = firsts-short xs in
    let less = filter-short (λ y. not (same_lit x y)) (firsts same_lit xs) in omega arith

firsts-whole : (xs : List Lit) → length (firsts same_lit xs) ≡ length xs → firsts same_lit xs ≡ xs
firsts-whole [] same = refl
firsts-whole (x ∷ xs) same =
    let p : Lit → Bool = λ y. not (same_lit x y) in
    let short = firsts-short xs in
    let less = filter-short p (firsts same_lit xs) in
    let rest : firsts same_lit xs ≡ xs = firsts-whole xs (omega arith) in
    let all : filter p (firsts same_lit xs) ≡ firsts same_lit xs = filter-whole p (firsts same_lit xs) (omega arith) in
    ap (λ (l : List Lit). x ∷ l) (all ∙ rest)

keeps_all : (x : Lit) (xs : List Lit) → has same_lit xs x ≡ false → filter (λ y. not (same_lit x y)) xs ≡ xs
keeps_all x [] none = refl
keeps_all x (y ∷ ys) none =
    let parts = or_parts (same_lit y x) (has same_lit ys x) none in
    let other : same_lit x y ≡ false = lit_laws.equivalence.symm x y ∙ parts.0 in
    rw (other, keeps_all x ys parts.1) refl

-- literals that are distinct already
firsts-distinct : (xs : List Lit) → no_repeat same_lit xs ≡ true → firsts same_lit xs ≡ xs
firsts-distinct [] e = refl
firsts-distinct (x ∷ xs) e =
    let parts = and_parts (not (has same_lit xs x)) (no_repeat same_lit xs) e in
    rw (firsts-distinct xs parts.1, keeps_all x xs (not-true (has same_lit xs x) parts.0)) refl

-- a clause as long as the literals that it was made of is the list of these, and they make one
pub clause-whole : (lits clause : List Lit) → clause ≡ firsts same_lit lits → length lits ≤ length clause → clause ≡ lits
clause-whole lits clause is long =
    let short = firsts-short lits in
    is ∙ firsts-whole lits (omega (arith, ap length is))

pub whole-clause : (lits clause : List Lit) → clause ≡ lits → IsClause same_lit opposite clause → is_clause lits ≡ true
whole-clause lits clause same is =
    let once : no_repeat same_lit lits ≡ true = ap (no_repeat same_lit) (sym same) ∙ is.once in
    let apart : has_pair same_lit opposite lits ≡ false = ap (has_pair same_lit opposite) (sym same) ∙ is.apart in
    rw (once, apart) refl

-- where it is shorter some literal stands twice
pub shorter-no_clause : (lits clause : List Lit) → clause ≡ firsts same_lit lits → length clause < length lits → is_clause lits ≡ false
shorter-no_clause lits clause is short = go (no_repeat same_lit lits) refl
  where
    go : (b : Bool) → no_repeat same_lit lits ≡ b → is_clause lits ≡ false
    go true e = let same = firsts-distinct lits e in absurd (omega (arith, ap length is, ap length same))
    go false e = rw e refl

pub pair-no_clause : (lits : List Lit) → has_pair same_lit opposite lits ≡ true → is_clause lits ≡ false
pair-no_clause lits pair = rw pair (go (no_repeat same_lit lits))
  where
    go : (b : Bool) → (b && false) ≡ false
    go true = refl
    go false = refl
