-- Clauses are their distinct literals already.
use Rattle.std.proofs.Common.{◌≡◌, true, false, not, map, filter, List, [], ◌∷◌, refl, ◌∙◌}
use Rattle.std.specs.List.{AllByRecursion}
use Rattle.std.proofs.lemmas.Bool.{and_parts, or_parts, not-true}
use Rattle.lits.specs.Clause.{has, firsts, no_repeat, IsClause}
use Rattle.lits.specs.Dimacs.{DimacsLiteral}
use Rattle.lits.specs.Same.{same_dim, opposite_dim}
use Rattle.lits.proofs.Facts.{dim_laws}

keeps_all : (x : DimacsLiteral) (xs : List DimacsLiteral) → has same_dim xs x ≡ false
    → filter (λ y. not (same_dim x y)) xs ≡ xs
keeps_all x [] none = refl
keeps_all x (y ∷ ys) none =
    let parts = or_parts (same_dim y x) (has same_dim ys x) none in
    let other : same_dim x y ≡ false = dim_laws.equivalence.symm x y ∙ parts.0 in
    rw (other, keeps_all x ys parts.1) refl

-- literals that are distinct already
firsts-distinct : (xs : List DimacsLiteral) → no_repeat same_dim xs ≡ true → firsts same_dim xs ≡ xs
firsts-distinct [] e = refl
firsts-distinct (x ∷ xs) e =
    let parts = and_parts (not (has same_dim xs x)) (no_repeat same_dim xs) e in
    rw (firsts-distinct xs parts.1, keeps_all x xs (not-true (has same_dim xs x) parts.0)) refl

pub firsts-clauses : (clauses : List (List DimacsLiteral))
    → AllByRecursion (IsClause same_dim opposite_dim) clauses
    → map (firsts same_dim) clauses ≡ clauses
firsts-clauses [] all = refl
firsts-clauses (c ∷ cs) all = rw (firsts-distinct c all.0.once, firsts-clauses cs all.1) refl
