-- How the words behind a header are read one by one.
use Rattle.std.proofs.Common.{◌≡◌, ℕ, List, [], ◌∷◌, ◌++◌, Option, Result, Ok, Err, refl, sym, ap, ◌∙◌, append_assoc}
use Rattle.lits.specs.Dimacs.{DimacsLiteral}
use Rattle.dimacs_text.specs.declared.clauses.Clauses.{Clauses}
use Rattle.dimacs_text.specs.declared.error.CnfErr.{CnfErr}
use Rattle.dimacs_text.specs.Reading.{entry_in, entries_in}
use Rattle.tokens.specs.Reading.{◌>>=◌}
use Rattle.tokens.specs.Words.{Part}
use Rattle.dimacs_text.specs.Clauses.{AreRead}

-- entries that were read before
abbrev with_front : List (Option DimacsLiteral) → Result (List (Option DimacsLiteral)) CnfErr
    → Result (List (Option DimacsLiteral)) CnfErr
with_front seen read = read >>= λ more. Ok (seen ++ more)

-- what was read before the words that are left
pub record ReadSoFar (variables : ℕ) (words left : List Part) (clauses : Clauses) : Type 0 where
  pub seen : List (Option DimacsLiteral)
  pub found : entries_in variables words ≡ with_front seen (entries_in variables left)
  pub so_far : AreRead seen clauses

pub read_more : (variables : ℕ) (words : List Part) (word : Part) (left : List Part)
    (entry : Option DimacsLiteral) (clauses new : Clauses) → Ok entry ≡ entry_in variables word
    → ((es : List (Option DimacsLiteral)) → AreRead es clauses → AreRead (es ++ entry ∷ []) new)
    → ReadSoFar variables words (word ∷ left) clauses → ReadSoFar variables words left new
read_more variables words word left entry clauses new e grows r = record {
  seen = r.seen ++ entry ∷ [];
  found = r.found ∙ rw (sym e) (go (entries_in variables left));
  so_far = grows r.seen r.so_far;
}
  where
    go : (o : Result (List (Option DimacsLiteral)) CnfErr)
        → with_front r.seen (o >>= λ es. Ok (entry ∷ es)) ≡ with_front (r.seen ++ entry ∷ []) o
    go (Ok es) =
        ap (λ (l : List (Option DimacsLiteral)). Ok l) (sym (append_assoc r.seen (entry ∷ []) es))
    go (Err d) = refl
