-- How clauses are read entry by entry, and what they are at the end.
use Rattle.std.proofs.Common.{◌≡◌, ℕ, List, [], ◌∷◌, ◌++◌, Option, Some, None, Ok, Err, length, map, refl, sym, ap, ◌∙◌, append-nil, append_assoc, eq-eqb, ne_eqb, arith}
use Rattle.std.specs.Prelude.{option_map, option_and_then}
use Rattle.std.specs.List.{flat_map}
use Rattle.std.proofs.lemmas.List.{map_push, length-map}
use Rattle.lits.specs.Clause.{firsts}
use Rattle.lits.specs.Dimacs.{DimacsLiteral}
use Rattle.lits.specs.Same.{same_dim}
use Rattle.dimacs_text.specs.declared.error.CnfErr.TheVariants.{Truncated, Count}
use Rattle.dimacs_text.specs.declared.header.Header.{Header}
use Rattle.dimacs_text.specs.Reading.{with_literal, clauses_in, formula_of}
use Rattle.dimacs_text.specs.Clauses.{entries_of, AreReadAs}

-- the entries of literals
abbrev somes : List DimacsLiteral → List (Option DimacsLiteral)
somes literals = map (λ d. Some d) literals

abbrev entries : List (List DimacsLiteral) → List (Option DimacsLiteral)
entries clauses = flat_map entries_of clauses

entries-push : (clauses : List (List DimacsLiteral)) (clause : List DimacsLiteral)
    → entries (clauses ++ clause ∷ []) ≡ entries clauses ++ entries_of clause
entries-push [] clause = append-nil (entries_of clause)
entries-push (c ∷ cs) clause =
    ap (λ (l : List (Option DimacsLiteral)). entries_of c ++ l) (entries-push cs clause)
    ∙ sym (append_assoc (entries_of c) (entries cs) (entries_of clause))

pub read-literal : (es : List (Option DimacsLiteral)) (ended : List (List DimacsLiteral))
    (literals : List DimacsLiteral) (d : DimacsLiteral)
    → AreReadAs es ended literals → AreReadAs (es ++ Some d ∷ []) ended (literals ++ d ∷ [])
read-literal es ended literals d r = record {
  clauses = r.clauses;
  kept = r.kept;
  split =
      ap (λ (l : List (Option DimacsLiteral)). l ++ Some d ∷ []) r.split
      ∙ append_assoc (entries r.clauses) (somes literals) (Some d ∷ [])
      ∙ ap (λ (l : List (Option DimacsLiteral)). entries r.clauses ++ l)
      (sym (map_push (λ (x : DimacsLiteral). Some x) literals d));
}

pub read-end : (es : List (Option DimacsLiteral)) (ended : List (List DimacsLiteral))
    (literals : List DimacsLiteral)
    → AreReadAs es ended literals
    → AreReadAs (es ++ None ∷ []) (ended ++ firsts same_dim literals ∷ []) []
read-end es ended literals r = record {
  clauses = r.clauses ++ literals ∷ [];
  kept = ap (λ (l : List (List DimacsLiteral)). l ++ firsts same_dim literals ∷ []) r.kept
      ∙ sym (map_push (firsts same_dim) r.clauses literals);
  split =
      ap (λ (l : List (Option DimacsLiteral)). l ++ None ∷ []) r.split
      ∙ append_assoc (entries r.clauses) (somes literals) (None ∷ [])
      ∙ sym (append-nil (entries (r.clauses ++ literals ∷ [])) ∙ entries-push r.clauses literals);
}

-- the clauses behind one that is ended
clauses_in-clause : (clause : List DimacsLiteral) (es : List (Option DimacsLiteral))
    → clauses_in (entries_of clause ++ es) ≡ option_map (λ cs. clause ∷ cs) (clauses_in es)
clauses_in-clause [] es = refl
clauses_in-clause (d ∷ ds) es =
    ap (option_and_then (with_literal d)) (clauses_in-clause ds es) ∙ go (clauses_in es)
  where
    go : (o : Option (List (List DimacsLiteral)))
        → option_and_then (with_literal d) (option_map (λ cs. ds ∷ cs) o) ≡ option_map
        (λ cs. (d ∷ ds) ∷ cs) o
    go None = refl
    go (Some cs) = refl

clauses_in-ended : (clauses : List (List DimacsLiteral)) (es : List (Option DimacsLiteral))
    → clauses_in (entries clauses ++ es) ≡ option_map (λ cs. clauses ++ cs) (clauses_in es)
clauses_in-ended [] es = go (clauses_in es)
  where
    go : (o : Option (List (List DimacsLiteral))) → o ≡ option_map (λ cs. [] ++ cs) o
    go None = refl
    go (Some cs) = refl
clauses_in-ended (c ∷ cs) es =
    ap clauses_in (append_assoc (entries_of c) (entries cs) es)
    ∙ clauses_in-clause c (entries cs ++ es)
    ∙ ap (option_map (λ (more : List (List DimacsLiteral)). c ∷ more)) (clauses_in-ended cs es)
    ∙ go (clauses_in es)
  where
    go : (o : Option (List (List DimacsLiteral)))
        → option_map (λ more. c ∷ more) (option_map (λ more. cs ++ more) o) ≡ option_map
        (λ more. (c ∷ cs) ++ more) o
    go None = refl
    go (Some more) = refl

pub clauses_in-whole : (clauses : List (List DimacsLiteral))
    → clauses_in (flat_map entries_of clauses) ≡ Some clauses
clauses_in-whole clauses =
    ap clauses_in (sym (append-nil (entries clauses))) ∙ clauses_in-ended clauses []
    ∙ ap (λ (cs : List (List DimacsLiteral)). Some cs) (append-nil clauses)

-- literals without a 0 are no clause
clauses_in-open : (d : DimacsLiteral) (ds : List DimacsLiteral) → clauses_in (somes (d ∷ ds)) ≡ None
clauses_in-open d [] = refl
clauses_in-open d (e ∷ es) = rw (clauses_in-open e es) refl

module _ (header : Header) (size : ℕ) (es : List (Option DimacsLiteral))
    (ended : List (List DimacsLiteral)) where
  -- a clause is open at the end
  pub formula-truncated : (literals : List DimacsLiteral) → (length literals ≡ 0 → ⊥)
      → AreReadAs es ended literals → Err (Truncated size) ≡ formula_of header size (clauses_in es)
  formula-truncated [] some r = absurd (some refl)
  formula-truncated (d ∷ ds) some r =
      let none : clauses_in es ≡ None = ap clauses_in r.split
      ∙ clauses_in-ended r.clauses (somes (d ∷ ds)) ∙ rw (clauses_in-open d ds) refl in
      rw none refl

  -- all clauses are ended
  whole : (r : AreReadAs es ended []) → clauses_in es ≡ Some r.clauses
  whole r = ap clauses_in (r.split ∙ append-nil (entries r.clauses)) ∙ clauses_in-whole r.clauses

  count : (r : AreReadAs es ended []) → length r.clauses ≡ length ended
  count r =
      sym (ap (λ (cs : List (List DimacsLiteral)). length cs) r.kept
      ∙ length-map r.clauses (firsts same_dim))

  pub formula-counted : (literals : List DimacsLiteral) → length literals ≡ 0
      → (length ended ≡ header.clauses → ⊥) → AreReadAs es ended literals
      → Err (Count header.clauses (length ended)) ≡ formula_of header size (clauses_in es)
  formula-counted [] none wrong r = let e = ne_eqb _ _ wrong in rw (whole r, count r, e) refl
  formula-counted (d ∷ ds) none wrong r = absurd (omega arith)

  pub formula-read : (literals : List DimacsLiteral) → length literals ≡ 0
      → length ended ≡ header.clauses → AreReadAs es ended literals
      → Ok (record { variables = header.variables; clauses = ended }) ≡ formula_of header size
      (clauses_in es)
  formula-read [] none right r = let e =
      eq-eqb _ _ right in rw (whole r, count r, e, sym r.kept) refl
  formula-read (d ∷ ds) none right r = absurd (omega arith)
