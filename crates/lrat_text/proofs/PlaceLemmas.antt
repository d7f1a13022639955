-- What one number more makes of the parts of a line.
use Rattle.std.proofs.Common.{◌≡◌, ℕ, Bool, true, false, ◌&&◌, ◌||◌, List, [], ◌∷◌, ◌++◌, Option, Some, None, refl, sym, ap, ◌∙◌, append-nil, append_assoc, subst}
use Rattle.std.specs.Prelude.{option_map, IfSome}
use Rattle.std.specs.List.{list_any, list_all}
use Rattle.std.proofs.lemmas.Bool.{and_parts}
use Rattle.std.proofs.lemmas.List.{map_push}
use Rattle.std.proofs.lemmas.List.Folds.{list_any-append, list_all-append}
use Rattle.std.proofs.Math.Bool.{or-false}
use Rattle.lits.specs.Dimacs.{DimacsLiteral}
use Rattle.lrat_text.specs.declared.error.LratErr.{LratErr}
use Rattle.lrat_text.specs.declared.error.LratErr.TheVariants.{BadNumber, Truncated, Order, Rat, NoMemory}
use Rattle.tokens.specs.declared.number.Number.{Number}
use Rattle.tokens.specs.Numbers.{number_in, numbers_in}
use Rattle.tokens.specs.Words.{is_empty}
use Rattle.lrat_text.specs.declared.parts.Parts.{Parts}
use Rattle.lrat_text.specs.declared.parts.Place.TheVariants.{Literals, Hints, End}
use Rattle.lrat_text.specs.Numbers.{is_zero, is_literal, is_hint, literal_of, up_to_zero, past_zero, in_place}
use Rattle.lrat_text.specs.Parts.{AreRead, IsParts, IsBadNumber}
use Rattle.lrat_text.proofs.PartLemmas.{up_to_zero-append, past_zero-append}

module _ (ns : List Number) (rest : List Number) where
  literals-append : list_any is_zero ns ≡ false → up_to_zero (ns ++ rest) ≡ ns ++ up_to_zero rest
  literals-append e = up_to_zero-append ns rest ∙ rw e refl

  past-append : list_any is_zero ns ≡ false → past_zero (ns ++ rest) ≡ past_zero rest
  past-append e = past_zero-append ns rest ∙ rw e refl

  literals-kept : list_any is_zero ns ≡ true → up_to_zero (ns ++ rest) ≡ up_to_zero ns
  literals-kept e = up_to_zero-append ns rest ∙ rw e refl

  past-kept : list_any is_zero ns ≡ true → past_zero (ns ++ rest) ≡ past_zero ns ++ rest
  past-kept e = past_zero-append ns rest ∙ rw e refl

whole : (ns : List Number) → list_any is_zero ns ≡ false → up_to_zero ns ≡ ns
whole ns e = ap up_to_zero (sym (append-nil ns)) ∙ literals-append ns [] e ∙ append-nil ns

nothing_past : (ns : List Number) → list_any is_zero ns ≡ false → past_zero ns ≡ []
nothing_past ns e = ap past_zero (sym (append-nil ns)) ∙ past-append ns [] e

and_false : (a b : Bool) → ((a && false) && b) ≡ false
and_false true b = refl
and_false false b = refl

middle_false : (a b c : Bool) → (a && ((b && false) && c)) ≡ false
middle_false true true c = refl
middle_false true false c = refl
middle_false false b c = refl

end_false : (a b : Bool) → (a && (b && false)) ≡ false
end_false true true = refl
end_false true false = refl
end_false false b = refl

not_empty : (xs : List Number) (x : Number) (ys : List Number) → is_empty (xs ++ x ∷ ys) ≡ false
not_empty [] x ys = refl
not_empty (y ∷ xs) x ys = refl

-- a 0 ends the literals
pub read-zero : (ns : List Number) (n : Number) (ls : List DimacsLiteral) (hs : List ℕ)
    (minus : Bool) → is_zero n ≡ true
    → AreRead ns ls hs minus Literals → AreRead (ns ++ n ∷ []) ls hs minus Hints
read-zero ns n ls hs minus zero r =
    let up : up_to_zero (ns ++ n ∷ []) ≡ up_to_zero ns = literals-append ns (n ∷ []) r.first_zero
    ∙ rw zero (append-nil ns ∙ sym (whole ns r.first_zero)) in
    let past : past_zero (ns ++ n ∷ []) ≡ past_zero ns = past-append ns (n ∷ []) r.first_zero
    ∙ rw zero (sym (nothing_past ns r.first_zero)) in
    record {
      literals_are = rw up r.literals_are;
      hints_are = rw past r.hints_are;
      minus_is = rw past r.minus_is;
      first_zero = list_any-append is_zero ns (n ∷ []) ∙ rw (r.first_zero, zero) refl;
      second_zero = rw past r.second_zero;
      placed = rw (up, past) r.placed;
    }

pub read-literal : (ns : List Number) (n : Number) (ls : List DimacsLiteral) (hs : List ℕ)
    (minus : Bool) → is_zero n ≡ false → is_literal n ≡ true
    → AreRead ns ls hs minus Literals
    → AreRead (ns ++ n ∷ []) (ls ++ literal_of n ∷ []) hs minus Literals
read-literal ns n ls hs minus other fits r =
    let up : up_to_zero (ns ++ n ∷ []) ≡ up_to_zero ns ++ n ∷ [] =
    literals-append ns (n ∷ []) r.first_zero
    ∙ rw other (ap (λ (l : List Number). l ++ n ∷ []) (sym (whole ns r.first_zero))) in
    let past : past_zero (ns ++ n ∷ []) ≡ past_zero ns = past-append ns (n ∷ []) r.first_zero
    ∙ rw other (sym (nothing_past ns r.first_zero)) in
    let good = and_parts (list_all is_literal (up_to_zero ns)) _ r.placed in
    record {
      literals_are =
          rw up (ap (λ (l : List DimacsLiteral). l ++ literal_of n ∷ []) r.literals_are
          ∙ sym (map_push literal_of (up_to_zero ns) n));
      hints_are = rw past r.hints_are;
      minus_is = rw past r.minus_is;
      first_zero = list_any-append is_zero ns (n ∷ []) ∙ rw (r.first_zero, other) refl;
      second_zero = rw past r.second_zero;
      placed =
          rw (up, past, list_all-append is_literal (up_to_zero ns) (n ∷ []), good.0, fits) good.1;
    }

-- another 0 ends the hints
pub read-last_zero : (ns : List Number) (n : Number) (ls : List DimacsLiteral) (hs : List ℕ)
    (minus : Bool) → is_zero n ≡ true
    → AreRead ns ls hs minus Hints → AreRead (ns ++ n ∷ []) ls hs minus End
read-last_zero ns n ls hs minus zero r =
    let up : up_to_zero (ns ++ n ∷ []) ≡ up_to_zero ns = literals-kept ns (n ∷ []) r.first_zero in
    let past : past_zero (ns ++ n ∷ []) ≡ past_zero ns ++ n ∷ [] =
    past-kept ns (n ∷ []) r.first_zero in
    let behind = past_zero ns in
    let hints : up_to_zero (behind ++ n ∷ []) ≡ up_to_zero behind =
    literals-append behind (n ∷ []) r.second_zero
    ∙ rw zero (append-nil behind ∙ sym (whole behind r.second_zero)) in
    let beyond : past_zero (behind ++ n ∷ []) ≡ past_zero behind =
    past-append behind (n ∷ []) r.second_zero ∙ rw zero (sym (nothing_past behind r.second_zero)) in
    record {
      literals_are = rw up r.literals_are;
      hints_are = rw (past, hints) r.hints_are;
      minus_is = rw (past, hints) r.minus_is;
      first_zero = list_any-append is_zero ns (n ∷ []) ∙ rw r.first_zero refl;
      second_zero =
          rw past (list_any-append is_zero behind (n ∷ []) ∙ rw (r.second_zero, zero) refl);
      placed = rw (up, past, hints, beyond) r.placed;
    }

pub read-hint : (ns : List Number) (n : Number) (ls : List DimacsLiteral) (hs : List ℕ)
    (minus : Bool) → is_zero n ≡ false → is_hint n ≡ true
    → AreRead ns ls hs minus Hints
    → AreRead (ns ++ n ∷ []) ls (hs ++ n.size ∷ []) (minus || n.minus) Hints
read-hint ns n ls hs minus other fits r =
    let up : up_to_zero (ns ++ n ∷ []) ≡ up_to_zero ns = literals-kept ns (n ∷ []) r.first_zero in
    let past : past_zero (ns ++ n ∷ []) ≡ past_zero ns ++ n ∷ [] =
    past-kept ns (n ∷ []) r.first_zero in
    let behind = past_zero ns in
    let hints : up_to_zero (behind ++ n ∷ []) ≡ up_to_zero behind ++ n ∷ [] =
    literals-append behind (n ∷ []) r.second_zero
    ∙ rw other (ap (λ (l : List Number). l ++ n ∷ []) (sym (whole behind r.second_zero))) in
    let beyond : past_zero (behind ++ n ∷ []) ≡ past_zero behind =
    past-append behind (n ∷ []) r.second_zero
    ∙ rw other (sym (nothing_past behind r.second_zero)) in
    let good = and_parts (list_all is_literal (up_to_zero ns)) _ r.placed in
    let better = and_parts (list_all is_hint (up_to_zero behind)) _ good.1 in
    record {
      literals_are = rw up r.literals_are;
      hints_are =
          rw (past, hints)
          (ap (λ (l : List ℕ). l ++ n.size ∷ []) r.hints_are
          ∙ sym (map_push (λ m. m.size) (up_to_zero behind) n));
      minus_is =
          rw (past, hints)
          (ap (λ (b : Bool). b || n.minus) r.minus_is
          ∙ ap (λ (b : Bool). list_any (λ m. m.minus) (up_to_zero behind) || b)
          (sym (or-false n.minus))
          ∙ sym (list_any-append (λ m. m.minus) (up_to_zero behind) (n ∷ [])));
      first_zero = list_any-append is_zero ns (n ∷ []) ∙ rw r.first_zero refl;
      second_zero =
          rw past (list_any-append is_zero behind (n ∷ []) ∙ rw (r.second_zero, other) refl);
      placed =
          rw (
            up,
            past,
            hints,
            beyond,
            good.0,
            list_all-append is_hint (up_to_zero behind)
                (n ∷ []),
            better.0,
            fits,
          ) better.1;
    }

-- numbers that don't fit, whatever stands behind them
pub misread-literal : (ns : List Number) (n : Number) (ls : List DimacsLiteral) (hs : List ℕ)
    (minus : Bool) → is_zero n ≡ false → is_literal n ≡ false
    → (more : List Number) → AreRead ns ls hs minus Literals → in_place (ns ++ n ∷ more) ≡ false
misread-literal ns n ls hs minus other wrong more r =
    let up : up_to_zero (ns ++ n ∷ more) ≡ ns ++ n ∷ up_to_zero more =
    literals-append ns (n ∷ more) r.first_zero ∙ rw other refl in
    rw (up, list_all-append is_literal ns (n ∷ up_to_zero more), wrong)
    (and_false (list_all is_literal ns) _)

pub misread-hint : (ns : List Number) (n : Number) (ls : List DimacsLiteral) (hs : List ℕ)
    (minus : Bool) → is_zero n ≡ false → is_hint n ≡ false
    → (more : List Number) → AreRead ns ls hs minus Hints → in_place (ns ++ n ∷ more) ≡ false
misread-hint ns n ls hs minus other wrong more r =
    let behind = past_zero ns in
    let past : past_zero (ns ++ n ∷ more) ≡ behind ++ n ∷ more =
    past-kept ns (n ∷ more) r.first_zero in
    let hints : up_to_zero (behind ++ n ∷ more) ≡ behind ++ n ∷ up_to_zero more =
    literals-append behind (n ∷ more) r.second_zero ∙ rw other refl in
    rw (past, hints, list_all-append is_hint behind (n ∷ up_to_zero more), wrong)
    (middle_false (list_all is_literal (up_to_zero (ns ++ n ∷ more))) (list_all is_hint behind) _)

pub misread-end : (ns : List Number) (n : Number) (ls : List DimacsLiteral) (hs : List ℕ)
    (minus : Bool)
    → (more : List Number) → AreRead ns ls hs minus End → in_place (ns ++ n ∷ more) ≡ false
misread-end ns n ls hs minus more r =
    let behind = past_zero ns in
    let past : past_zero (ns ++ n ∷ more) ≡ behind ++ n ∷ more =
    past-kept ns (n ∷ more) r.first_zero in
    let beyond : past_zero (behind ++ n ∷ more) ≡ past_zero behind ++ n ∷ more =
    past-kept behind (n ∷ more) r.second_zero in
    rw (past, beyond, not_empty (past_zero behind) n more)
    (end_false (list_all is_literal (up_to_zero (ns ++ n ∷ more)))
    (list_all is_hint (up_to_zero (behind ++ n ∷ more))))

-- what was read before the words that are left
pub record ReadSoFar (front : List Number) (words left : List (List ℕ))
    (parts : Parts) : Type 0 where
  pub seen : List Number
  pub found : numbers_in words ≡ option_map (λ ns. seen ++ ns) (numbers_in left)
  pub so_far : IsParts (front ++ seen) parts

-- a word that writes a number
found-more : (seen : List Number) (word : List ℕ) (n : Number) (left : List (List ℕ))
    → number_in word ≡ Some n
    → option_map (λ ns. seen ++ ns) (numbers_in (word ∷ left)) ≡ option_map
    (λ ns. (seen ++ n ∷ []) ++ ns) (numbers_in left)
found-more seen word n left e = rw e (go (numbers_in left))
  where
    go : (o : Option (List Number))
        → option_map (λ ns. seen ++ ns) (option_map (λ ns. n ∷ ns) o) ≡ option_map
        (λ ns. (seen ++ n ∷ []) ++ ns) o
    go None = refl
    go (Some ns) = ap (λ (l : List Number). Some l) (sym (append_assoc seen (n ∷ []) ns))

-- a number that doesn't fit
pub read-misfit : (front : List Number) (words : List (List ℕ)) (word : List ℕ)
    (left : List (List ℕ)) (n : Number) (parts : Parts)
    → number_in word ≡ Some n
    → ((ns more : List Number) → IsParts ns parts → in_place (ns ++ n ∷ more) ≡ false)
    → ReadSoFar front words (word ∷ left) parts
    → IfSome (numbers_in words) (λ ns. in_place (front ++ ns) ≡ false)
read-misfit front words word left n parts e wrong r =
    rw (r.found ∙ found-more r.seen word n left e) (go (numbers_in left))
  where
    go : (o : Option (List Number))
        → IfSome (option_map (λ ns. (r.seen ++ n ∷ []) ++ ns) o)
        (λ ns. in_place (front ++ ns) ≡ false)
    go None = tt
    go (Some ns) =
        rw (append_assoc r.seen (n ∷ []) ns, sym (append_assoc front r.seen (n ∷ ns)))
        (wrong (front ++ r.seen) ns r.so_far)

-- one more word is read
pub read-more : (front : List Number) (words : List (List ℕ)) (word : List ℕ) (left : List (List ℕ)) (n : Number) (parts more : Parts)
    → number_in word ≡ Some n → ((ns : List Number) → IsParts ns parts → IsParts (ns ++ n ∷ []) more)
    → ReadSoFar front words (word ∷ left) parts → ReadSoFar front words left more
read-more front words word left n parts more e adds r = record {
  seen = r.seen ++ n ∷ [];
  found = r.found ∙ found-more r.seen word n left e;
  so_far = subst (λ ns. IsParts ns more) (append_assoc front r.seen (n ∷ [])) (adds (front ++ r.seen) r.so_far);
}

pub IsBadNumber-weaker : (at : ℕ) (e : LratErr) {P Q : Type 0} → (P → Q) → IsBadNumber at e P
    → IsBadNumber at e Q
IsBadNumber-weaker at NoMemory f p = tt
IsBadNumber-weaker at (BadNumber n) f p = (p.0, f p.1)
IsBadNumber-weaker at (Truncated n) f p = (p.0, f p.1)
IsBadNumber-weaker at (Order n) f p = (p.0, f p.1)
IsBadNumber-weaker at (Rat n) f p = (p.0, f p.1)
