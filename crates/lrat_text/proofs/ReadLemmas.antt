-- Deletions that are read: their ids are read as hints, which must have no sign.
use Rattle.std.proofs.Common.{◌≡◌, ℕ, Bool, true, false, not, ◌&&◌, ◌||◌, ltb, List, [], ◌∷◌, Option, Some, None, Result, Err, refl, sym, ap, ◌∙◌, lt-ltb, arith}
use Rattle.std.specs.Prelude.{IfSome, IsSomeAnd, map, ok_or}
use Rattle.std.specs.List.{list_any, list_all}
use Rattle.std.proofs.lemmas.Bool.{and_parts, eqb-false}
use Rattle.tokens.specs.declared.number.Number.{Number}
use Rattle.tokens.specs.Numbers.{plain}
use Rattle.tokens.specs.Reading.{◌>>=◌}
use Rattle.tokens.specs.Words.{is_empty}
use Rattle.lrat_text.specs.declared.error.LratErr.{LratErr}
use Rattle.lrat_text.specs.declared.error.LratErr.TheVariants.{BadNumber, Truncated, Order, Rat, NoMemory}
use Rattle.lrat_text.specs.declared.parts.Parts.{Parts}
use Rattle.lrat_text.specs.declared.step.LratStep.TheVariants.{Del}
use Rattle.lrat_text.specs.Numbers.{is_zero, is_id, is_hint, up_to_zero, past_zero, in_place}
use Rattle.lrat_text.specs.Reading.{judged, deletion, Gives}
use Rattle.lrat_text.specs.Parts.{IsParts, deletion_of, IsBadNumber}

-- ids are hints without a minus sign
ids-are : (ns : List Number)
    → list_all is_id (up_to_zero ns) ≡
    (list_all is_hint (up_to_zero ns) && not (list_any (λ n. n.minus) (up_to_zero ns)))
ids-are [] = refl
ids-are (n ∷ ns) = go (is_zero n) refl (ids-are ns)
  where
    Same : List Number → Type 0
    Same ms =
        list_all is_id (up_to_zero ms) ≡
        (list_all is_hint (up_to_zero ms) && not (list_any (λ k. k.minus) (up_to_zero ms)))

    bits : (m h H M : Bool) → ((not m && h) && (H && not M)) ≡ ((h && H) && not (m || M))
    bits true true true M = refl
    bits true true false M = refl
    bits true false H M = refl
    bits false true H M = refl
    bits false false H M = refl

    go : (b : Bool) → is_zero n ≡ b → Same ns → Same (n ∷ ns)
    go true e rest = rw e refl
    go false e rest =
        let apart = eqb-false _ _ e in
        let some : ltb 0 n.size ≡ true = lt-ltb _ _ (omega arith) in
        rw (e, rest, some)
        (bits n.minus (is_hint n) (list_all is_hint (up_to_zero ns))
        (list_any (λ k. k.minus) (up_to_zero ns)))

-- a number that can't be a hint can't be an id
pub deletion-misread : (at : ℕ) (found : Option (List Number))
    → IfSome found (λ ns. in_place (plain 0 ∷ ns) ≡ false)
    → (ok_or found (BadNumber at) >>= deletion at) ≡ Err (BadNumber at)
deletion-misread at None wrong = refl
deletion-misread at (Some ns) wrong =
    rw (
      ids-are ns,
      bits (list_all is_hint (up_to_zero ns))
          (list_any (λ n. n.minus) (up_to_zero ns)) (is_empty (past_zero ns)) wrong,
    )
    refl
  where
    bits : (h m p : Bool) → (h && p) ≡ false → ((h && not m) && p) ≡ false
    bits true true p e = refl
    bits true false p e = e
    bits false m p e = refl

-- numbers that are read
pub deletion-read : (at : ℕ) (found : Option (List Number)) (parts : Parts)
    → IsSomeAnd found (λ ns. IsParts (plain 0 ∷ ns) parts)
    → (ok_or found (BadNumber at) >>= deletion at) ≡ deletion_of at parts
deletion-read at None parts r = absurd r
deletion-read at (Some ns) parts r =
    let good = and_parts (list_all is_hint (up_to_zero ns)) (is_empty (past_zero ns)) r.placed in
    rw (ids-are ns, good.0, good.1, r.hints_are, r.minus_is, sym r.second_zero)
    (go (list_any (λ n. n.minus) (up_to_zero ns)))
  where
    go : (m : Bool)
        → judged at (not m && true) (list_any is_zero ns) true true
        (Del (map (λ n. n.size) (up_to_zero ns)))
        ≡ judged at (not m) (list_any is_zero ns) true true
        (Del (map (λ n. n.size) (up_to_zero ns)))
    go true = refl
    go false = refl

-- the error of a number is the fault that is read
pub fault-same : {A : Type 0} (at : ℕ) (e : LratErr) (read : Result A LratErr) {P : Type 0}
    → (P → read ≡ Err (BadNumber at)) → IsBadNumber at e P → Gives (Err e) read
fault-same at NoMemory read f p = tt
fault-same at (BadNumber n) read f p = f p.1 ∙ ap (λ (d : LratErr). Err d) (sym p.0)
fault-same at (Truncated n) read f p = f p.1 ∙ ap (λ (d : LratErr). Err d) (sym p.0)
fault-same at (Order n) read f p = f p.1 ∙ ap (λ (d : LratErr). Err d) (sym p.0)
fault-same at (Rat n) read f p = f p.1 ∙ ap (λ (d : LratErr). Err d) (sym p.0)
