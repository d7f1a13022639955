-- Behind a line stand the later lines.
use Rattle.std.proofs.Common.{◌≡◌, ℕ, suc, ◌+◌, min, Bool, true, false, eqb, List, [], ◌∷◌, length, drop, Some, None, Ok, refl, sym, ap, ◌∙◌, inl, inr, arith, subst}
use Rattle.std.proofs.Math.Dec.{eqb-suc-zero}
use Rattle.std.proofs.lemmas.Bool.{cases_lt}
use Rattle.std.proofs.lemmas.List.{drop-drop}
use Rattle.std.proofs.lemmas.Option.{none-some, same_Some}
use Rattle.std.proofs.Math.ListN.{drop_of_length-le}
use Rattle.byte_scan.specs.Scanning.{Place, ahead, moved, line_of, next_line}
use Rattle.byte_scan.specs.Reading.{Line, lines_from, onto_line, lines_ahead}

drop-onto : (at b : ℕ) (ls : List Line) → drop 1 (onto_line at b ls) ≡ drop 1 ls
drop-onto at b [] = refl
drop-onto at b (l ∷ ls) = refl

-- the later lines are those of the bytes behind the first line
later-line : (at : ℕ) (bs : List ℕ) → drop 1 (lines_from at bs) ≡ lines_from (at + (length (line_of bs) + 1)) (drop (length (line_of bs) + 1) bs)
later-line at [] = refl
later-line at (b ∷ bs) = go (eqb b 10) refl (later-line (at + 1) bs)
  where
    go : (t : Bool) → eqb b 10 ≡ t → drop 1 (lines_from (at + 1) bs) ≡ lines_from (at + 1 + (length (line_of bs) + 1)) (drop (length (line_of bs) + 1) bs)
        → drop 1 (lines_from at (b ∷ bs)) ≡ lines_from (at + (length (line_of (b ∷ bs)) + 1)) (drop (length (line_of (b ∷ bs)) + 1) (b ∷ bs))
    go true feed rest = rw feed refl
    go false other rest =
        let place : at + (suc (length (line_of bs)) + 1) ≡ at + 1 + (length (line_of bs) + 1) = omega arith in
        let count : suc (length (line_of bs)) + 1 ≡ suc (length (line_of bs) + 1) = omega arith in
        rw (other, place, count) (drop-onto at b (lines_from (at + 1) bs) ∙ rest)

-- bytes that were passed are passed, also where fewer were there
lines-moved : (p : Place) (k : ℕ) → lines_from (p.at + k) (drop k (ahead p)) ≡ lines_ahead (moved p k)
lines-moved p k =
    elim (cases_lt (length p.bytes) (p.at + k)) [
      | inl past ↦
          let most : min (p.at + k) (length p.bytes) ≡ length p.bytes = omega arith in
          let none : drop (p.at + k) p.bytes ≡ [] = drop_of_length-le p.bytes (omega arith) in
          let end : drop (length p.bytes) p.bytes ≡ [] = drop_of_length-le p.bytes (omega arith) in
          rw (most, end, drop-drop k p.at p.bytes, none) refl
      | inr within ↦ let fits : min (p.at + k) (length p.bytes) ≡ p.at + k = omega arith in rw (fits, drop-drop k p.at p.bytes) refl
    ]

-- the first line is that in front
first-line : (at b : ℕ) (bs : List ℕ) → lines_from at (b ∷ bs) ≡ record { at = at; text = line_of (b ∷ bs) } ∷ drop 1 (lines_from at (b ∷ bs))
first-line at b [] = go (eqb b 10) refl
  where
    go : (t : Bool) → eqb b 10 ≡ t → lines_from at (b ∷ []) ≡ record { at = at; text = line_of (b ∷ []) } ∷ drop 1 (lines_from at (b ∷ []))
    go true e = rw e refl
    go false e = rw e refl
first-line at b (d ∷ bs) = go (eqb b 10) refl (first-line (at + 1) d bs)
  where
    go : (t : Bool) → eqb b 10 ≡ t → lines_from (at + 1) (d ∷ bs) ≡ record { at = at + 1; text = line_of (d ∷ bs) } ∷ drop 1 (lines_from (at + 1) (d ∷ bs))
        → lines_from at (b ∷ d ∷ bs) ≡ record { at = at; text = line_of (b ∷ d ∷ bs) } ∷ drop 1 (lines_from at (b ∷ d ∷ bs))
    go true e rest = rw e refl
    go false e rest = rw (e, rest) refl

pub next_some : (b : ℕ) (bs : List ℕ) → next_line (b ∷ bs) ≡ Some (line_of (b ∷ bs))
next_some b bs = rw eqb-suc-zero refl

-- where a line is left, it is the first of those ahead, and the later ones are those behind it
pub lines-next : (p q : Place) (line : List ℕ) → next_line (ahead p) ≡ Some line → q ≡ moved p (length (line_of (ahead p)) + 1)
    → lines_ahead p ≡ record { at = p.at; text = line } ∷ lines_ahead q
lines-next p q line e is = go (ahead p) refl
  where
    behind : drop 1 (lines_ahead p) ≡ lines_ahead q
    behind = later-line p.at (ahead p) ∙ lines-moved p (length (line_of (ahead p)) + 1) ∙ ap lines_ahead (sym is)

    go : (bs : List ℕ) → ahead p ≡ bs → lines_ahead p ≡ record { at = p.at; text = line } ∷ lines_ahead q
    go [] nil = absurd (none-some line (subst (λ (xs : List ℕ). next_line xs ≡ Some line) nil e))
    go (b ∷ bs) some =
        let text : line_of (b ∷ bs) ≡ line = same_Some (line_of (b ∷ bs)) line (sym (next_some b bs) ∙ subst (λ (xs : List ℕ). next_line xs ≡ Some line) some e) in
        let first : lines_ahead p ≡ record { at = p.at; text = line_of (b ∷ bs) } ∷ drop 1 (lines_ahead p) =
        subst (λ (xs : List ℕ). lines_from p.at xs ≡ record { at = p.at; text = line_of (b ∷ bs) } ∷ drop 1 (lines_from p.at xs)) (sym some) (first-line p.at b bs) in
        first ∙ ap (λ (t : List ℕ). record { at = p.at; text = t } ∷ drop 1 (lines_ahead p)) text
        ∙ ap (λ (ls : List Line). record { at = p.at; text = line } ∷ ls) behind

-- and where none is left there is none
pub lines-end : (p : Place) → next_line (ahead p) ≡ None → lines_ahead p ≡ []
lines-end p e = go (ahead p) refl
  where
    go : (bs : List ℕ) → ahead p ≡ bs → lines_ahead p ≡ []
    go [] nil = ap (lines_from p.at) nil
    go (b ∷ bs) some = absurd (none-some (line_of (b ∷ bs)) (sym (subst (λ (xs : List ℕ). next_line xs ≡ None) some e) ∙ next_some b bs))
