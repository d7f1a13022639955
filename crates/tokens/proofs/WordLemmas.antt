-- The first word of a line, by the places of a letter and of a blank. Any test may say what is blank.
use Rattle.std.proofs.Common.{◌≡◌, ℕ, suc, ◌+◌, ◌<◌, ◌≤◌, Bool, true, false, not, cond, ltb, List, [], ◌∷◌, Option, Some, None, filter, map, length, take, drop, refl, sym, ap, ◌∙◌, arith}
use Rattle.std.specs.Prelude.{unwrap_or, position}
use Rattle.std.specs.List.{slice_split, position_or_len}
use Rattle.std.proofs.Math.ListN.{drop_of_length-le}
use Rattle.std.proofs.lemmas.Bool.{ltb-true, ltb-false}
use Rattle.std.proofs.lemmas.List.Sums.{prefix_len-le-length}
use Rattle.tokens.specs.Words.{Part, placed, is_empty, words_by, placed_words}

-- words without their places
abbrev pub bytes_of : List Part → List (List ℕ)
bytes_of words = map (λ (w : Part). w.bytes) words

abbrev is_filled : Part → Bool
is_filled word = not (is_empty word.bytes)

filled-bytes : (at : ℕ) (parts : List (List ℕ))
    → bytes_of (filter is_filled (placed at parts)) ≡ filter (λ w. not (is_empty w)) parts
filled-bytes at [] = refl
filled-bytes at (p ∷ ps) = go (is_empty p) refl (filled-bytes (at + length p + 1) ps)
  where
    go : (b : Bool) → is_empty p ≡ b
        → bytes_of (filter is_filled (placed (at + length p + 1) ps)) ≡ filter
        (λ w. not (is_empty w)) ps
        → bytes_of (filter is_filled (placed at (p ∷ ps))) ≡ filter (λ w. not (is_empty w)) (p ∷ ps)
    go true e rest = rw e rest
    go false e rest = rw e (ap (λ (l : List (List ℕ)). p ∷ l) rest)

-- Where a line stands changes nothing but the places of its words.
pub placed_words-bytes : (p : ℕ → Bool) (at : ℕ) (line : List ℕ)
    → bytes_of (placed_words p at line) ≡ words_by p line
placed_words-bytes p at line = filled-bytes at (slice_split p line)

-- A line without words has none anywhere.
pub placed_words-none : (p : ℕ → Bool) (at : ℕ) (line : List ℕ) → words_by p line ≡ []
    → placed_words p at line ≡ []
placed_words-none p at line e = go (placed_words p at line) (placed_words-bytes p at line ∙ e)
  where
    go : (ws : List Part) → bytes_of ws ≡ [] → ws ≡ []
    go [] f = refl
    go (w ∷ ws) f = cc

-- what the place of the first that passes says
found_at : (p : ℕ → Bool) (xs : List ℕ) (i : ℕ) → position p xs ≡ Some i
    → (position_or_len p xs < length xs) × (i ≡ position_or_len p xs)
found_at p xs i e = go (ltb (position_or_len p xs) (length xs)) refl e
  where
    go : (t : Bool) → ltb (position_or_len p xs) (length xs) ≡ t
        → cond t (Some (position_or_len p xs)) None ≡ Some i
        → (position_or_len p xs < length xs) × (i ≡ position_or_len p xs)
    go true f g = (ltb-true _ _ f, cc)
    go false f g = cc

found_nowhere : (p : ℕ → Bool) (xs : List ℕ) → ◌≡◌ {A = Option ℕ} (position p xs) None
    → length xs ≤ position_or_len p xs
found_nowhere p xs e = go (ltb (position_or_len p xs) (length xs)) refl e
  where
    go : (t : Bool) → ltb (position_or_len p xs) (length xs) ≡ t
        → ◌≡◌ {A = Option ℕ} (cond t (Some (position_or_len p xs)) None) None
        → length xs ≤ position_or_len p xs
    go true f g = cc
    go false f g = ltb-false _ _ f

or_end : (p : ℕ → Bool) (xs : List ℕ) → unwrap_or (position p xs) (length xs) ≡ position_or_len p xs
or_end p xs = go (ltb (position_or_len p xs) (length xs)) refl
  where
    go : (t : Bool) → ltb (position_or_len p xs) (length xs) ≡ t
        → unwrap_or (cond t (Some (position_or_len p xs)) None) (length xs) ≡ position_or_len p xs
    go true f = refl
    go false f = let past =
        ltb-false _ _ f in omega (arith, prefix_len-le-length (λ x. not (p x)) xs)

module _ (p : ℕ → Bool) where
  abbrev letter : ℕ → Bool
  letter b = not (p b)

  -- how many bytes stand before the first letter, and before the first blank
  abbrev blanks : List ℕ → ℕ
  blanks line = position_or_len (λ b. not (p b)) line

  abbrev letters : List ℕ → ℕ
  letters line = position_or_len p line

  -- a blank in front changes no word
  words-blank : (at b : ℕ) (bs : List ℕ) → p b ≡ true
      → placed_words p at (b ∷ bs) ≡ placed_words p (at + 1) bs
  words-blank at b bs e = let k : at + 0 + 1 ≡ at + 1 = omega arith in rw (e, k) refl

  words-letter : (at : ℕ) (line : List ℕ)
      → placed_words p (at + blanks line) (drop (blanks line) line) ≡ placed_words p at line
  words-letter at [] = refl
  words-letter at (b ∷ bs) = go (p b) refl (words-letter (at + 1) bs)
    where
      go : (t : Bool) → p b ≡ t
          → placed_words p (at + 1 + blanks bs) (drop (blanks bs) bs) ≡ placed_words p (at + 1) bs
          → placed_words p (at + blanks (b ∷ bs)) (drop (blanks (b ∷ bs)) (b ∷ bs))
          ≡ placed_words p at (b ∷ bs)
      go true e rest =
          let k : blanks (b ∷ bs) ≡ suc (blanks bs) = rw e (omega arith) in
          let place : at + suc (blanks bs) ≡ at + 1 + blanks bs = omega arith in
          rw (k, place) (rest ∙ sym (words-blank at b bs e))
      go false e rest =
          let none : blanks (b ∷ bs) ≡ 0 = rw e refl in
          let place : at + 0 ≡ at = omega arith in
          rw (none, place) refl

  -- the line as its bytes before the first blank, and the words behind them
  record Parts (line : List ℕ) : Type 0 where
    others : List (List ℕ)
    split : slice_split p line ≡ take (letters line) line ∷ others
    behind : (at : ℕ)
        → filter is_filled (placed (at + 1) others) ≡ placed_words p at (drop (letters line) line)

  parts : (line : List ℕ) → Parts line
  parts [] = record { others = []; split = refl; behind = λ at. refl }
  parts (b ∷ bs) = go (p b) refl (parts bs)
    where
      go : (t : Bool) → p b ≡ t → Parts bs → Parts (b ∷ bs)
      go true e q =
          let none : letters (b ∷ bs) ≡ 0 = rw e refl in
          record {
            others = slice_split p bs;
            split = rw e refl;
            behind =
                λ at. sym
                (ap (λ (n : ℕ). placed_words p at (drop n (b ∷ bs))) none
                ∙ words-blank at b bs e);
          }
      go false e q =
          let k : 1 + letters bs ≡ suc (letters bs) = omega arith in
          record {
            others = q.others;
            split = rw (e, q.split, k) refl;
            behind = λ at. rw (e, k)
                (q.behind at);
          }

  words-parts : (at : ℕ) (line : List ℕ) → is_empty (take (letters line) line) ≡ false
      → placed_words p at line
      ≡ record { at = at; bytes = take (letters line) line }
      ∷ placed_words p (at + length (take (letters line) line)) (drop (letters line) line)
  words-parts at line filled =
      let q = parts line in
      rw (q.split, filled)
      (ap (λ (ws : List Part). record { at = at; bytes = take (letters line) line } ∷ ws)
      (q.behind (at + length (take (letters line) line))))

  -- a word begins at the first letter
  word-filled : (line : List ℕ) → blanks line < length line
      → is_empty (take (letters (drop (blanks line) line)) (drop (blanks line) line)) ≡ false
  word-filled [] lt = absurd (omega arith)
  word-filled (b ∷ bs) lt = go (p b) refl (word-filled bs)
    where
      Filled : List ℕ → Type 0
      Filled line =
          is_empty (take (letters (drop (blanks line) line)) (drop (blanks line) line)) ≡ false

      go : (t : Bool) → p b ≡ t → (blanks bs < length bs → Filled bs) → Filled (b ∷ bs)
      go true e rest =
          let k : 1 + blanks bs ≡ suc (blanks bs) = omega arith in
          let less : 1 + blanks bs < length (b ∷ bs) = rw e at lt in
          rw (e, k) (rest (omega arith))
      go false e rest =
          let k : 1 + letters bs ≡ suc (letters bs) = omega arith in
          rw (e, e, k) refl

  -- a line without a letter has no word
  pub first-none : (line : List ℕ) → ◌≡◌ {A = Option ℕ} (position (λ b. not (p b)) line) None
      → words_by p line ≡ []
  first-none line e =
      let none : placed_words p 0 line ≡ [] =
      sym (words-letter 0 line) ∙ rw (drop_of_length-le line (found_nowhere letter line e)) refl in
      sym (placed_words-bytes p 0 line) ∙ ap bytes_of none

  -- the first letter is at i, and e bytes further on a blank or the end
  pub first-placed : (at : ℕ) (line : List ℕ) (i e : ℕ) → position (λ b. not (p b)) line ≡ Some i
      → e ≡ unwrap_or (position p (drop i line)) (length (drop i line))
      → placed_words p at line
      ≡ record { at = at + i; bytes = take e (drop i line) }
      ∷ placed_words p (at + i + length (take e (drop i line))) (drop e (drop i line))
  first-placed at line i e f g =
      let found = found_at letter line i f in
      let rest = drop (blanks line) line in
      let start : drop i line ≡ rest = ap (λ (n : ℕ). drop n line) found.1 in
      let end : e ≡ letters rest =
      g ∙ ap (λ (r : List ℕ). unwrap_or (position p r) (length r)) start ∙ or_end p rest in
      rw (start, end, found.1)
      (sym (words-letter at line) ∙ words-parts (at + blanks line) rest (word-filled line found.0))

  pub first-word : (line : List ℕ) (i e : ℕ) → position (λ b. not (p b)) line ≡ Some i
      → e ≡ unwrap_or (position p (drop i line)) (length (drop i line))
      → words_by p line ≡ take e (drop i line) ∷ words_by p (drop e (drop i line))
  first-word line i e f g =
      let rest = drop e (drop i line) in
      sym (placed_words-bytes p 0 line)
      ∙ ap bytes_of (first-placed 0 line i e f g)
      ∙ ap (λ (ws : List (List ℕ)). take e (drop i line) ∷ ws)
      (placed_words-bytes p (0 + i + length (take e (drop i line))) rest)
