-- Five to nine numbers, as a loop over the words reads them.
use Rattle.std.proofs.Common.{◌≡◌, ℕ, suc, ◌+◌, ◌-◌, ◌<◌, ◌≤◌, true, false, List, [], ◌∷◌, ◌++◌, length, get_or, set, map, replicate, Some, None, refl, sym, ap, ◌∙◌, append_assoc, length-append, arith}
use Rattle.std.proofs.Math.Bool.{and-false}
use Rattle.std.proofs.Math.Seq.{set-append_seam}
use Rattle.std.proofs.lemmas.Bool.{le-leb, lt-leb}
use Rattle.std.proofs.lemmas.List.{map_push, length-map}
use Rattle.std.proofs.lemmas.List.Folds.{list_all-append, list_all_at}
use Rattle.std.specs.List.{list_all}
use Rattle.byte_scan.specs.Scanning.{value}
use Rattle.byte_scan.specs.HeaderLine.{is_number, nine_numbers}

-- what the loop knows behind these words: each is a number, and they stand in front of zeros
pub record HasWords (words : List (List ℕ)) (numbers : List ℕ) (count : ℕ) : Type 0 where
  pub counted : count ≡ length words
  pub most : count ≤ 9
  pub each : list_all is_number words ≡ true
  pub so_far : numbers ≡ map value words ++ replicate (9 - count) 0

-- one more word, whose value goes where the first zero was
pub HasWords-push : (words : List (List ℕ)) (numbers : List ℕ) (count : ℕ) (word : List ℕ) → HasWords words numbers count → (count ≡ 9 → ⊥) → is_number word ≡ true → HasWords (words ++ word ∷ []) (set numbers count (value word)) (count + 1)
HasWords-push words numbers count word read room is =
    let front : length (map value words) ≡ count = length-map words value ∙ sym read.counted in
    let zeros : 9 - count ≡ suc (9 - (count + 1)) = omega (arith, read.most) in
    let split : numbers ≡ map value words ++ 0 ∷ replicate (9 - (count + 1)) 0 = read.so_far ∙ ap (λ (n : ℕ). map value words ++ replicate n 0) zeros in
    record {
      counted = omega (arith, read.counted, length-append words (word ∷ []));
      most = omega (arith, read.most);
      each = rw (list_all-append is_number words (word ∷ []), read.each, is) refl;
      so_far = rw (split, ← front, set-append_seam (map value words) 0 (replicate (9 - (length (map value words) + 1)) 0) (value word), map_push value words word) (sym (append_assoc (map value words) (value word ∷ []) (replicate (9 - (length (map value words) + 1)) 0)));
    }

-- ten words are too many, and four too few
pub nine_numbers-many : (words : List (List ℕ)) → 9 < length words → nine_numbers words ≡ None
nine_numbers-many words lt = rw (lt-leb (length words) 9 lt, and-false) refl

pub nine_numbers-few : (words : List (List ℕ)) → length words < 5 → nine_numbers words ≡ None
nine_numbers-few words lt = rw (lt-leb 5 (length words) lt, and-false) refl

-- one word that is no number is too many
pub nine_numbers-other : (words : List (List ℕ)) (k : ℕ) (d : List ℕ) → k < length words → is_number (get_or words k d) ≡ false → nine_numbers words ≡ None
nine_numbers-other words k d lt other = rw (list_all_at is_number words k d lt other) refl

-- five to nine words
pub nine_numbers-read : (words : List (List ℕ)) (numbers : List ℕ) (count : ℕ) → HasWords words numbers count → 5 ≤ count → nine_numbers words ≡ Some numbers
nine_numbers-read words numbers count read enough =
    let low = le-leb 5 (length words) (omega (arith, read.counted)) in
    let high = le-leb (length words) 9 (omega (arith, read.counted, read.most)) in
    let same : numbers ≡ map value words ++ replicate (9 - length words) 0 = rw (← read.counted) read.so_far in
    rw (read.each, low, high, same) refl
