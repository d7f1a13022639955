-- What is read in front of the bytes that are left.
use Rattle.std.proofs.Common.{◌≡◌, ℕ, ◌+◌, ◌^◌, ◌<◌, ◌≤◌, ◌*◌, Bool, true, false, cond, eqb, List, [], ◌∷◌, ◌++◌, length, drop, decimal, Option, Some, None, Result, Ok, refl, ap, ◌∙◌, append_assoc, append-nil, ne_eqb, arith}
use Rattle.std.specs.Char.{is_ascii_digit}
use Rattle.std.specs.List.{list_all}
use Rattle.std.specs.Prelude.{if◌then◌else◌, nat_lt}
use Rattle.std.proofs.lemmas.Bool.Decides.{nat_tests}
use Rattle.std.proofs.Math.Seq.{drop-append_seam}
use Rattle.std.proofs.lemmas.Bool.{and_parts}
use Rattle.std.proofs.lemmas.Fmt.{decimal_nonempty}
use Rattle.byte_scan.specs.declared.errors.AigerErr.{AigerErr}
use Rattle.byte_scan.specs.Scanning.{Place, ahead, moved, digits, value, number_of}
use Rattle.byte_scan.specs.HeaderLine.{is_number}
use Rattle.byte_scan.specs.Reading.{number_at, number_or, space_at, space_in, line_end_at, line_end_in, number_line_at, literal_line_at, used}
use Rattle.tokens.proofs.Facts.{size_in-decimal, ahead-moved}
use Rattle.circuit_text.specs.Lines.{number_line, literal_line}

-- x is read, and these bytes are left
pub record Finds {A : Type 0} (found : Result (A
    × Place) AigerErr) (x : A) (rest : List ℕ) : Type 0 where
  pub place : Place
  pub is : found ≡ Ok (x, place)
  pub behind : ahead place ≡ rest

-- nothing but a place is read, and these bytes are left behind it
pub record Passes (found : Result Place AigerErr) (rest : List ℕ) : Type 0 where
  pub place : Place
  pub is : found ≡ Ok place
  pub behind : ahead place ≡ rest

-- behind a front part stands the rest
pub behind-part : (p : Place) (front rest : List ℕ) → ahead p ≡ front ++ rest
    → ahead (moved p (length front)) ≡ rest
behind-part p front rest e =
    ahead-moved p (length front) ∙ ap (λ (l : List ℕ). drop (length front) l) e
    ∙ drop-append_seam front rest

-- ---- one number

-- a word that is a number as it is written
pub record IsNumeral (n : ℕ) : Type 0 where
  pub digits : list_all is_ascii_digit (decimal n) ≡ true
  pub value : value (decimal n) ≡ n
  pub is_number : is_number (decimal n) ≡ true
  pub some : 0 < length (decimal n)

pub numeral : (n : ℕ) → n < 10 ^ 18 → IsNumeral n
numeral n lt = go (is_number (decimal n)) refl (size_in-decimal n lt)
  where
    go : (b : Bool) → is_number (decimal n) ≡ b
        → cond b (Some (value (decimal n))) None ≡ Some n → IsNumeral n
    go true e f = record {
      digits = (and_parts _ _ e).0;
      value = cc;
      is_number = e;
      some = decimal_nonempty n (omega arith);
    }
    go false e f = absurd (cc)

-- digits that another byte follows are all the digits in front
pub digits-part : (word : List ℕ) (b : ℕ) (rest : List ℕ) → list_all is_ascii_digit word ≡ true
    → is_ascii_digit b ≡ false
    → digits (word ++ b ∷ rest) ≡ word
digits-part [] b rest all other = rw other refl
digits-part (d ∷ ds) b rest all other =
    let parts = and_parts (is_ascii_digit d) (list_all is_ascii_digit ds) all in
    rw (parts.0, digits-part ds b rest parts.1 other) refl

pub number-found : (p : Place) (n b : ℕ) (rest : List ℕ) → n < 10 ^ 18 → is_ascii_digit b ≡ false
    → ahead p ≡ decimal n ++ b ∷ rest
    → Finds (number_at p) n (b ∷ rest)
number-found p n b rest lt other e = record {
  place = moved p (length (digits (ahead p)));
  is = ap (λ (o : Option ℕ). number_or o p) here;
  behind =
      ap (λ (ds : List ℕ). ahead (moved p (length ds))) front
      ∙ behind-part p (decimal n) (b ∷ rest) e;
}
  where
    is : IsNumeral n
    is = numeral n lt

    front : digits (ahead p) ≡ decimal n
    front = ap digits e ∙ digits-part (decimal n) b rest is.digits other

    here : number_of (ahead p) ≡ Some n
    here =
        let long = is.some in
        let some : eqb (length (decimal n)) 0 ≡ false = ne_eqb _ _ (λ f. omega arith) in
        ap (λ (ds : List ℕ). if eqb (length ds) 0 then None else Some (value ds)) front
        ∙ rw (some, is.value) refl

pub space-found : (p : Place) (rest : List ℕ) → ahead p ≡ 32 ∷ rest → Passes (space_at p) rest
space-found p rest e = record {
  place = moved p 1;
  is = ap (λ (l : List ℕ). space_in l p) e;
  behind = behind-part p (32 ∷ []) rest e;
}

pub line_end-found : (p : Place) (rest : List ℕ) → ahead p ≡ 10 ∷ rest → Passes (line_end_at p) rest
line_end-found p rest e = record {
  place = moved p 1;
  is = ap (λ (l : List ℕ). line_end_in l p) e;
  behind = behind-part p (10 ∷ []) rest e;
}

-- ---- lines

-- a line of one number, with what stands behind it
pub line_of_one : (n : ℕ) (rest : List ℕ) → number_line (n ∷ []) ++ rest ≡ decimal n ++ 10 ∷ rest
unfolding number_line
line_of_one n rest =
    rw (append-nil (decimal n)) (append_assoc (decimal n) (10 ∷ []) rest)

pub number_line-found : (p : Place) (n : ℕ) (rest : List ℕ) → n < 10 ^ 18
    → ahead p ≡ decimal n ++ 10 ∷ rest
    → Finds (number_line_at p) n rest
number_line-found p n rest lt e =
    let number = number-found p n 10 rest lt refl e in
    let end = line_end-found number.place rest number.behind in
    record { place = end.place; is = rw (number.is, end.is) refl; behind = end.behind }

pub used-small : (m n : ℕ) → n ≤ 2 * m + 1 → used m n ≡ Ok n
used-small m n le = let small : nat_lt (2 * m + 1) n
    ≡ false = grind (arith, nat_tests) in rw small refl

pub literal-found : (p : Place) (m n : ℕ) (rest : List ℕ) → n ≤ 2 * m + 1 → m ≤ 16777216
    → ahead p ≡ literal_line n ++ rest
    → Finds (literal_line_at m p) n rest
literal-found p m n rest le most e =
    let line = number_line-found p n rest (omega arith) (e ∙ line_of_one n rest) in
    record { place = line.place; is = rw (line.is, used-small m n le) refl; behind = line.behind }
