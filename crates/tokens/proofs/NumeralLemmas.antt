-- The number that the text of a number or of a literal writes.
use Rattle.std.proofs.Common.{◌≡◌, ℕ, ◌^◌, ◌<◌, Bool, true, false, eqb, List, [], ◌∷◌, Some, decimal, refl, ◌∙◌, ne_eqb, lt-ltb, arith}
use Rattle.std.specs.Char.{is_ascii_digit}
use Rattle.std.specs.List.{list_all}
use Rattle.std.specs.Str.{all_ascii_digits}
use Rattle.std.proofs.lemmas.Bool.{and_parts, leb-true}
use Rattle.std.proofs.lemmas.Str.Parse.{IsNumeralModel, numerals_by_fold, tells_all_ascii_digits}
use Rattle.std.proofs.lemmas.Fmt.{digits_decimal, digits_value-decimal, decimal_nonempty}
use Rattle.byte_scan.specs.Scanning.{value, value_from}
use Rattle.byte_scan.specs.HeaderLine.{is_number}
use Rattle.lits.specs.Dimacs.{DimacsLiteral}
use Rattle.tokens.specs.Numbers.{size_in, number_in, plain}
use Rattle.tokens.specs.Text.{literal_text, number_of, IsInRange}

-- digits and their value are those of std
model : IsNumeralModel (λ ds. all_ascii_digits ds ≡ true) (value_from 0)
unfolding value_from
model = numerals_by_fold _ tells_all_ascii_digits value_from
    (record { empty = λ n. refl; more = λ n c cs h. refl })

all_digits : (ds : List ℕ) → list_all is_ascii_digit ds ≡ all_ascii_digits ds
all_digits [] = refl
all_digits (d ∷ ds) = rw (all_digits ds) refl

pub digits-decimal : (n : ℕ) → n < 2 ^ 64 → list_all is_ascii_digit (decimal n) ≡ true
digits-decimal n lt = all_digits (decimal n) ∙ digits_decimal model n lt

is_number-decimal : (n : ℕ) → n < 2 ^ 64 → is_number (decimal n) ≡ true
is_number-decimal n lt = let some =
    lt-ltb _ _ (decimal_nonempty n lt) in rw (digits-decimal n lt, some) refl

value-decimal : (n : ℕ) → n < 10 ^ 18 → value (decimal n) ≡ n
value-decimal n lt = let e = digits_value-decimal model n (omega arith) in omega (arith, e)

pub size_in-decimal : (n : ℕ) → n < 10 ^ 18 → size_in (decimal n) ≡ Some n
size_in-decimal n lt = rw (is_number-decimal n (omega arith), value-decimal n lt) refl

no_minus : (b : ℕ) → is_ascii_digit b ≡ true → eqb b 45 ≡ false
no_minus b e = let low = leb-true 48 b (and_parts _ _ e).0 in ne_eqb b 45 (λ f. omega arith)

-- digits have no sign
number_in-digits : (word : List ℕ) (n : ℕ) → list_all is_ascii_digit word ≡ true
    → size_in word ≡ Some n
    → number_in word ≡ Some (plain n)
number_in-digits [] n all e = cc
number_in-digits (b ∷ bs) n all e =
    let parts = and_parts (is_ascii_digit b) (list_all is_ascii_digit bs) all in
    rw (no_minus b parts.0, e) refl

pub number_in-decimal : (n : ℕ) → n < 10 ^ 18 → number_in (decimal n) ≡ Some (plain n)
number_in-decimal n lt =
    number_in-digits (decimal n) n (digits-decimal n (omega arith)) (size_in-decimal n lt)

pub number_in-any : (n : ℕ) → n < 2 ^ 64 → number_in (decimal n) ≡ Some (plain (value (decimal n)))
number_in-any n lt =
    number_in-digits (decimal n) (value (decimal n)) (digits-decimal n lt)
    (rw (is_number-decimal n lt) refl)

pub number_in-literal : (literal : DimacsLiteral) → IsInRange literal
    → number_in (literal_text literal) ≡ Some (number_of literal)
unfolding literal_text
number_in-literal literal range = go literal.neg refl
  where
    go : (b : Bool) → literal.neg ≡ b → number_in (literal_text literal) ≡ Some (number_of literal)
    go false e = rw e (number_in-decimal literal.var (omega arith))
    go true e =
        let apart : eqb literal.var 0 ≡ false = ne_eqb _ _ (λ f. omega arith) in
        rw (e, size_in-decimal literal.var (omega arith), apart) refl
