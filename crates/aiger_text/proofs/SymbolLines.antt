-- The symbols' lines are read as they are written.
use Rattle.std.proofs.Common.{◌≡◌, ℕ, ◌+◌, ◌^◌, ◌<◌, ◌≤◌, true, false, eqb, List, [], ◌∷◌, ◌++◌, length, drop, decimal, Option, Some, None, Ok, refl, sym, ap, ◌∙◌, subst, append_assoc, append-nil, length-append, arith}
use Rattle.std.specs.Prelude.{◌==◌, ◌&&◌, not, nat_lt}
use Rattle.std.specs.List.{list_all, list_any}
use Rattle.std.proofs.Math.Seq.{drop-append_seam}
use Rattle.std.proofs.lemmas.Bool.{and_parts, or_parts, not-true}
use Rattle.std.proofs.lemmas.Bool.Decides.{nat_tests}
use Rattle.std.proofs.lemmas.List.Folds.{list_any-append}
use Rattle.byte_scan.specs.Scanning.{digits, value}
use Rattle.byte_scan.specs.Reading.{lines_from, begins_with, is_named, is_symbol, place_in, symbol_in, symbols_of}
use Rattle.symbol_names.specs.NameList.{is_name}
use Rattle.tokens.proofs.Facts.{IsToken-decimal, joined-one_line}
use Rattle.circuit_text.specs.Symbols.{symbol_line, symbol_lines}
use Rattle.aiger_text.proofs.Reading.{numeral, digits-part}

-- ---- lines

-- a text is the line in front, wherever it stands
record LineAhead (at : ℕ) (text rest : List ℕ) : Type 0 where
  next : ℕ
  is : lines_from at (text ++ 10 ∷ rest) ≡ record { at = at; text = text } ∷ lines_from next rest

line-longer : (at b : ℕ) (text rest : List ℕ) → eqb b 10 ≡ false → LineAhead (at + 1) text rest → LineAhead at (b ∷ text) rest
line-longer at b text rest other line = record { next = line.next; is = rw (other, line.is) refl }

line-ahead : (at : ℕ) (text rest : List ℕ) → list_any (λ b. eqb b 10) text ≡ false → LineAhead at text rest
line-ahead at [] rest none = record { next = at + 1; is = refl }
line-ahead at (b ∷ bs) rest none =
    let parts = or_parts (eqb b 10) (list_any (λ b. eqb b 10) bs) none in
    line-longer at b bs rest parts.0 (line-ahead (at + 1) bs rest parts.1)

-- these symbol lines are read, wherever the bytes stand
abbrev pub AreRead : ℕ → ℕ → List ℕ → List (List ℕ) → Type 0
AreRead inputs outputs bytes symbols = (at : ℕ) → symbols_of inputs outputs (lines_from at bytes) ≡ Ok symbols

symbol-read : (inputs outputs : ℕ) (text rest : List ℕ) (more : List (List ℕ)) → list_any (λ b. eqb b 10) text ≡ false
    → begins_with 99 text ≡ false → is_symbol inputs outputs text ≡ true → AreRead inputs outputs rest more
    → AreRead inputs outputs (text ++ 10 ∷ rest) (text ∷ more)
symbol-read inputs outputs text rest more none comment symbol read at =
    let line = line-ahead at text rest none in
    ap (symbols_of inputs outputs) line.is ∙ rw (comment, symbol, read line.next) refl

-- ---- one symbol

-- the line of a name, without its end
abbrev pub text_of : ℕ → ℕ → List ℕ → List ℕ
text_of letter k name = letter ∷ (decimal k ++ 32 ∷ name)

digits-front : (k : ℕ) (name : List ℕ) → k < 10 ^ 18 → digits (decimal k ++ 32 ∷ name) ≡ decimal k
digits-front k name lt = digits-part (decimal k) 32 name (numeral k lt).digits refl

pub place-read : (letter k : ℕ) (name : List ℕ) → k < 10 ^ 18 → place_in (text_of letter k name) ≡ k
place-read letter k name lt = ap value (digits-front k name lt) ∙ (numeral k lt).value

drop-behind : (word : List ℕ) (b : ℕ) (rest : List ℕ) → drop (length word + 1) (word ++ b ∷ rest) ≡ rest
drop-behind word b rest =
    ap (λ (n : ℕ). drop n (word ++ b ∷ rest)) (sym (length-append word (b ∷ [])))
    ∙ ap (λ (l : List ℕ). drop (length (word ++ b ∷ [])) l) (sym (append_assoc word (b ∷ []) rest))
    ∙ drop-append_seam (word ++ b ∷ []) rest

pub name-read : (letter k : ℕ) (name : List ℕ) → k < 10 ^ 18 → symbol_in (text_of letter k name) ≡ name
name-read letter k name lt =
    ap (λ (ds : List ℕ). drop (length ds + 1) (decimal k ++ 32 ∷ name)) (digits-front k name lt)
    ∙ drop-behind (decimal k) 32 name

named-read : (count k : ℕ) (name : List ℕ) → k < count → k < 10 ^ 18 → is_named count (decimal k ++ 32 ∷ name) ≡ true
named-read count k name below lt =
    let is = numeral k lt in
    let long : nat_lt 0 (length (decimal k)) ≡ true = grind (arith, nat_tests, is.some) in
    let small : nat_lt k count ≡ true = grind (arith, nat_tests, below) in
    ap (λ (ds : List ℕ). nat_lt 0 (length ds) && nat_lt (value ds) count
    && begins_with 32 (drop (length ds) (decimal k ++ 32 ∷ name))) (digits-front k name lt)
    ∙ rw (long, is.value, small, drop-append_seam (decimal k) (32 ∷ name)) refl

-- no line ends in a name
name-line : (name : List ℕ) → list_all (λ c. not (c == 10)) name ≡ true → list_any (λ b. eqb b 10) name ≡ false
name-line [] all = refl
name-line (b ∷ bs) all =
    let parts = and_parts (not (b == 10)) (list_all (λ c. not (c == 10)) bs) all in
    rw (not-true (b == 10) parts.0, name-line bs parts.1) refl

number-line : (k : ℕ) → k < 10 ^ 18 → list_any (λ b. eqb b 10) (decimal k) ≡ false
number-line k lt =
    sym (ap (λ (l : List ℕ). list_any (λ b. eqb b 10) l) (append-nil (decimal k)))
    ∙ joined-one_line (decimal k ∷ []) (IsToken-decimal k (omega arith), tt)

one_line : (letter k : ℕ) (name : List ℕ) → eqb letter 10 ≡ false → k < 10 ^ 18 → list_all (λ c. not (c == 10)) name ≡ true
    → list_any (λ b. eqb b 10) (text_of letter k name) ≡ false
one_line letter k name other lt all =
    rw (other, list_any-append (λ b. eqb b 10) (decimal k) (32 ∷ name), number-line k lt, name-line name all) refl

-- ---- all symbols of a list of names

-- the lines of names from place k on, without their ends; a place without a name has none
abbrev pub texts_of : ℕ → ℕ → List (Option (List ℕ)) → List (List ℕ)
texts_of letter k [] = []
texts_of letter k (None ∷ names) = texts_of letter (k + 1) names
texts_of letter k (Some name ∷ names) = text_of letter k name ∷ texts_of letter (k + 1) names

-- a letter that symbol lines have, for so many places
pub record IsLetter (inputs outputs letter count : ℕ) : Type 0 where
  pub line : eqb letter 10 ≡ false
  pub comment : eqb letter 99 ≡ false
  pub symbol : (bs : List ℕ) → is_named count bs ≡ true → is_symbol inputs outputs (letter ∷ bs) ≡ true

pub letter_of-inputs : (inputs outputs : ℕ) → IsLetter inputs outputs 105 inputs
letter_of-inputs inputs outputs = record { line = refl; comment = refl; symbol = λ bs e. rw e refl }

pub letter_of-outputs : (inputs outputs : ℕ) → IsLetter inputs outputs 111 outputs
letter_of-outputs inputs outputs = record { line = refl; comment = refl; symbol = λ bs e. rw e refl }

-- a line with what stands behind it
line-behind : (letter k : ℕ) (name lines rest : List ℕ)
    → (letter ∷ (decimal k ++ 32 ∷ (name ++ 10 ∷ [])) ++ lines) ++ rest ≡ text_of letter k name ++ 10 ∷ (lines ++ rest)
line-behind letter k name lines rest = parts (letter ∷ decimal k)
  where
    parts : (front : List ℕ) → ((front ++ 32 ∷ (name ++ 10 ∷ [])) ++ lines) ++ rest
        ≡ (front ++ 32 ∷ name) ++ 10 ∷ (lines ++ rest)
    parts front =
        append_assoc (front ++ 32 ∷ (name ++ 10 ∷ [])) lines rest
        ∙ ap (λ (l : List ℕ). l ++ (lines ++ rest)) (sym (append_assoc front (32 ∷ name) (10 ∷ [])))
        ∙ append_assoc (front ++ 32 ∷ name) (10 ∷ []) (lines ++ rest)

pub texts-read : (inputs outputs letter count k : ℕ) (names : List (Option (List ℕ))) (rest : List ℕ) (more : List (List ℕ))
    → IsLetter inputs outputs letter count → k + length names ≤ count → count < 10 ^ 18 → list_all is_name names ≡ true
    → AreRead inputs outputs rest more → AreRead inputs outputs (symbol_lines letter k names ++ rest) (texts_of letter k names ++ more)
unfolding symbol_line
texts-read inputs outputs letter count k [] rest more is le small all read = read
texts-read inputs outputs letter count k (None ∷ names) rest more is le small all read =
    texts-read inputs outputs letter count (k + 1) names rest more is (omega arith) small all read
texts-read inputs outputs letter count k (Some [] ∷ names) rest more is le small all read = absurd (cc)
texts-read inputs outputs letter count k (Some (b ∷ bs) ∷ names) rest more is le small all read =
    let parts = and_parts (list_all (λ c. not (c == 10)) (b ∷ bs)) (list_all is_name names) all in
    let low : k < 10 ^ 18 = omega arith in
    let later = texts-read inputs outputs letter count (k + 1) names rest more is (omega arith) small parts.1 read in
    let one = symbol-read inputs outputs (text_of letter k (b ∷ bs)) (symbol_lines letter (k + 1) names ++ rest)
    (texts_of letter (k + 1) names ++ more) (one_line letter k (b ∷ bs) is.line low parts.0) is.comment
    (is.symbol (decimal k ++ 32 ∷ b ∷ bs) (named-read count k (b ∷ bs) (omega arith) low)) later in
    subst (λ (bytes : List ℕ). AreRead inputs outputs bytes (text_of letter k (b ∷ bs) ∷ (texts_of letter (k + 1) names ++ more)))
    (sym (line-behind letter k (b ∷ bs) (symbol_lines letter (k + 1) names) rest)) one
