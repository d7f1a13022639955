-- The header's line is read as its numbers.
use Rattle.std.proofs.Common.{◌≡◌, ℕ, zero, suc, ◌+◌, ◌^◌, ◌<◌, ◌≤◌, true, false, eqb, List, [], ◌∷◌, ◌++◌, length, map, decimal, Option, Some, None, Result, Ok, refl, sym, ap, ◌∙◌, append_assoc, append-nil, length-append, ne_eqb, arith}
use Rattle.std.specs.Prelude.{nat_lt}
use Rattle.std.specs.Char.{is_ascii_digit}
use Rattle.std.specs.List.{list_all, list_any, AllByRecursion}
use Rattle.std.proofs.lemmas.Bool.{and_parts, or_parts, leb-true}
use Rattle.std.proofs.lemmas.Bool.Decides.{nat_tests}
use Rattle.byte_scan.specs.declared.errors.AigerErr.{AigerErr}
use Rattle.byte_scan.specs.declared.counts.Header.{Header}
use Rattle.byte_scan.specs.Scanning.{Place, ahead, moved, line_of}
use Rattle.byte_scan.specs.HeaderLine.{words_of, nine_numbers, header_numbers, numbers_fault, miscounts}
use Rattle.byte_scan.specs.Reading.{◌>>=◌, header_at, header_from, header_unless}
use Rattle.tokens.specs.Text.{spaced, joined}
use Rattle.tokens.proofs.Facts.{IsToken, IsToken-decimal, joined-one_line}
use Rattle.netlist.specs.Circuit.{Aig}
use Rattle.circuit_text.specs.Lines.{number_line, constraint_counts, header_line}
use Rattle.aiger_text.proofs.Reading.{Finds, numeral, behind-part}

-- the header of a file of this circuit
abbrev pub header : ℕ → Aig → Header
header m c = record {
  m = m;
  i = length c.inputs;
  l = 0;
  o = length c.outputs;
  a = length c.gates;
  b = 0;
  c = length c.constraints;
  j = 0;
  f = 0;
}

abbrev AreNumbers : List ℕ → Type 0
AreNumbers ns = AllByRecursion (λ n. n < 10 ^ 18) ns

-- ---- the words of a line

no_space : (b : ℕ) → is_ascii_digit b ≡ true → eqb b 32 ≡ false
no_space b e = let low = leb-true 48 b (and_parts _ _ e).0 in ne_eqb b 32 (λ f. omega arith)

split-last : (word : List ℕ) → list_all is_ascii_digit word ≡ true → words_of word ≡ word ∷ []
split-last [] all = refl
split-last (b ∷ bs) all =
    let parts = and_parts (is_ascii_digit b) (list_all is_ascii_digit bs) all in
    rw (no_space b parts.0, split-last bs parts.1) refl

split-first : (word rest : List ℕ) → list_all is_ascii_digit word ≡ true
    → words_of (word ++ 32 ∷ rest) ≡ word ∷ words_of rest
split-first [] rest all = refl
split-first (b ∷ bs) rest all =
    let parts = and_parts (is_ascii_digit b) (list_all is_ascii_digit bs) all in
    rw (no_space b parts.0, split-first bs rest parts.1) refl

words-spaced : (n : ℕ) (ns : List ℕ) → n < 10 ^ 18 → AreNumbers ns
    → words_of (decimal n ++ spaced (map decimal ns)) ≡ decimal n ∷ map decimal ns
words-spaced n [] lt all =
    let is = numeral n lt in rw (append-nil (decimal n)) (split-last (decimal n) is.digits)
words-spaced n (k ∷ ns) lt all =
    let is = numeral n lt in
    split-first (decimal n) (decimal k ++ spaced (map decimal ns)) is.digits
    ∙ ap (λ (ws : List (List ℕ)). decimal n ∷ ws) (words-spaced k ns all.0 all.1)

-- ---- the line of a text

line-part : (line rest : List ℕ) → list_any (λ b. eqb b 10) line ≡ false
    → line_of (line ++ 10 ∷ rest) ≡ line
line-part [] rest none = refl
line-part (b ∷ bs) rest none =
    let parts = or_parts (eqb b 10) (list_any (λ b. eqb b 10) bs) none in
    rw parts.0 (ap (λ (l : List ℕ). b ∷ l) (line-part bs rest parts.1))

tokens : (ns : List ℕ) → AreNumbers ns → AllByRecursion IsToken (map decimal ns)
tokens [] all = tt
tokens (n ∷ ns) all = let lt = all.0 in (IsToken-decimal n (omega arith), tokens ns all.1)

-- ---- the numbers of the header

nine-five : (m i l o a : ℕ) → AreNumbers (m ∷ i ∷ l ∷ o ∷ a ∷ [])
    → nine_numbers (map decimal (m ∷ i ∷ l ∷ o ∷ a ∷ []))
    ≡ Some (m ∷ i ∷ l ∷ o ∷ a ∷ 0 ∷ 0 ∷ 0 ∷ 0 ∷ [])
nine-five m i l o a all =
    let p = numeral m all.0 in
    let q = numeral i all.1.0 in
    let r = numeral l all.1.1.0 in
    let s = numeral o all.1.1.1.0 in
    let t = numeral a all.1.1.1.1.0 in
    rw (
      p.is_number,
      q.is_number,
      r.is_number,
      s.is_number,
      t.is_number,
      p.value,
      q.value,
      r.value,
      s.value,
      t.value,
    ) refl

nine-seven : (m i l o a b c : ℕ) → AreNumbers (m ∷ i ∷ l ∷ o ∷ a ∷ b ∷ c ∷ [])
    → nine_numbers (map decimal (m ∷ i ∷ l ∷ o ∷ a ∷ b ∷ c ∷ []))
    ≡ Some (m ∷ i ∷ l ∷ o ∷ a ∷ b ∷ c ∷ 0 ∷ 0 ∷ [])
nine-seven m i l o a b c all =
    let p = numeral m all.0 in
    let q = numeral i all.1.0 in
    let r = numeral l all.1.1.0 in
    let s = numeral o all.1.1.1.0 in
    let t = numeral a all.1.1.1.1.0 in
    let u = numeral b all.1.1.1.1.1.0 in
    let v = numeral c all.1.1.1.1.1.1.0 in
    rw (
      p.is_number,
      q.is_number,
      r.is_number,
      s.is_number,
      t.is_number,
      u.is_number,
      v.is_number,
      p.value,
      q.value,
      r.value,
      s.value,
      t.value,
      u.value,
      v.value,
    ) refl

-- the numbers that a header writes, where there are c constraints
abbrev counts : ℕ → ℕ → ℕ → ℕ → ℕ → List ℕ
counts m i o a c = m ∷ i ∷ 0 ∷ o ∷ a ∷ constraint_counts c

-- those that it says
abbrev nine : ℕ → ℕ → ℕ → ℕ → ℕ → List ℕ
nine m i o a c = m ∷ i ∷ 0 ∷ o ∷ a ∷ 0 ∷ c ∷ 0 ∷ 0 ∷ []

nine-counts : (m i o a c : ℕ) → AreNumbers (counts m i o a c) → nine_numbers (map decimal (counts m i o a c)) ≡ Some (nine m i o a c)
nine-counts m i o a zero all = nine-five m i 0 o a all
nine-counts m i o a (suc n) all = nine-seven m i 0 o a 0 (suc n) all

small-constraints : (c : ℕ) → c < 10 ^ 18 → AreNumbers (constraint_counts c)
small-constraints zero lt = tt
small-constraints (suc n) lt = (omega arith, (lt, tt))

numbers-read : (letter m i o a c : ℕ) → AreNumbers (counts m i o a c)
    → header_numbers letter (97 ∷ letter ∷ 103 ∷ 32 ∷ joined (map decimal (counts m i o a c))) ≡ Some (nine m i o a c)
numbers-read letter m i o a c all =
    let same : eqb letter letter ≡ true = grind (arith, nat_tests) in
    rw same
    (ap nine_numbers (words-spaced m (i ∷ 0 ∷ o ∷ a ∷ constraint_counts c) all.0 all.1)
    ∙ nine-counts m i o a c all)

-- counts that fit
pub record AreCounts (letter m : ℕ) (c : Aig) : Type 0 where
  pub variables : m ≤ 16777216
  pub inputs : length c.inputs ≤ 16777216
  pub outputs : length c.outputs ≤ 16777216
  pub gates : length c.gates ≤ 16777216
  pub constraints : length c.constraints ≤ 16777216
  pub counted : miscounts letter (header m c) ≡ false

no_fault : (letter m : ℕ) (c : Aig) → AreCounts letter m c
    → ◌≡◌ {A = Option AigerErr} (numbers_fault letter
    (Some (nine m (length c.inputs) (length c.outputs) (length c.gates) (length c.constraints)))) None
no_fault letter m c are =
    let p : nat_lt 16777216 m ≡ false = grind (arith, nat_tests, are.variables) in
    let q : nat_lt 16777216 (length c.inputs) ≡ false = grind (arith, nat_tests, are.inputs) in
    let r : nat_lt 16777216 (length c.outputs) ≡ false = grind (arith, nat_tests, are.outputs) in
    let s : nat_lt 16777216 (length c.gates) ≡ false = grind (arith, nat_tests, are.gates) in
    let t : nat_lt 16777216 (length c.constraints) ≡ false = grind (arith, nat_tests, are.constraints) in
    rw (p, q, r, s, t, are.counted) refl

pub header-found : (p : Place) (letter m : ℕ) (c : Aig) (rest : List ℕ) → AreCounts letter m c
    → eqb letter 10 ≡ false → ahead p ≡ header_line letter m c ++ rest
    → Finds (header_at letter p) (header m c) rest
unfolding number_line
header-found p letter m c rest are other e = record {
  place = moved p (length (line_of (ahead p)) + 1);
  is =
      ap
      (λ (r : Result Header AigerErr). r >>= λ h. Ok (h, moved p (length (line_of (ahead p)) + 1)))
      found;
  behind =
      ap (λ (l : List ℕ). ahead (moved p (length l + 1))) front
      ∙ ap (λ (n : ℕ). ahead (moved p n)) (sym (length-append line (10 ∷ [])))
      ∙ behind-part p (line ++ 10 ∷ []) rest e;
}
  where
    ns : List ℕ
    ns = counts m (length c.inputs) (length c.outputs) (length c.gates) (length c.constraints)

    line : List ℕ
    line = 97 ∷ letter ∷ 103 ∷ 32 ∷ joined (map decimal ns)

    small : AreNumbers ns
    small =
        let ml : m < 10 ^ 18 = omega (arith, are.variables) in
        let il : length c.inputs < 10 ^ 18 = omega (arith, are.inputs) in
        let ol : length c.outputs < 10 ^ 18 = omega (arith, are.outputs) in
        let al : length c.gates < 10 ^ 18 = omega (arith, are.gates) in
        let cl : length c.constraints < 10 ^ 18 = omega (arith, are.constraints) in
        (ml, (il, (omega arith, (ol, (al, small-constraints (length c.constraints) cl)))))

    none : list_any (λ b. eqb b 10) line ≡ false
    none = rw other (joined-one_line (map decimal ns) (tokens ns small))

    front : line_of (ahead p) ≡ line
    front =
        ap line_of (e ∙ append_assoc line (10 ∷ []) rest)
        ∙ line-part line rest none

    found : header_from letter (header_numbers letter (line_of (ahead p))) ≡ Ok (header m c)
    found =
        ap (λ (l : List ℕ). header_from letter (header_numbers letter l)) front
        ∙ ap (header_from letter) (numbers-read letter m (length c.inputs) (length c.outputs) (length c.gates) (length c.constraints) small)
        ∙ ap (λ (f : Option AigerErr). header_unless f (header m c)) (no_fault letter m c are)
