-- The header line of an AIGER file (A. Biere, The AIGER And-Inverter Graph Format, 2007; AIGER 1.9).
use Rattle.std.specs.Prelude.{◌≡◌, ℕ, ◌+◌, ◌≤◌, ◌-◌, Bool, not, ◌&&◌, List, ◌∷◌, ◌++◌, length, map, replicate, Option, Some, None, option_map, slice_index, nat_lt, nat_le, ◌==◌, if◌then◌else◌}
use Rattle.std.specs.List.{slice_split, list_all, find}
use Rattle.std.specs.Char.{is_ascii_digit}
use Rattle.byte_scan.specs.declared.errors.AigerErr.{AigerErr}
use Rattle.byte_scan.specs.declared.errors.AigerErr.TheVariants.{BadHeader, TooLarge, HasLatches, HasProperty}
use Rattle.byte_scan.specs.declared.counts.Header.{Header}
use Rattle.byte_scan.specs.Scanning.{value}
use Rattle.byte_scan.specs.Faults.{when, ◌or_else◌}
use Rattle.byte_scan.specs.declared.header_line.TheConstants.{VARIABLE_LIMIT}

-- the parts of a text between its spaces
abbrev pub words_of : List ℕ → List (List ℕ)
words_of text = slice_split (λ b. b == 32) text

-- one or more digits and nothing else
abbrev pub is_number : List ℕ → Bool
is_number word = list_all is_ascii_digit word && nat_lt 0 (length word)

-- Five to nine numbers with one space between, in order; those that are missing are 0.
abbrev pub nine_numbers : List (List ℕ) → Option (List ℕ)
nine_numbers words =
    if list_all is_number words && nat_le 5 (length words) && nat_le (length words) 9 then
    Some (map value words ++ replicate (9 - length words) 0)
    else None

-- The numbers M I L O A B C J F of a line: `a` (97), a letter, `g` (103) and a space (32) stand before
-- them. The letter is `a` in the ASCII form and `i` in the binary form.
abbrev pub header_numbers : ℕ → List ℕ → Option (List ℕ)
header_numbers letter (a ∷ l ∷ g ∷ space ∷ text) =
    if a == 97 && l == letter && g == 103 && space == 32 then nine_numbers (words_of text) else None
header_numbers letter _ = None

-- nine numbers under their letters
abbrev pub header_of : List ℕ → Header
header_of ns = record {
  m = slice_index ns 0;
  i = slice_index ns 1;
  l = slice_index ns 2;
  o = slice_index ns 3;
  a = slice_index ns 4;
  b = slice_index ns 5;
  c = slice_index ns 6;
  j = slice_index ns 7;
  f = slice_index ns 8;
}

-- The first number above the greatest that a header may have.
abbrev pub too_large : List ℕ → Option AigerErr
too_large ns = option_map TooLarge (find (λ n. nat_lt VARIABLE_LIMIT n) ns)

-- The first of the sections `B` (66), `J` (74), `F` (70) that isn't empty, by its letter.
abbrev pub property : Header → Option AigerErr
property h =
    when (nat_lt 0 h.b) (HasProperty 66) or_else when (nat_lt 0 h.j) (HasProperty 74)
    or_else when (nat_lt 0 h.f) (HasProperty 70)

-- M is the number of inputs, latches and gates in the binary form (letter `i`, 105), and no less than
-- that in the ASCII form.
abbrev pub miscounts : ℕ → Header → Bool
miscounts letter h =
    if letter == 105 then not (h.m == h.i + h.l + h.a) else nat_lt h.m (h.i + h.l + h.a)

-- The first fault of nine numbers, in the order in which they are judged. A line that has no form of a
-- header is a bad one.
abbrev pub numbers_fault : ℕ → Option (List ℕ) → Option AigerErr
numbers_fault letter None = Some BadHeader
numbers_fault letter (Some ns) =
    too_large ns
    or_else when (nat_lt 0 (header_of ns).l) (HasLatches (header_of ns).l)
    or_else property (header_of ns)
    or_else when (miscounts letter (header_of ns)) BadHeader

-- A header without a fault: M, O and C are in range, and M is at least, in the binary form exactly, the number of inputs and
-- gates.
pub record IsFit (letter : ℕ) (h : Header) : Type 0 where
  pub variables : h.m ≤ VARIABLE_LIMIT
  pub outputs : h.o ≤ VARIABLE_LIMIT
  pub constraints : h.c ≤ VARIABLE_LIMIT
  pub counts : h.i + h.a ≤ h.m
  pub exact : letter ≡ 105 → h.m ≡ h.i + h.a
