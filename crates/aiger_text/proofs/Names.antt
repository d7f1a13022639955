-- The symbols give the names that they are written from.
use Rattle.std.proofs.Common.{◌≡◌, ℕ, zero, suc, ◌+◌, ◌^◌, ◌<◌, ◌≤◌, true, false, eqb, List, [], ◌∷◌, ◌++◌, length, map, reverse, Option, Some, None, Ok, refl, sym, ap, ◌∙◌, append-nil, arith}
use Rattle.std.specs.Prelude.{◌==◌, not}
use Rattle.std.specs.List.{find, list_all, range_with_len}
use Rattle.std.specs.Option.{option_map, option_or}
use Rattle.std.proofs.lemmas.Bool.{and_parts}
use Rattle.std.proofs.lemmas.Bool.Decides.{nat_tests}
use Rattle.std.proofs.lemmas.List.{reverse-append}
use Rattle.std.proofs.lemmas.List.Folds.{find-append}
use Rattle.byte_scan.specs.Scanning.{Place, ahead}
use Rattle.byte_scan.specs.Reading.{is_for, symbol_in, named_by, names_by, lines_ahead, tail_of}
use Rattle.symbol_names.specs.declared.names.Names.{Names}
use Rattle.symbol_names.specs.NameList.{is_name, joined, name_of}
use Rattle.symbol_names.specs.Names.{AreNames}
use Rattle.circuit_text.specs.Symbols.{symbol_lines, symbols_text}
use Rattle.aiger_text.proofs.SymbolLines.{AreRead, text_of, texts_of, texts-read, letter_of-inputs, letter_of-outputs, place-read, name-read}

-- ---- the last line for a place

abbrev last_for : List (List ℕ) → ℕ → ℕ → Option (List ℕ)
last_for lines letter k = find (is_for letter k) (reverse lines)

-- the name that a line gives
abbrev given : Option (List ℕ) → Option (List ℕ)
given line = joined (option_map (λ l. name_of (symbol_in l)) line)

last-append : (xs ys : List (List ℕ)) (letter k : ℕ) → last_for (xs ++ ys) letter k ≡ option_or (last_for ys letter k) (last_for xs letter k)
last-append xs ys letter k =
    ap (find (is_for letter k)) (reverse-append xs ys) ∙ find-append (is_for letter k) (reverse ys) (reverse xs)

or-none : {A : Type 0} (x : Option A) → option_or x None ≡ x
or-none None = refl
or-none (Some x) = refl

-- the first line is the last for a place where no later one is for it
last-first : (line : List ℕ) (lines : List (List ℕ)) (letter k : ℕ) → last_for lines letter k ≡ None → is_for letter k line ≡ true
    → last_for (line ∷ lines) letter k ≡ Some line
last-first line lines letter k none e = last-append (line ∷ []) lines letter k ∙ rw (none, e) refl

-- and where it isn't for the place it changes nothing
last-other : (line : List ℕ) (lines : List (List ℕ)) (letter k : ℕ) → is_for letter k line ≡ false
    → last_for (line ∷ lines) letter k ≡ last_for lines letter k
last-other line lines letter k e = last-append (line ∷ []) lines letter k ∙ rw e (or-none (last_for lines letter k))

-- none of the lines of these names is for the place
none_for : (l s letter k : ℕ) (names : List (Option (List ℕ))) → s + length names ≤ 10 ^ 18
    → ((j : ℕ) (name : List ℕ) → s ≤ j → j < 10 ^ 18 → is_for letter k (text_of l j name) ≡ false)
    → last_for (texts_of l s names) letter k ≡ None
none_for l s letter k [] le other = refl
none_for l s letter k (None ∷ names) le other = none_for l (s + 1) letter k names (omega arith) (λ j name low lt. other j name (omega (arith, low)) lt)
none_for l s letter k (Some name ∷ names) le other =
    last-other (text_of l s name) (texts_of l (s + 1) names) letter k (other s name (omega arith) (omega arith))
    ∙ none_for l (s + 1) letter k names (omega arith) (λ j n low lt. other j n (omega (arith, low)) lt)

-- ---- one list of names

for-place : (letter j k : ℕ) (name : List ℕ) → j < 10 ^ 18 → is_for letter k (text_of letter j name) ≡ (j == k)
for-place letter j k name lt =
    let same : eqb letter letter ≡ true = grind (arith, nat_tests) in
    rw (same, place-read letter j name lt) refl

-- a line of a later place isn't for an earlier one, nor the other way round
for-apart : (letter j k : ℕ) (name : List ℕ) → j < 10 ^ 18 → eqb j k ≡ false → is_for letter k (text_of letter j name) ≡ false
for-apart letter j k name lt e = for-place letter j k name lt ∙ e

map-same : {A : Type 0} (f g : ℕ → A) (s n : ℕ) → ((k : ℕ) → s ≤ k → g k ≡ f k) → map g (range_with_len s n) ≡ map f (range_with_len s n)
map-same f g s zero same = refl
map-same f g s (suc n) same = rw (same s (omega arith), map-same f g (s + 1) n (λ k le. same k (omega (arith, le)))) refl

list-read : (letter s : ℕ) (names : List (Option (List ℕ))) → s + length names ≤ 10 ^ 18 → list_all is_name names ≡ true
    → map (named_by (texts_of letter s names) letter) (range_with_len s (length names)) ≡ names
list-read letter s [] le all = refl
list-read letter s (None ∷ names) le all =
    let none = none_for letter (s + 1) letter s names (omega arith)
    (λ j name low lt. for-apart letter j s name lt (grind (arith, nat_tests, low))) in
    rw (ap given none, list-read letter (s + 1) names (omega arith) all) refl
list-read letter s (Some [] ∷ names) le all = absurd (cc)
list-read letter s (Some (b ∷ bs) ∷ names) le all =
    let parts = and_parts (list_all (λ c. not (c == 10)) (b ∷ bs)) (list_all is_name names) all in
    let low : s < 10 ^ 18 = omega arith in
    let line = text_of letter s (b ∷ bs) in
    let rest = texts_of letter (s + 1) names in
    let itself : eqb s s ≡ true = grind (arith, nat_tests) in
    let none = none_for letter (s + 1) letter s names (omega arith)
    (λ j name above lt. for-apart letter j s name lt (grind (arith, nat_tests, above))) in
    let last = last-first line rest letter s none (for-place letter s s (b ∷ bs) low ∙ itself) in
    let first : named_by (line ∷ rest) letter s ≡ Some (b ∷ bs) =
    ap given last ∙ ap name_of (name-read letter s (b ∷ bs) low) in
    let later = map-same (named_by rest letter) (named_by (line ∷ rest) letter) (s + 1) (length names)
    (λ k above. ap given (last-other line rest letter k (for-apart letter s k (b ∷ bs) low (grind (arith, nat_tests, above))))) in
    rw (first, later, list-read letter (s + 1) names (omega arith) parts.1) refl

-- ---- both lists

names-read : (names : Names) → length names.inputs ≤ 10 ^ 18 → length names.outputs ≤ 10 ^ 18 → list_all is_name names.inputs ≡ true
    → list_all is_name names.outputs ≡ true
    → names_by (length names.inputs) (length names.outputs) (texts_of 105 0 names.inputs ++ texts_of 111 0 names.outputs) ≡ names
names-read names few_inputs few_outputs all_inputs all_outputs = rw (inputs, outputs) refl
  where
    ins : List (List ℕ)
    ins = texts_of 105 0 names.inputs

    outs : List (List ℕ)
    outs = texts_of 111 0 names.outputs

    inputs : map (named_by (ins ++ outs) 105) (range_with_len 0 (length names.inputs)) ≡ names.inputs
    inputs =
        map-same (named_by ins 105) (named_by (ins ++ outs) 105) 0 (length names.inputs)
        (λ k low. ap given (last-append ins outs 105 k
        ∙ ap (λ (o : Option (List ℕ)). option_or o (last_for ins 105 k)) (none_for 111 0 105 k names.outputs (omega (arith, few_outputs)) (λ j name a b. refl))))
        ∙ list-read 105 0 names.inputs (omega (arith, few_inputs)) all_inputs

    outputs : map (named_by (ins ++ outs) 111) (range_with_len 0 (length names.outputs)) ≡ names.outputs
    outputs =
        map-same (named_by outs 111) (named_by (ins ++ outs) 111) 0 (length names.outputs)
        (λ k low. ap given (last-append ins outs 111 k
        ∙ ap (option_or (last_for outs 111 k)) (none_for 105 0 111 k names.inputs (omega (arith, few_inputs)) (λ j name a b. refl))
        ∙ or-none (last_for outs 111 k)))
        ∙ list-read 111 0 names.outputs (omega (arith, few_outputs)) all_outputs

-- where the symbols of names are left, the tail gives these
pub tail-found : (p : Place) (inputs outputs : ℕ) (names : Names) → inputs ≤ 16777216 → outputs ≤ 16777216 → AreNames inputs outputs names
    → ahead p ≡ symbols_text names → tail_of inputs outputs (lines_ahead p) ≡ Ok names
tail-found p inputs outputs names few_inputs few_outputs are e =
    let none : AreRead inputs outputs [] [] = λ at. refl in
    let outs = texts-read inputs outputs 111 outputs 0 names.outputs [] [] (letter_of-outputs inputs outputs)
    (omega (arith, are.output_places)) (omega (arith, few_outputs)) are.of_outputs none in
    let outs_read : AreRead inputs outputs (symbol_lines 111 0 names.outputs) (texts_of 111 0 names.outputs) =
    rw (append-nil (symbol_lines 111 0 names.outputs), append-nil (texts_of 111 0 names.outputs)) at outs in
    let read = texts-read inputs outputs 105 inputs 0 names.inputs (symbol_lines 111 0 names.outputs) (texts_of 111 0 names.outputs)
    (letter_of-inputs inputs outputs) (omega (arith, are.input_places)) (omega (arith, few_inputs)) are.of_inputs outs_read in
    let places = names-read names (omega (arith, are.input_places, few_inputs)) (omega (arith, are.output_places, few_outputs)) are.of_inputs are.of_outputs in
    rw (e, read p.at) (ap Ok (ap (λ (i : ℕ). names_by i outputs symbols) (sym are.input_places)
    ∙ ap (λ (o : ℕ). names_by (length names.inputs) o symbols) (sym are.output_places) ∙ places))
  where
    symbols : List (List ℕ)
    symbols = texts_of 105 0 names.inputs ++ texts_of 111 0 names.outputs
