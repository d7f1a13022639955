-- The tail, line by line: what its symbol lines name.
use Rattle.std.proofs.Common.{◌≡◌, ℕ, zero, suc, ◌+◌, ◌-◌, ◌<◌, ◌≤◌, min, Bool, true, false, not, cond, List, [], ◌∷◌, ◌++◌, Option, Some, None, Result, Ok, length, map, set, drop, reverse, refl, sym, ap, ◌∙◌, inl, inr, arith, append_assoc, append-nil, length-drop, replicate, subst}
use Rattle.std.specs.Prelude.{Err, ◌==◌, ◌&&◌, ◌||◌, if◌then◌else◌}
use Rattle.std.specs.List.{find, list_all, range_with_len}
use Rattle.std.specs.Option.{option_map}
use Rattle.std.proofs.lemmas.Bool.{and_parts, cases_lt}
use Rattle.std.proofs.lemmas.Bool.Decides.{nat_tests}
use Rattle.std.proofs.lemmas.List.{reverse-append, length-set}
use Rattle.symbol_names.specs.declared.names.Names.{Names}
use Rattle.symbol_names.specs.NameList.{is_name, joined, name_of}
use Rattle.symbol_names.specs.Names.{AreNames, unnamed}
use Rattle.symbol_names.proofs.Facts.{AreNames-unnamed, is_name-of, all-set}
use Rattle.byte_scan.specs.declared.errors.AigerErr.{AigerErr}
use Rattle.byte_scan.specs.declared.errors.AigerErr.TheVariants.{BadSymbol}
use Rattle.byte_scan.specs.Scanning.{Place, ahead, moved, digits, line_of, next_line}
use Rattle.byte_scan.specs.Reading.{◌>>=◌, Line, lines_ahead, begins_with, is_symbol, is_for, place_in, symbol_in, symbols_of, named_by, names_by, with_symbol, tail_of, tail_end, behind_tail, Ends}
use Rattle.byte_scan.proofs.PlaceLemmas.{lines-next, lines-end, next_some}
use Rattle.byte_scan.proofs.ReadingLemmas.{line_some}
use Rattle.std.proofs.lemmas.Option.{none-some}

-- ---- one symbol line more

named-push : (lines : List (List ℕ)) (line : List ℕ) (letter k : ℕ)
    → named_by (lines ++ line ∷ []) letter k ≡ (if is_for letter k line then name_of (symbol_in line) else named_by lines letter k)
named-push lines line letter k = rw (reverse-push lines line) (go (is_for letter k line) refl)
  where
    reverse-push : (xs : List (List ℕ)) (x : List ℕ) → reverse (xs ++ x ∷ []) ≡ x ∷ reverse xs
    reverse-push xs x = reverse-append xs (x ∷ [])

    go : (b : Bool) → is_for letter k line ≡ b
        → joined (option_map (λ l. name_of (symbol_in l)) (find (is_for letter k) (line ∷ reverse lines)))
        ≡ (if b then name_of (symbol_in line) else named_by lines letter k)
    go true e = rw e refl
    go false e = rw e refl

map-same : {A : Type 0} (f g : ℕ → A) (s n : ℕ) → ((k : ℕ) → s ≤ k → g k ≡ f k) → map g (range_with_len s n) ≡ map f (range_with_len s n)
map-same f g s zero same = refl
map-same f g s (suc n) same = rw (same s (omega arith), map-same f g (s + 1) n (λ k le. same k (omega (arith, le)))) refl

-- a list by places, of which one has another element
map-one : {A : Type 0} (f g : ℕ → A) (x : A) (p s n : ℕ) → s ≤ p → ((k : ℕ) → g k ≡ (if p == k then x else f k))
    → map g (range_with_len s n) ≡ set (map f (range_with_len s n)) (p - s) x
map-one f g x p s zero le same = refl
map-one f g x p s (suc n) le same =
    elim (cases_lt s p) [
      | inl more ↦
          let other : (p == s) ≡ false = grind (arith, nat_tests) in
          let next : p - s ≡ suc (p - (s + 1)) = omega arith in
          let first : g s ≡ f s = same s ∙ rw other refl in
          rw (first, next, map-one f g x p (s + 1) n (omega arith) same) refl
      | inr last ↦
          let here : (p == s) ≡ true = grind (arith, nat_tests) in
          let none : p - s ≡ 0 = omega arith in
          let first : g s ≡ x = same s ∙ rw here refl in
          let behind = map-same f g (s + 1) n (λ k low. let other : (p == k) ≡ false = grind (arith, nat_tests, low, last) in same k ∙ rw other refl) in
          rw (first, none, behind) refl
    ]

-- what the lines name for a letter, with one line more
list-push : (lines : List (List ℕ)) (line : List ℕ) (letter n : ℕ)
    → map (named_by (lines ++ line ∷ []) letter) (range_with_len 0 n)
    ≡ (if begins_with letter line then set (map (named_by lines letter) (range_with_len 0 n)) (place_in line) (name_of (symbol_in line)) else map (named_by lines letter) (range_with_len 0 n))
list-push lines line letter n = go (begins_with letter line) refl
  where
    go : (b : Bool) → begins_with letter line ≡ b
        → map (named_by (lines ++ line ∷ []) letter) (range_with_len 0 n)
        ≡ (if b then set (map (named_by lines letter) (range_with_len 0 n)) (place_in line) (name_of (symbol_in line)) else map (named_by lines letter) (range_with_len 0 n))
    go true e =
        let whole : place_in line - 0 ≡ place_in line = omega arith in
        map-one (named_by lines letter) (named_by (lines ++ line ∷ []) letter) (name_of (symbol_in line)) (place_in line) 0 n (omega arith)
        (λ k. named-push lines line letter k ∙ rw e refl)
        ∙ ap (λ (p : ℕ). set (map (named_by lines letter) (range_with_len 0 n)) p (name_of (symbol_in line))) whole
    go false e = map-same (named_by lines letter) (named_by (lines ++ line ∷ []) letter) 0 n
        (λ k le. named-push lines line letter k ∙ rw e refl)

names-push : (inputs outputs : ℕ) (lines : List (List ℕ)) (line : List ℕ)
    → names_by inputs outputs (lines ++ line ∷ []) ≡ with_symbol line (names_by inputs outputs lines)
names-push inputs outputs lines line =
    rw (list-push lines line 105 inputs, list-push lines line 111 outputs) refl

-- without symbol lines nothing has a name
pub names-none : (inputs outputs : ℕ) → names_by inputs outputs [] ≡ unnamed inputs outputs
names-none inputs outputs = rw (none inputs 105 0, none outputs 111 0) refl
  where
    none : (n letter s : ℕ) → map (named_by [] letter) (range_with_len s n) ≡ replicate n None
    none zero letter s = refl
    none (suc n) letter s = rw (none n letter (s + 1)) refl

-- ---- names are names

abbrev clean : List ℕ → Bool
clean bytes = list_all (λ b. not (b == 10)) bytes

clean-drop : (n : ℕ) (bs : List ℕ) → clean bs ≡ true → clean (drop n bs) ≡ true
clean-drop zero bs e = e
clean-drop (suc n) [] e = refl
clean-drop (suc n) (b ∷ bs) e = clean-drop n bs (and_parts (not (b == 10)) (clean bs) e).1

clean-line : (bs : List ℕ) → clean (line_of bs) ≡ true
clean-line [] = refl
clean-line (b ∷ bs) = go (b == 10) refl (clean-line bs)
  where
    go : (t : Bool) → (b == 10) ≡ t → clean (line_of bs) ≡ true → clean (cond t [] (b ∷ line_of bs)) ≡ true
    go true e rest = refl
    go false e rest = rw (e, rest) refl

clean-symbol : (line : List ℕ) → clean line ≡ true → clean (symbol_in line) ≡ true
clean-symbol [] e = refl
clean-symbol (b ∷ bs) e = clean-drop (length (digits bs) + 1) bs (and_parts (not (b == 10)) (clean bs) e).1

AreNames-symbol : (inputs outputs : ℕ) (line : List ℕ) (names : Names) → clean line ≡ true → AreNames inputs outputs names → AreNames inputs outputs (with_symbol line names)
AreNames-symbol inputs outputs line names e are = record {
  input_places = places (begins_with 105 line) names.inputs inputs are.input_places;
  output_places = places (begins_with 111 line) names.outputs outputs are.output_places;
  of_inputs = each (begins_with 105 line) names.inputs are.of_inputs;
  of_outputs = each (begins_with 111 line) names.outputs are.of_outputs;
}
  where
    new : Option (List ℕ)
    new = name_of (symbol_in line)

    places : (b : Bool) (ns : List (Option (List ℕ))) (n : ℕ) → length ns ≡ n → length (cond b (set ns (place_in line) new) ns) ≡ n
    places true ns n is = length-set ns (place_in line) new ∙ is
    places false ns n is = is

    each : (b : Bool) (ns : List (Option (List ℕ))) → list_all is_name ns ≡ true → list_all is_name (cond b (set ns (place_in line) new) ns) ≡ true
    each true ns is = all-set ns (place_in line) new is (is_name-of (symbol_in line) (clean-symbol line e))
    each false ns is = is

-- ---- the lines so far

-- the symbols of the lines that are left, behind these
abbrev behind : List (List ℕ) → Result (List (List ℕ)) AigerErr → Result (List (List ℕ)) AigerErr
behind symbols found = found >>= λ rest. Ok (symbols ++ rest)

-- what the loop knows where these lines are left of those of the tail: the names are those of the symbols before them
pub record HasNames (inputs outputs : ℕ) (start left : List Line) (names : Names) : Type 0 where
  pub symbols : List (List ℕ)
  pub given : names ≡ names_by inputs outputs symbols
  pub rest : symbols_of inputs outputs start ≡ behind symbols (symbols_of inputs outputs left)
  pub fit : AreNames inputs outputs names

pub HasNames-start : (inputs outputs : ℕ) (lines : List Line) → HasNames inputs outputs lines lines (unnamed inputs outputs)
HasNames-start inputs outputs lines = record {
  symbols = [];
  given = sym (names-none inputs outputs);
  rest = same (symbols_of inputs outputs lines);
  fit = AreNames-unnamed inputs outputs;
}
  where
    same : (found : Result (List (List ℕ)) AigerErr) → found ≡ behind [] found
    same (Ok x) = refl
    same (Err e) = refl

behind-more : (symbols : List (List ℕ)) (text : List ℕ) (found : Result (List (List ℕ)) AigerErr)
    → behind symbols (found >>= λ rest. Ok (text ∷ rest)) ≡ behind (symbols ++ text ∷ []) found
behind-more symbols text (Ok rest) = ap Ok (sym (append_assoc symbols (text ∷ []) rest))
behind-more symbols text (Err e) = refl

-- one symbol line
HasNames-symbol : (inputs outputs : ℕ) (start left : List Line) (line : Line) (old new : Names) → HasNames inputs outputs start (line ∷ left) old
    → begins_with 99 line.text ≡ false → is_symbol inputs outputs line.text ≡ true → clean line.text ≡ true → new ≡ with_symbol line.text old
    → HasNames inputs outputs start left new
HasNames-symbol inputs outputs start left line old new has comment symbol e put = record {
  symbols = has.symbols ++ line.text ∷ [];
  given = put ∙ ap (with_symbol line.text) has.given ∙ sym (names-push inputs outputs has.symbols line.text);
  rest =
      has.rest ∙ ap (behind has.symbols) read ∙ behind-more has.symbols line.text (symbols_of inputs outputs left);
  fit = rw put (AreNames-symbol inputs outputs line.text old e has.fit);
}
  where
    read : symbols_of inputs outputs (line ∷ left) ≡ (symbols_of inputs outputs left >>= λ rest. Ok (line.text ∷ rest))
    read = rw (comment, symbol) refl

-- a fault of the lines that are left is the tail's
tail-fault : (inputs outputs : ℕ) (start left : List Line) (names : Names) (e : AigerErr) → HasNames inputs outputs start left names
    → symbols_of inputs outputs left ≡ Err e → tail_of inputs outputs start ≡ Err e
tail-fault inputs outputs start left names e has fault = rw (has.rest, fault) refl

-- where no more symbols are left the names are those so far
tail-done : (inputs outputs : ℕ) (start left : List Line) (names : Names) → HasNames inputs outputs start left names
    → symbols_of inputs outputs left ≡ Ok [] → tail_of inputs outputs start ≡ Ok names
tail-done inputs outputs start left names has none =
    rw (has.rest, none, append-nil has.symbols, has.given) refl

-- ---- by the places between which a line stands

pub tail-comment : (inputs outputs : ℕ) (start : List Line) (p q : Place) (line : List ℕ) (names : Names)
    → HasNames inputs outputs start (lines_ahead p) names → next_line (ahead p) ≡ Some line → q ≡ moved p (length (line_of (ahead p)) + 1)
    → begins_with 99 line ≡ true → tail_of inputs outputs start ≡ Ok names
tail-comment inputs outputs start p q line names has e is c =
    tail-done inputs outputs start (lines_ahead p) names has (rw (lines-next p q line e is, c) refl)

pub tail-bad : (inputs outputs : ℕ) (start : List Line) (p q : Place) (line : List ℕ) (names : Names)
    → HasNames inputs outputs start (lines_ahead p) names → next_line (ahead p) ≡ Some line → q ≡ moved p (length (line_of (ahead p)) + 1)
    → begins_with 99 line ≡ false → is_symbol inputs outputs line ≡ false → tail_of inputs outputs start ≡ Err (BadSymbol p.at)
tail-bad inputs outputs start p q line names has e is c s =
    tail-fault inputs outputs start (lines_ahead p) names (BadSymbol p.at) has (rw (lines-next p q line e is, c, s) refl)

pub tail-symbol : (inputs outputs : ℕ) (start : List Line) (p q : Place) (line : List ℕ) (old new : Names)
    → HasNames inputs outputs start (lines_ahead p) old → next_line (ahead p) ≡ Some line → q ≡ moved p (length (line_of (ahead p)) + 1)
    → begins_with 99 line ≡ false → is_symbol inputs outputs line ≡ true → new ≡ with_symbol line old
    → HasNames inputs outputs start (lines_ahead q) new
tail-symbol inputs outputs start p q line old new has e is c s put =
    let text : clean line ≡ true = subst (λ (l : List ℕ). clean l ≡ true) (line_some (ahead p) line (sym e)) (clean-line (ahead p)) in
    HasNames-symbol inputs outputs start (lines_ahead q) (record { at = p.at; text = line }) old new (rw (lines-next p q line e is) at has) c s text put

pub tail-end : (inputs outputs : ℕ) (start : List Line) (p : Place) (names : Names) → HasNames inputs outputs start (lines_ahead p) names
    → next_line (ahead p) ≡ None → tail_of inputs outputs start ≡ Ok names
tail-end inputs outputs start p names has e =
    tail-done inputs outputs start (lines_ahead p) names has (rw (lines-end p e) refl)

-- ---- where the reading ends

-- what the loop knows of the place: the reading ends where that of the lines ahead ends
pub record EndsAs (inputs outputs : ℕ) (start p : Place) : Type 0 where
  pub bytes : p.bytes ≡ start.bytes
  pub end : tail_end inputs outputs (length start.bytes) (lines_ahead start) ≡ tail_end inputs outputs (length start.bytes) (lines_ahead p)

pub EndsAs-start : (inputs outputs : ℕ) (p : Place) → EndsAs inputs outputs p p
EndsAs-start inputs outputs p = record { bytes = refl; end = refl }

ends-at : (inputs outputs : ℕ) (start p : Place) → p.bytes ≡ start.bytes → tail_end inputs outputs (length start.bytes) (lines_ahead start) ≡ p.at
    → p ≡ behind_tail inputs outputs start
ends-at inputs outputs start p bytes at = rw (at, sym bytes) refl

-- a line that begins a comment or is no symbol line
ends-line : (inputs outputs : ℕ) (start p q : Place) (line : List ℕ) → EndsAs inputs outputs start p → next_line (ahead p) ≡ Some line
    → q ≡ moved p (length (line_of (ahead p)) + 1) → (begins_with 99 line || not (is_symbol inputs outputs line)) ≡ true → q ≡ behind_tail inputs outputs start
ends-line inputs outputs start p q line ends e is last =
    let text = line_some (ahead p) line (sym e) in
    let at : q.at ≡ min (p.at + (length line + 1)) (length p.bytes) = ap (λ (r : Place). r.at) is ∙ ap (λ (l : List ℕ). min (p.at + (length l + 1)) (length p.bytes)) text in
    let place : p.at + length line + 1 ≡ p.at + (length line + 1) = omega arith in
    let read : tail_end inputs outputs (length start.bytes) (lines_ahead p) ≡ min (p.at + length line + 1) (length start.bytes) = rw (lines-next p q line e is, last) refl in
    ends-at inputs outputs start q (ap (λ (r : Place). r.bytes) is ∙ ends.bytes)
    (ends.end ∙ read ∙ ap (λ (n : ℕ). min n (length start.bytes)) place ∙ ap (λ (bs : List ℕ). min (p.at + (length line + 1)) (length bs)) (sym ends.bytes) ∙ sym at)

pub ends-comment : (inputs outputs : ℕ) (start p q : Place) (line : List ℕ) → EndsAs inputs outputs start p → next_line (ahead p) ≡ Some line
    → q ≡ moved p (length (line_of (ahead p)) + 1) → begins_with 99 line ≡ true → q ≡ behind_tail inputs outputs start
ends-comment inputs outputs start p q line ends e is c = ends-line inputs outputs start p q line ends e is (rw c refl)

pub ends-bad : (inputs outputs : ℕ) (start p q : Place) (line : List ℕ) → EndsAs inputs outputs start p → next_line (ahead p) ≡ Some line
    → q ≡ moved p (length (line_of (ahead p)) + 1) → begins_with 99 line ≡ false → is_symbol inputs outputs line ≡ false → q ≡ behind_tail inputs outputs start
ends-bad inputs outputs start p q line ends e is c s = ends-line inputs outputs start p q line ends e is (rw (c, s) refl)

pub ends-symbol : (inputs outputs : ℕ) (start p q : Place) (line : List ℕ) → EndsAs inputs outputs start p → next_line (ahead p) ≡ Some line
    → q ≡ moved p (length (line_of (ahead p)) + 1) → begins_with 99 line ≡ false → is_symbol inputs outputs line ≡ true → EndsAs inputs outputs start q
ends-symbol inputs outputs start p q line ends e is c s = record {
  bytes = ap (λ (r : Place). r.bytes) is ∙ ends.bytes;
  end = ends.end ∙ rw (lines-next p q line e is, c, s) refl;
}

-- nothing is left
pub ends-none : (inputs outputs : ℕ) (start p q : Place) → EndsAs inputs outputs start p → next_line (ahead p) ≡ None
    → q ≡ moved p (length (line_of (ahead p)) + 1) → p.at ≤ length p.bytes → q ≡ behind_tail inputs outputs start
ends-none inputs outputs start p q ends e is within =
    let none = lines-end p e in
    let gone = ahead-none p e in
    let whole : length p.bytes ≡ p.at = omega (arith, gone, within) in
    let at : q.at ≡ min (p.at + (length (line_of (ahead p)) + 1)) (length p.bytes) = ap (λ (r : Place). r.at) is in
    let same : length start.bytes ≡ length p.bytes = ap length (sym ends.bytes) in
    let last : tail_end inputs outputs (length start.bytes) (lines_ahead p) ≡ length start.bytes = rw none refl in
    ends-at inputs outputs start q (ap (λ (r : Place). r.bytes) is ∙ ends.bytes) (ends.end ∙ last ∙ omega (arith, whole, at, same))
  where
    ahead-none : (p : Place) → next_line (ahead p) ≡ None → length p.bytes ≤ p.at
    ahead-none p e = go (ahead p) refl
      where
        go : (bs : List ℕ) → ahead p ≡ bs → length p.bytes ≤ p.at
        go [] nil = omega (arith, length-drop p.at p.bytes, ap (λ (t : List ℕ). length t) nil)
        go (b ∷ bs) some = absurd (none-some (line_of (b ∷ bs)) (sym (subst (λ (xs : List ℕ). next_line xs ≡ None) some e) ∙ next_some b bs))
