-- A list of names keeps its names where one is put, and where room is made.
use Rattle.std.proofs.Common.{◌≡◌, ℕ, zero, suc, ◌+◌, ◌-◌, ◌<◌, ◌≤◌, Bool, true, false, not, ◌&&◌, Option, None, List, [], ◌∷◌, ◌++◌, length, map, take, drop, set, replicate, refl, sym, ap, ◌∙◌, arith, append_assoc, append-nil, length-append}
use Rattle.std.specs.Prelude.{nat_lt}
use Rattle.std.specs.List.{list_all}
use Rattle.std.proofs.lemmas.Bool.{and_parts}
use Rattle.std.proofs.lemmas.Bool.Decides.{nat_tests}
use Rattle.std.proofs.lemmas.List.{length-map, map-append, map-set, set-append_left, length-replicate, length-set, drop-append-le, take-append-le, replicate-append-replicate, length-drop}
use Rattle.std.proofs.lemmas.List.Folds.{list_all-append}
use Rattle.std.proofs.Math.Seq.{drop-append_seam}
use Rattle.symbol_names.specs.declared.name_list.Span.{Span}
use Rattle.symbol_names.specs.NameList.{name_of, name_in, names_in, none_at, AreSpans}

-- so many places without a name
abbrev nones : ℕ → List (Option (List ℕ))
nones n = replicate n None

abbrev none : Option (List ℕ)
none = None

abbrev ends : ℕ → Span → Bool
ends n s = not (nat_lt n (s.start + s.len))

within-more : (n m : ℕ) (spans : List Span) → list_all (ends n) spans ≡ true → list_all (ends (n + m)) spans ≡ true
within-more n m [] e = refl
within-more n m (s ∷ ss) e =
    let parts = and_parts (ends n s) (list_all (ends n) ss) e in
    let here : ends (n + m) s ≡ true = grind (arith, nat_tests, parts.0) in
    rw (here, within-more n m ss parts.1) refl

within-none : (n k : ℕ) → list_all (ends n) (replicate k none_at) ≡ true
within-none n zero = refl
within-none n (suc k) =
    let here : ends n none_at ≡ true = grind (arith, nat_tests) in rw (here, within-none n k) refl

within-room : (n k : ℕ) (spans : List Span) → list_all (ends n) spans ≡ true → list_all (ends n) (spans ++ replicate k none_at) ≡ true
within-room n k spans e = rw (list_all-append (ends n) spans (replicate k none_at), e, within-none n k) refl

within-set : (n : ℕ) (spans : List Span) (k : ℕ) (s : Span) → list_all (ends n) spans ≡ true → s.start + s.len ≤ n → list_all (ends n) (set spans k s) ≡ true
within-set n [] k s e le = refl
within-set n (t ∷ ts) zero s e le =
    let parts = and_parts (ends n t) (list_all (ends n) ts) e in
    let here : ends n s ≡ true = grind (arith, nat_tests, le) in rw (here, parts.1) refl
within-set n (t ∷ ts) (suc k) s e le =
    let parts = and_parts (ends n t) (list_all (ends n) ts) e in rw (parts.0, within-set n ts k s parts.1 le) refl

-- a name stays where bytes are put behind all of them
name-more : (bytes more : List ℕ) (s : Span) → s.start + s.len ≤ length bytes → name_in (bytes ++ more) s ≡ name_in bytes s
name-more bytes more s le =
    let left : s.len ≤ length (drop s.start bytes) = omega (arith, length-drop s.start bytes) in
    rw (drop-append-le s.start bytes more (omega arith), take-append-le s.len (drop s.start bytes) more left) refl

names-more : (bytes more : List ℕ) (spans : List Span) → list_all (ends (length bytes)) spans ≡ true → map (name_in (bytes ++ more)) spans ≡ map (name_in bytes) spans
names-more bytes more [] e = refl
names-more bytes more (s ∷ ss) e =
    let parts = and_parts (ends (length bytes) s) (list_all (ends (length bytes)) ss) e in
    let le : s.start + s.len ≤ length bytes = grind (arith, nat_tests, parts.0) in
    rw (name-more bytes more s le, names-more bytes more ss parts.1) refl

names-none : (bytes : List ℕ) (k : ℕ) → map (name_in bytes) (replicate k none_at) ≡ nones k
names-none bytes zero = refl
names-none bytes (suc k) = rw (names-none bytes k) refl

length-room : (k : ℕ) (spans : List Span) → length (spans ++ replicate k none_at) ≡ length spans + k
length-room k spans = length-append spans (replicate k none_at) ∙ ap (λ (n : ℕ). length spans + n) (length-replicate k none_at)

-- the places that were made have no name, as they had none
pub names-room : (count k : ℕ) (bytes : List ℕ) (spans : List Span) → length spans + k ≤ count
    → names_in count bytes (spans ++ replicate k none_at) ≡ names_in count bytes spans
names-room count k bytes spans le =
    let behind : nones k ++ nones (count - (length spans + k)) ≡ nones (count - length spans) =
    replicate-append-replicate k (count - (length spans + k)) none ∙ ap nones (omega arith) in
    rw (length-room k spans, map-append (name_in bytes) spans (replicate k none_at), names-none bytes k, append_assoc (map (name_in bytes) spans) (nones k) (nones (count - (length spans + k))), behind) refl

pub AreSpans-room : (count place : ℕ) (bytes : List ℕ) (spans : List Span) → AreSpans count bytes spans → place < count
    → AreSpans count bytes (spans ++ replicate (place + 1 - length spans) none_at)
AreSpans-room count place bytes spans are lt = record {
  few = let fits = are.few in omega (arith, length-room (place + 1 - length spans) spans, fits);
  within = within-room (length bytes) (place + 1 - length spans) spans are.within;
}

-- the bytes put last, as a name
name-last : (bytes name : List ℕ) → name_in (bytes ++ name) (record { start = length bytes; len = length name }) ≡ name_of name
name-last bytes name =
    let whole : take (length name) name ≡ name = ap (λ (n : List ℕ). take (length name) n) (sym (append-nil name)) ∙ seam name in
    rw (drop-append_seam bytes name, whole) refl
  where
    seam : (xs : List ℕ) → take (length xs) (xs ++ []) ≡ xs
    seam [] = refl
    seam (x ∷ xs) = ap (λ (l : List ℕ). x ∷ l) (seam xs)

-- where there is room
AreSpans-put : (count place : ℕ) (bytes name : List ℕ) (spans : List Span) → AreSpans count bytes spans
    → AreSpans count (bytes ++ name) (set spans place (record { start = length bytes; len = length name }))
AreSpans-put count place bytes name spans are =
    let span : Span = record { start = length bytes; len = length name } in
    let more : list_all (ends (length (bytes ++ name))) spans ≡ true = rw (length-append bytes name) (within-more (length bytes) (length name) spans are.within) in
    record {
      few = rw (length-set spans place span) are.few;
      within = within-set (length (bytes ++ name)) spans place span more (omega (arith, length-append bytes name));
    }

names-put : (count place : ℕ) (bytes name : List ℕ) (spans : List Span) → AreSpans count bytes spans → place < length spans
    → names_in count (bytes ++ name) (set spans place (record { start = length bytes; len = length name }))
    ≡ set (names_in count bytes spans) place (name_of name)
names-put count place bytes name spans are lt =
    let span : Span = record { start = length bytes; len = length name } in
    let there : place < length (map (name_in bytes) spans) = omega (arith, length-map spans (name_in bytes)) in
    rw (
      length-set spans place span,
      map-set (name_in (bytes ++ name)) spans place span,
      name-last bytes name,
      names-more bytes name spans are.within,
      set-append_left (map (name_in bytes) spans) (nones (count - length spans)) place (name_of name) there,
    ) refl

pub AreSpans-set : (count place : ℕ) (bytes name : List ℕ) (spans : List Span) → AreSpans count bytes spans → place < count
    → AreSpans count (bytes ++ name) (set (spans ++ replicate (place + 1 - length spans) none_at) place (record { start = length bytes; len = length name }))
AreSpans-set count place bytes name spans are lt =
    AreSpans-put count place bytes name (spans ++ replicate (place + 1 - length spans) none_at) (AreSpans-room count place bytes spans are lt)

pub names-set : (count place : ℕ) (bytes name : List ℕ) (spans : List Span) → AreSpans count bytes spans → place < count
    → names_in count (bytes ++ name) (set (spans ++ replicate (place + 1 - length spans) none_at) place (record { start = length bytes; len = length name }))
    ≡ set (names_in count bytes spans) place (name_of name)
names-set count place bytes name spans are lt =
    let fits = are.few in
    let there : place < length (spans ++ replicate (place + 1 - length spans) none_at) = omega (arith, length-room (place + 1 - length spans) spans) in
    names-put count place bytes name (spans ++ replicate (place + 1 - length spans) none_at) (AreSpans-room count place bytes spans are lt) there
    ∙ ap (λ (ns : List (Option (List ℕ))). set ns place (name_of name)) (names-room count (place + 1 - length spans) bytes spans (omega arith))

-- there are as many places
pub length-names : (count : ℕ) (bytes : List ℕ) (spans : List Span) → AreSpans count bytes spans → length (names_in count bytes spans) ≡ count
length-names count bytes spans are =
    let fits = are.few in
    omega (arith, length-append (map (name_in bytes) spans) (nones (count - length spans)), length-map spans (name_in bytes), length-replicate (count - length spans) none)
