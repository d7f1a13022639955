-- Written words: how a line of them comes apart again, and a text into such lines.
use Rattle.std.proofs.Common.{◌≡◌, ℕ, ◌^◌, ◌<◌, Bool, true, false, not, eqb, ltb, List, [], ◌∷◌, ◌++◌, map, filter, decimal, length, refl, sym, ap, ◌∙◌, append_assoc, append-nil, ne_eqb, lt-ltb, arith}
use Rattle.std.specs.Char.{is_ascii_digit}
use Rattle.std.specs.List.{slice_split, flat_map, list_any, list_all, AllByRecursion}
use Rattle.std.proofs.lemmas.Bool.{and_parts, or_parts, leb-true, ltb-true}
use Rattle.std.proofs.lemmas.Fmt.{decimal_nonempty}
use Rattle.std.proofs.lemmas.List.Folds.{list_any-append}
use Rattle.lits.specs.Dimacs.{DimacsLiteral}
use Rattle.tokens.specs.Words.{is_empty, is_space, is_whitespace, words_by}
use Rattle.tokens.specs.Text.{literal_text, IsInRange, spaced, joined, ended}
use Rattle.tokens.proofs.NumeralLemmas.{digits-decimal}

-- a word as it is written: one byte or more, all of them behind the space
pub record IsToken (word : List ℕ) : Type 0 where
  pub filled : is_empty word ≡ false
  pub printed : list_all (λ b. ltb 32 b) word ≡ true

-- a test that takes the space for a blank, and no byte behind it
pub record PartsTokens (p : ℕ → Bool) : Type 0 where
  pub space : p 32 ≡ true
  pub printed : (b : ℕ) → 32 < b → p b ≡ false

pub PartsTokens-space : PartsTokens is_space
PartsTokens-space = record { space = refl; printed = λ b lt. ne_eqb b 32 (λ e. omega arith) }

pub PartsTokens-whitespace : PartsTokens is_whitespace
PartsTokens-whitespace = record { space = refl; printed = λ b lt. go b lt }
  where
    go : (b : ℕ) → 32 < b → is_whitespace b ≡ false
    go b lt =
        let space : eqb b 32 ≡ false = ne_eqb _ _ (λ e. omega arith) in
        let tab : eqb b 9 ≡ false = ne_eqb _ _ (λ e. omega arith) in
        let cr : eqb b 13 ≡ false = ne_eqb _ _ (λ e. omega arith) in
        let lf : eqb b 10 ≡ false = ne_eqb _ _ (λ e. omega arith) in
        rw (space, tab, cr, lf) refl

split-whole : {X : Type 0} (p : X → Bool) (xs : List X) → list_any p xs ≡ false
    → slice_split p xs ≡ xs ∷ []
split-whole p [] none = refl
split-whole p (x ∷ xs) none =
    let parts = or_parts (p x) (list_any p xs) none in rw (parts.0, split-whole p xs parts.1) refl

split-first : {X : Type 0} (p : X → Bool) (xs : List X) (x : X) (rest : List X)
    → list_any p xs ≡ false → p x ≡ true
    → slice_split p (xs ++ x ∷ rest) ≡ xs ∷ slice_split p rest
split-first p [] y rest none here = rw here refl
split-first p (x ∷ xs) y rest none here =
    let parts = or_parts (p x) (list_any p xs) none in
    rw (parts.0, split-first p xs y rest parts.1 here) refl

-- no byte of a written word passes a test that no printed byte passes
none-printed : (p : ℕ → Bool) (word : List ℕ) → ((b : ℕ) → 32 < b → p b ≡ false)
    → list_all (λ b. ltb 32 b) word ≡ true → list_any p word ≡ false
none-printed p [] other all = refl
none-printed p (b ∷ bs) other all =
    let parts = and_parts (ltb 32 b) (list_all (λ c. ltb 32 c) bs) all in
    rw (other b (ltb-true _ _ parts.0), none-printed p bs other parts.1) refl

no_end : (word : List ℕ) → IsToken word → list_any (λ b. eqb b 10) word ≡ false
no_end word is =
    none-printed (λ b. eqb b 10) word (λ b lt. ne_eqb b 10 (λ e. omega arith)) is.printed

kept : (words : List (List ℕ)) → AllByRecursion IsToken words
    → filter (λ word. not (is_empty word)) words ≡ words
kept [] all = refl
kept (w ∷ ws) all = let filled = all.0.filled in rw (filled, kept ws all.1) refl

split-spaced : (p : ℕ → Bool) (word : List ℕ) (words : List (List ℕ)) → PartsTokens p → IsToken word
    → AllByRecursion IsToken words → slice_split p (word ++ spaced words) ≡ word ∷ words
split-spaced p word [] parts is all =
    rw (append-nil word) (split-whole p word (none-printed p word parts.printed is.printed))
split-spaced p word (next ∷ words) parts is all =
    split-first p word 32 (next ++ spaced words)
    (none-printed p word parts.printed is.printed) parts.space
    ∙ ap (λ (l : List (List ℕ)). word ∷ l) (split-spaced p next words parts all.0 all.1)

pub words_by-joined : (p : ℕ → Bool) (words : List (List ℕ)) → PartsTokens p
    → AllByRecursion IsToken words
    → words_by p (joined words) ≡ words
words_by-joined p [] parts all = refl
words_by-joined p (word ∷ words) parts all =
    rw (split-spaced p word words parts all.0 all.1) (kept (word ∷ words) all)

pub joined-one_line : (words : List (List ℕ)) → AllByRecursion IsToken words
    → list_any (λ b. eqb b 10) (joined words) ≡ false
joined-one_line [] all = refl
joined-one_line (word ∷ []) all = rw (append-nil word) (no_end word all.0)
joined-one_line (word ∷ next ∷ words) all =
    list_any-append (λ b. eqb b 10) word (32 ∷ (next ++ spaced words))
    ∙ rw (no_end word all.0, joined-one_line (next ∷ words) all.1) refl

-- words with a space in front of each, the last of them apart
spaced-joined : (words : List (List ℕ)) (last : List ℕ)
    → 32 ∷ joined (words ++ last ∷ []) ≡ spaced (words ++ last ∷ [])
spaced-joined [] last = refl
spaced-joined (w ∷ ws) last = refl

pub trailed-joined : {X : Type 0} (text : X → List ℕ) (xs : List X) (last : List ℕ)
    → flat_map (λ x. text x ++ 32 ∷ []) xs ++ last ≡ joined (map text xs ++ last ∷ [])
trailed-joined text [] last = sym (append-nil last)
trailed-joined text (x ∷ xs) last =
    append_assoc (text x ++ 32 ∷ []) (flat_map (λ y. text y ++ 32 ∷ []) xs) last
    ∙ append_assoc (text x) (32 ∷ []) (flat_map (λ y. text y ++ 32 ∷ []) xs ++ last)
    ∙ ap (λ (line : List ℕ). text x ++ 32 ∷ line) (trailed-joined text xs last)
    ∙ ap (λ (line : List ℕ). text x ++ line) (spaced-joined (map text xs) last)

pub lines-ended : (lines : List (List ℕ)) → list_any (list_any (λ b. eqb b 10)) lines ≡ false
    → slice_split (λ b. eqb b 10) (flat_map ended lines) ≡ lines ++ [] ∷ []
lines-ended [] none = refl
lines-ended (line ∷ lines) none =
    let parts = or_parts _ _ none in
    rw (append_assoc line (10 ∷ []) (flat_map ended lines))
    (split-first (λ b. eqb b 10) line 10 (flat_map ended lines) parts.0 refl
    ∙ ap (λ (l : List (List ℕ)). line ∷ l) (lines-ended lines parts.1))

digits-printed : (word : List ℕ) → list_all is_ascii_digit word ≡ true
    → list_all (λ b. ltb 32 b) word ≡ true
digits-printed [] all = refl
digits-printed (b ∷ bs) all =
    let parts = and_parts (is_ascii_digit b) (list_all is_ascii_digit bs) all in
    let low = leb-true 48 b (and_parts _ _ parts.0).0 in
    let here : ltb 32 b ≡ true = lt-ltb _ _ (omega arith) in
    rw (here, digits-printed bs parts.1) refl

filled_from_length : (word : List ℕ) → 0 < length word → is_empty word ≡ false
filled_from_length [] lt = absurd (omega arith)
filled_from_length (b ∷ bs) lt = refl

pub IsToken-decimal : (n : ℕ) → n < 2 ^ 64 → IsToken (decimal n)
IsToken-decimal n lt = record {
  filled = filled_from_length (decimal n) (decimal_nonempty n lt);
  printed = digits-printed (decimal n) (digits-decimal n lt);
}

pub IsToken-literal : (literal : DimacsLiteral) → IsInRange literal → IsToken (literal_text literal)
unfolding literal_text
IsToken-literal literal range = go literal.neg refl
  where
    go : (b : Bool) → literal.neg ≡ b → IsToken (literal_text literal)
    go false e = rw e (IsToken-decimal literal.var (omega arith))
    go true e =
        let digits = IsToken-decimal literal.var (omega arith) in
        let printed = digits.printed in
        rw e (record { filled = refl; printed = rw printed refl })
