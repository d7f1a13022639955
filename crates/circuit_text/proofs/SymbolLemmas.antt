-- One more symbol line.
use Rattle.std.proofs.Common.{◌≡◌, ℕ, zero, suc, ◌+◌, ◌<◌, List, [], ◌∷◌, ◌++◌, Option, length, take, sym, ap, ◌∙◌, arith, append_assoc, append-nil}
use Rattle.symbol_names.specs.NameList.{name_at}
use Rattle.circuit_text.specs.Symbols.{symbol_line, symbol_lines}

lines-more : (letter s i : ℕ) (names : List (Option (List ℕ))) → i < length names
    → symbol_lines letter s (take (suc i) names) ≡ symbol_lines letter s (take i names) ++ symbol_line letter (s + i) (name_at names i)
lines-more letter s i [] lt = absurd (omega arith)
lines-more letter s zero (n ∷ ns) lt =
    let at : s ≡ s + 0 = omega arith in append-nil (symbol_line letter s n) ∙ ap (λ (k : ℕ). symbol_line letter k n) at
lines-more letter s (suc i) (n ∷ ns) lt =
    let at : s + 1 + i ≡ s + suc i = omega arith in
    ap (λ (t : List ℕ). symbol_line letter s n ++ t) (lines-more letter (s + 1) i ns (omega arith))
    ∙ sym (append_assoc (symbol_line letter s n) (symbol_lines letter (s + 1) (take i ns)) (symbol_line letter (s + 1 + i) (name_at ns i)))
    ∙ ap (λ (k : ℕ). symbol_lines letter s (take (suc i) (n ∷ ns)) ++ symbol_line letter k (name_at ns i)) at

-- behind a text
pub symbols-more : (letter k : ℕ) (names : List (Option (List ℕ))) (old text new : List ℕ) (name : Option (List ℕ)) → k < length names
    → text ≡ old ++ symbol_lines letter 0 (take k names) → name ≡ name_at names k → new ≡ text ++ symbol_line letter k name
    → new ≡ old ++ symbol_lines letter 0 (take (k + 1) names)
symbols-more letter k names old text new name lt before is line =
    let up : k + 1 ≡ suc k = omega arith in
    let at : k ≡ 0 + k = omega arith in
    line ∙ ap (λ (t : List ℕ). t ++ symbol_line letter k name) before
    ∙ ap (λ (n : Option (List ℕ)). (old ++ symbol_lines letter 0 (take k names)) ++ symbol_line letter k n) is
    ∙ append_assoc old (symbol_lines letter 0 (take k names)) (symbol_line letter k (name_at names k))
    ∙ ap (λ (n : ℕ). old ++ (symbol_lines letter 0 (take k names) ++ symbol_line letter n (name_at names k))) at
    ∙ ap (λ (t : List ℕ). old ++ t) (sym (lines-more letter 0 k names lt))
    ∙ ap (λ (n : ℕ). old ++ symbol_lines letter 0 (take n names)) (sym up)
