-- The lines of the named inputs of a witness, one after the other.
use Rattle.std.proofs.Common.{◌≡◌, ℕ, zero, suc, ◌+◌, ◌<◌, ◌≤◌, Bool, List, [], ◌∷◌, ◌++◌, Option, length, drop, refl, sym, ap, ap₂, ◌∙◌, arith, append_assoc, append-nil}
use Rattle.cec_top.specs.Steps.{line_at}
use Rattle.cec_top.specs.Witness.{named_lines}

no-bits : (names : List (Option (List ℕ))) → named_lines names [] ≡ []
no-bits [] = refl
no-bits (n ∷ ns) = refl

lines-from : (k : ℕ) (names : List (Option (List ℕ))) (bits : List Bool) → k < length names
    → named_lines (drop k names) (drop k bits) ≡ line_at names bits k ++ named_lines (drop (suc k) names) (drop (suc k) bits)
lines-from k [] bits below = absurd (omega (arith, below))
lines-from zero (n ∷ ns) [] below = sym (no-bits ns)
lines-from zero (n ∷ ns) (b ∷ bs) below = refl
lines-from (suc k) (n ∷ ns) [] below = no-bits (drop k ns) ∙ sym (no-bits (drop (suc k) ns))
lines-from (suc k) (n ∷ ns) (b ∷ bs) below = lines-from k ns bs (omega (arith, below))

none-behind : (k : ℕ) (names : List (Option (List ℕ))) → length names ≤ k → drop k names ≡ []
none-behind zero [] above = refl
none-behind (suc k) [] above = refl
none-behind zero (n ∷ ns) above = absurd (omega (arith, above))
none-behind (suc k) (n ∷ ns) above = none-behind k ns (omega (arith, above))

-- behind a text, the lines from input k on make the whole
abbrev pub Goes : List (Option (List ℕ)) → List Bool → List ℕ → ℕ → List ℕ → Type 0
Goes names bits old k text = text ++ named_lines (drop k names) (drop k bits) ≡ old ++ named_lines names bits

pub goes-on : (names : List (Option (List ℕ))) (bits : List Bool) (old text new : List ℕ) (k : ℕ) → k < length names → Goes names bits old k text
    → new ≡ text ++ line_at names bits k → Goes names bits old (k + 1) new
goes-on names bits old text new k below goes line =
    let up : k + 1 ≡ suc k = omega arith in
    let rest : ℕ → List ℕ = λ n. named_lines (drop n names) (drop n bits) in
    ap₂ (λ (x : List ℕ) (n : ℕ). x ++ rest n) line up
    ∙ append_assoc text (line_at names bits k) (rest (suc k))
    ∙ ap (λ (x : List ℕ). text ++ x) (sym (lines-from k names bits below)) ∙ goes

pub goes-through : (names : List (Option (List ℕ))) (bits : List Bool) (old text : List ℕ) (k : ℕ) → length names ≤ k → Goes names bits old k text
    → text ≡ old ++ named_lines names bits
goes-through names bits old text k above goes =
    sym (append-nil text) ∙ sym (ap (λ (ns : List (Option (List ℕ))). text ++ named_lines ns (drop k bits)) (none-behind k names above)) ∙ goes
