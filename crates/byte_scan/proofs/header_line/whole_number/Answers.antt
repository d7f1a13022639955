use Rattle.std.proofs.Common.{◌≡◌, length, sym, ◌∙◌, refl, inl, inr, arith}
use Rattle.std.proofs.lemmas.Bool.{eqb-true, eqb-false}
use Rattle.byte_scan.proofs.WordLemmas.{is_number-whole, is_number-empty, is_number-other}
use Rattle.byte_scan.proofs.header_line.whole_number.Goals as goal

pub returns-then-len-word : goal.returns-then-len-word
returns-then-len-word c =
    let w = c.args.word.now in
    elim c.if-len-word.either [
      | inl empty ↦ rw (is_number-empty w (eqb-true _ _ (sym c.is_empty.ensures ∙ empty))) refl
      | inr short ↦ rw (is_number-other w (omega (arith, c.leading_number-value.ensures.len))) refl
    ]

pub returns-else-len-word : goal.returns-else-len-word
returns-else-len-word c =
    let w = c.args.word.now in
    let some : length w ≡ 0 → ⊥ = eqb-false _ _ (sym c.is_empty.ensures ∙ c.if-len-word.false.0) in
    let whole = is_number-whole w (omega arith) (omega (arith, c.leading_number-value.ensures.len)) in
    rw (whole.0, c.leading_number-value.ensures.value, whole.1) refl
