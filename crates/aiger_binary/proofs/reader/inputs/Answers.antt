use Rattle.std.proofs.Common.{◌≡◌, ◌+◌, ◌++◌, ◌∷◌, [], ℕ, List, ap, sym, ◌∙◌, add-one, arith}
use Rattle.std.specs.List.{range_with_len}
use Rattle.lits.proofs.Facts.{range-more}
use Rattle.aiger_binary.proofs.reader.inputs.Goals as goal

pub loop-input-preserved : goal.loop-input-preserved
loop-input-preserved c =
    let l = c.loop-input in
    let next : l.input + 1 ≡ 1 + l.input = omega arith in
    c.in_ok-push.ensures.items
    ∙ ap (λ (xs : List ℕ). xs ++ (l.input + 1) ∷ []) l.invariant
    ∙ ap (λ (x : ℕ). range_with_len 1 l.input ++ x ∷ []) next
    ∙ sym (range-more 1 l.input)
    ∙ ap (range_with_len 1) (sym (add-one l.input))
