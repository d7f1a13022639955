use Rattle.std.proofs.Common.{◌≡◌, ◌+◌, ◌++◌, ◌∷◌, [], ℕ, List, ap, sym, ◌∙◌, add-one, arith}
use Rattle.std.specs.List.{range_with_len}
use Rattle.lits.proofs.Facts.{range-more}
use Rattle.workload_gen.proofs.design.variables.Goals as goal

pub loop-k-preserved : goal.loop-k-preserved
loop-k-preserved c =
    let l = c.loop-k in
    let next : l.k + 1 ≡ 1 + l.k = omega arith in
    c.in_ok-push.ensures.items
    ∙ ap (λ (xs : List ℕ). xs ++ (l.k + 1) ∷ []) l.invariant
    ∙ ap (λ (x : ℕ). range_with_len 1 l.k ++ x ∷ []) next
    ∙ sym (range-more 1 l.k)
    ∙ ap (range_with_len 1) (sym (add-one l.k))
