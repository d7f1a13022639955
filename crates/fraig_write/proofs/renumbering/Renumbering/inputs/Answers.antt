-- One input more.
use Rattle.std.proofs.Common.{◌≡◌, ◌∙◌, ◌+◌, ℕ, suc, List, [], ◌∷◌, ◌++◌, sym, ap, arith}
use Rattle.std.specs.List.{range_with_len}
use Rattle.lits.proofs.Facts.{range-more}
use Rattle.fraig_write.proofs.renumbering.Renumbering.inputs.Goals as goal

pub loop-k-preserved : goal.loop-k-preserved
loop-k-preserved c =
    let k = c.loop-k.k in
    let next : k + 1 ≡ suc k = omega arith in
    let swap : k + 1 ≡ 1 + k = omega arith in
    c.in_ok-push.ensures.items
    ∙ ap (λ (l : List ℕ). l ++ (k + 1) ∷ []) c.loop-k.invariant
    ∙ ap (λ (n : ℕ). range_with_len 1 k ++ n ∷ []) swap
    ∙ sym (range-more 1 k)
    ∙ ap (range_with_len 1) (sym next)
