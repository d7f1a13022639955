-- The first of the two last steps adds its clause, so the second decides.
use Rattle.std.proofs.Common.{◌≡◌, [], ◌∷◌, subst, arith}
use Rattle.lits.specs.declared.literal.Lit.{Lit}
use Rattle.lits.specs.Same.{opposite}
use Rattle.netlist.specs.Miter.{positive, negative}
use Rattle.lemma_book.specs.Judging.{Tells}
use Rattle.lemma_book.proofs.Telling.{tells-yes, tells-two, last-two}
use Rattle.lemma_book.proofs.shape.ends_in_merge.Goals as goal

pub returns-then-adds : goal.returns-then-adds
returns-then-adds c =
    let steps = c.args.steps.now in
    let s = c.first-item.result in
    let t = c.second-item.result in
    let long = c.if-steps-lt2.false in
    tells-two steps (negative c.args.node ∷ c.args.lit ∷ []) (positive c.args.node ∷ opposite c.args.lit ∷ []) s t (omega (arith, long))
    (last-two steps s t (omega (arith, long)) c.first-item.is c.second-item.is)
    (let e = tells-yes (s.clause ≡ c.negative.result ∷ c.args.lit ∷ []) c.adds.result c.if-adds.true c.adds.ensures in
    subst (λ (l : Lit). s.clause ≡ l ∷ c.args.lit ∷ []) c.negative.ensures e)
    c.adds-then-adds.result
    (subst (λ (l : Lit). Tells (t.clause ≡ l ∷ opposite c.args.lit ∷ []) c.adds-then-adds.result) c.positive.ensures
    (subst (λ (l : Lit). Tells (t.clause ≡ c.positive.result ∷ l ∷ []) c.adds-then-adds.result) c.not.ensures c.adds-then-adds.ensures))
