-- Equal lists of literals are found equal.
use Rattle.std.proofs.Common.{ap, ◌∙◌, List}
use Rattle.std.specs.Cmp.Lexicographic.{pointwise}
use Rattle.lits.specs.declared.literal.Lit.{Lit}
use Rattle.lits.specs.Same.{same_lit}
use Rattle.lemma_book.proofs.Telling.{tells-clause}
use Rattle.lemma_book.proofs.shape.adds.Goals as goal

pub returns : goal.returns
returns c =
    tells-clause c.args.step.now.clause c.args.clause.now c.eq.result
    (c.eq.ensures ∙ ap (λ (l : List Lit). pointwise same_lit l c.args.clause.now) c.lits.ensures.lits)
