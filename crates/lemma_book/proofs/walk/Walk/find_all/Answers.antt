-- After the last round the nodes of all literals are found.
use Rattle.std.proofs.Common.{List, subst}
use Rattle.std.proofs.lemmas.List.{take_all}
use Rattle.lits.specs.declared.literal.Lit.{Lit}
use Rattle.lemma_book.specs.Cone.{nodes_in}
use Rattle.lemma_book.specs.Walk.{Finds}
use Rattle.lemma_book.proofs.walk.Walk.find_all.Goals as goal

pub returns : goal.returns
returns c =
    subst (λ (l : List Lit). Finds c.args.net.now c.args.self.now (nodes_in l) c.loop-lit.self)
    (take_all c.loop-lit.lit-index c.args.lits.now c.loop-lit-test.false) c.loop-lit.invariant
