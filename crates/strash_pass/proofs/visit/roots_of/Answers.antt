-- The way is the gate, and then what each fanin passes.
use Rattle.std.proofs.Common.{◌∙◌, ◌∷◌, [], ◌++◌, List, ap}
use Rattle.lits.specs.declared.literal.Lit.{Lit}
use Rattle.netlist.specs.Miter.{positive}
use Rattle.lemma_book.specs.Root.{passed_by}
use Rattle.strash_pass.proofs.visit.roots_of.Goals as goal

pub returns-clause-way : goal.returns-clause-way
returns-clause-way c =
    c.in_ok-right.ensures.passed
    ∙ ap (λ (l : List Lit). l ++ passed_by c.args.book.now.entries c.args.gate.right)
    (c.in_ok-left.ensures.passed
    ∙ ap (λ (l : List Lit). l ++ passed_by c.args.book.now.entries c.args.gate.left)
    (c.in_ok-push.ensures.items ∙ ap (λ (l : List Lit). l ++ positive c.args.gate.node ∷ []) c.clear.ensures.items))
