-- The XOR's literal, then those of A's constraints, then those of B's.
use Rattle.std.proofs.Common.{◌∙◌, ◌∷◌, ◌++◌, [], List, ap}
use Rattle.lits.specs.declared.literal.Lit.{Lit}
use Rattle.lits.specs.declared.node.Side.TheVariants.{A, B}
use Rattle.netlist.specs.Net.{bounds_on}
use Rattle.lemma_book.proofs.output_cone.starts.Goals as goal

pub returns : goal.returns
returns c =
    c.in_ok-add_bounds-2.ensures
    ∙ ap (λ (l : List Lit). l ++ bounds_on c.args.net.now B)
    (c.in_ok-add_bounds.ensures
    ∙ ap (λ (l : List Lit). l ++ bounds_on c.args.net.now A)
    (c.in_ok-push.ensures.items ∙ ap (λ (l : List Lit). l ++ c.positive.result ∷ []) c.new-starts.ensures.items
    ∙ ap (λ (l : Lit). l ∷ []) c.positive.ensures))
