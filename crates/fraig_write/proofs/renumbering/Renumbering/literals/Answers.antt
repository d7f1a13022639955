-- One literal more becomes its root.
use Rattle.std.proofs.Common.{◌∙◌, ℕ, List, [], ◌∷◌, ◌++◌, map, take, length, sym, ap}
use Rattle.std.proofs.lemmas.List.{map_more}
use Rattle.lits.specs.declared.literal.Lit.{Lit}
use Rattle.lemma_book.specs.Root.{root_of}
use Rattle.fraig_write.specs.Reduced.{renumbered, root_renumbered}
use Rattle.fraig_write.proofs.NodesOfA.{lit-named}
use Rattle.fraig_write.proofs.renumbering.Renumbering.literals.Goals as goal

pub loop-literal-preserved : goal.loop-literal-preserved
loop-literal-preserved c =
    let a = c.args.net.now.a in
    let entries = c.args.book.now.entries in
    let staying = c.args.self.now.staying in
    let i = c.loop-literal.literal-index in
    let same = (lit-named c.args.net.now _ c.unwrap-lit.result (sym c.lit.ensures ∙ c.unwrap-lit.ensures)).0 in
    let value = c.root.ensures
    ∙ ap (λ (n : ℕ). renumbered n staying (root_of entries c.unwrap-lit.result)) c.requires.inputs
    ∙ ap (λ (l : Lit). renumbered (length a.inputs) staying (root_of entries l)) (sym same) in
    c.in_ok-push.ensures.items
    ∙ ap (λ (l : List ℕ). l ++ c.root.result ∷ []) c.loop-literal.invariant
    ∙ ap (λ (n : ℕ). map (root_renumbered a entries staying) (take i c.args.literals.now) ++ n ∷ []) value
    ∙ sym (map_more (root_renumbered a entries staying) c.args.literals.now i _ c.loop-literal-test.true)
