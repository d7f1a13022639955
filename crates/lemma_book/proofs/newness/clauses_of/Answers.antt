-- Each round reads one clause more.
use Rattle.std.proofs.Common.{◌∙◌, [], ◌∷◌, ◌++◌, List, take, ap, sym}
use Rattle.std.proofs.lemmas.List.{map_more, take_all}
use Rattle.lits.specs.declared.literal.Lit.{Lit}
use Rattle.lits.specs.declared.step.Named.{Named}
use Rattle.unit_prop.specs.Log.{base_clauses}
use Rattle.lemma_book.proofs.newness.clauses_of.Goals as goal

pub loop-named-preserved : goal.loop-named-preserved
loop-named-preserved c =
    let n = c.named-item.result in
    c.in_ok-add_copy.ensures
    ∙ ap (λ (ls : List (List Lit)). ls ++ n.clause ∷ []) c.loop-named.invariant
    ∙ ap (λ (m : Named). base_clauses (take c.loop-named.named-index c.args.cone.now) ++ m.clause ∷ []) c.named-item.is
    ∙ sym (map_more (λ (m : Named). m.clause) c.args.cone.now c.loop-named.named-index n c.loop-named-test.true)

pub returns : goal.returns
returns c = c.loop-named.invariant ∙ ap base_clauses (take_all c.loop-named.named-index c.args.cone.now c.loop-named-test.false)
