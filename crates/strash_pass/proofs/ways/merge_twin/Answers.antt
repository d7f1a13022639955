-- The twin stands earlier, and the clauses on both gates' ways show that they are equal.
use Rattle.std.proofs.Common.{◌∙◌, [], ◌∷◌, ◌++◌, List, ap, sym, subst, append_assoc}
use Rattle.std.specs.Prelude.{is_some}
use Rattle.std.proofs.lemmas.Result.{on_ok_weaker}
use Rattle.lits.specs.declared.literal.Lit.{Lit}
use Rattle.netlist.specs.Miter.{positive}
use Rattle.lemma_book.specs.Root.{passed_by}
use Rattle.lemma_book.proofs.Facts.{ArePlacedAll, placed-all}
use Rattle.strash_pass.specs.Pass.{Merges, ShowsMerge}
use Rattle.strash_pass.proofs.GateFacts.{is-gate}
use Rattle.strash_pass.proofs.WayLemmas.{placed-no_xors, twin-placed_all, twin-placed, twin-earlier, twin-way}
use Rattle.strash_pass.proofs.ways.merge_twin.Goals as goal

pub merge-requires-clause-there : goal.merge-requires-clause-there
merge-requires-clause-there c =
    placed-all c.args.net.now c.deref.result.now (subst (ArePlacedAll c.args.net.now) (sym
    (c.deref.ensures.value ∙ c.in_ok-_right.ensures.passed
    ∙ ap (λ (l : List Lit). l ++ passed_by c.args.book.now.entries c.args.twin.right)
    (c.in_ok-_left.ensures.passed ∙ ap (λ (l : List Lit). l ++ passed_by c.args.book.now.entries c.args.twin.left) c.in_ok-push.ensures.items)))
    (twin-placed_all c.args.net.now c.args.book.now c.requires.legal c.requires.net c.args.way.now.items c.args.twin c.args.gate c.requires.twin c.requires.way))

pub merge-requires-clause-no_xors : goal.merge-requires-clause-no_xors
merge-requires-clause-no_xors c =
    placed-no_xors c.args.net.now c.deref.result.now (subst (ArePlacedAll c.args.net.now) (sym
    (c.deref.ensures.value ∙ c.in_ok-_right.ensures.passed
    ∙ ap (λ (l : List Lit). l ++ passed_by c.args.book.now.entries c.args.twin.right)
    (c.in_ok-_left.ensures.passed ∙ ap (λ (l : List Lit). l ++ passed_by c.args.book.now.entries c.args.twin.left) c.in_ok-push.ensures.items)))
    (twin-placed_all c.args.net.now c.args.book.now c.requires.legal c.requires.net c.args.way.now.items c.args.twin c.args.gate c.requires.twin c.requires.way))

pub merge-requires-clause-placed : goal.merge-requires-clause-placed
merge-requires-clause-placed c =
    twin-placed c.args.net.now c.args.book.now c.requires.legal c.requires.net c.args.way.now.items c.args.twin c.args.gate c.requires.twin c.requires.way

pub merge-requires-clause-earlier : goal.merge-requires-clause-earlier
merge-requires-clause-earlier c =
    twin-earlier c.args.net.now c.args.book.now c.requires.legal c.requires.net c.args.way.now.items c.args.twin c.args.gate c.requires.twin c.requires.way

pub merge-requires-clause-shows : goal.merge-requires-clause-shows
merge-requires-clause-shows c =
    subst (λ (l : List Lit). ShowsMerge c.args.net.now c.args.book.now.entries l c.args.gate.node (positive c.args.twin.node)) (sym
    (c.deref.ensures.value ∙ c.in_ok-_right.ensures.passed
    ∙ ap (λ (l : List Lit). l ++ passed_by c.args.book.now.entries c.args.twin.right)
    (c.in_ok-_left.ensures.passed ∙ ap (λ (l : List Lit). l ++ passed_by c.args.book.now.entries c.args.twin.left) c.in_ok-push.ensures.items)))
    (twin-way c.args.net.now c.args.book.now c.requires.legal c.requires.net c.args.way.now.items c.args.twin c.args.gate c.requires.twin c.requires.way)

pub returns-clause-ok : goal.returns-clause-ok
returns-clause-ok c =
    let es = c.args.book.now.entries in
    let left = passed_by es c.args.twin.left in
    let right = passed_by es c.args.twin.right in
    let way_is =
    c.deref.ensures.value ∙ c.in_ok-_right.ensures.passed
    ∙ ap (λ (l : List Lit). l ++ right) (c.in_ok-_left.ensures.passed ∙ ap (λ (l : List Lit). l ++ left) c.in_ok-push.ensures.items)
    ∙ append_assoc (c.args.way.now.items ++ positive c.args.twin.node ∷ []) left right
    ∙ append_assoc c.args.way.now.items (positive c.args.twin.node ∷ []) (left ++ right) in
    on_ok_weaker c.merge.result
    (λ m. subst (λ (l : List Lit). Merges c.args.net.now c.args.book.now c.merge.new.book l c.args.gate.node (positive c.args.twin.node)) way_is m)
    c.merge.ensures.ok

pub position_of-requires : goal.position_of-requires
position_of-requires c =
    ap is_some (is-gate c.args.net.now c.requires.net c.requires.twin.first c.args.twin c.requires.twin.at_first).left.1

pub position_of-requires-2 : goal.position_of-requires-2
position_of-requires-2 c =
    ap is_some (is-gate c.args.net.now c.requires.net c.requires.twin.first c.args.twin c.requires.twin.at_first).right.1
