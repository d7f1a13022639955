-- What the gate folds to stands earlier, and the clauses on the way show it.
use Rattle.std.proofs.Common.{◌∙◌, List, sym, subst}
use Rattle.std.proofs.lemmas.Result.{on_ok_weaker}
use Rattle.lits.specs.declared.literal.Lit.{Lit}
use Rattle.lemma_book.proofs.Facts.{ArePlacedAll, placed-all}
use Rattle.strash_pass.specs.Pass.{Merges, ShowsMerge}
use Rattle.strash_pass.proofs.GateFacts.{is-gate}
use Rattle.strash_pass.proofs.WayLemmas.{placed-no_xors, constant-placed, fold-placed, fold-earlier, fold-way}
use Rattle.strash_pass.proofs.ways.merge_folded.Goals as goal

pub merge-requires-clause-there : goal.merge-requires-clause-there
merge-requires-clause-there c = placed-all c.args.net.now c.deref.result.now
    (subst (ArePlacedAll c.args.net.now) (sym (c.deref.ensures.value ∙ c.in_ok-with_constant.ensures))
    (constant-placed c.args.net.now c.args.book.now c.requires.legal c.args.way.now.items c.requires.gate.place c.args.gate
    (is-gate c.args.net.now c.requires.net c.requires.gate.place c.args.gate c.requires.gate.at) c.args.roots.left.lit c.args.roots.right.lit c.args.target
    c.requires.left.root c.requires.right.root c.requires.folds c.requires.way.placed))

pub merge-requires-clause-no_xors : goal.merge-requires-clause-no_xors
merge-requires-clause-no_xors c = placed-no_xors c.args.net.now c.deref.result.now
    (subst (ArePlacedAll c.args.net.now) (sym (c.deref.ensures.value ∙ c.in_ok-with_constant.ensures))
    (constant-placed c.args.net.now c.args.book.now c.requires.legal c.args.way.now.items c.requires.gate.place c.args.gate
    (is-gate c.args.net.now c.requires.net c.requires.gate.place c.args.gate c.requires.gate.at) c.args.roots.left.lit c.args.roots.right.lit c.args.target
    c.requires.left.root c.requires.right.root c.requires.folds c.requires.way.placed))

pub merge-requires-clause-placed : goal.merge-requires-clause-placed
merge-requires-clause-placed c =
    fold-placed c.args.net.now c.args.book.now c.requires.legal c.args.way.now.items c.requires.gate.place c.args.gate
    (is-gate c.args.net.now c.requires.net c.requires.gate.place c.args.gate c.requires.gate.at) c.args.roots.left.lit c.args.roots.right.lit c.args.target
    c.requires.left.root c.requires.right.root c.requires.folds

pub merge-requires-clause-earlier : goal.merge-requires-clause-earlier
merge-requires-clause-earlier c =
    fold-earlier c.args.net.now c.args.book.now c.requires.legal c.args.way.now.items c.requires.gate.place c.args.gate
    (is-gate c.args.net.now c.requires.net c.requires.gate.place c.args.gate c.requires.gate.at) c.args.roots.left.lit c.args.roots.right.lit c.args.target
    c.requires.left.root c.requires.right.root c.requires.folds

pub merge-requires-clause-shows : goal.merge-requires-clause-shows
merge-requires-clause-shows c =
    subst (λ (l : List Lit). ShowsMerge c.args.net.now c.args.book.now.entries l c.args.gate.node c.args.target) (sym (c.deref.ensures.value ∙ c.in_ok-with_constant.ensures))
    (fold-way c.args.net.now c.args.book.now c.requires.legal c.args.way.now.items c.requires.gate.place c.args.gate
    (is-gate c.args.net.now c.requires.net c.requires.gate.place c.args.gate c.requires.gate.at) c.args.roots.left.lit c.args.roots.right.lit c.args.target
    c.requires.left.root c.requires.right.root c.requires.folds c.requires.way.reaches)

pub returns-clause-ok : goal.returns-clause-ok
returns-clause-ok c =
    on_ok_weaker c.merge.result
    (λ m. subst (λ (l : List Lit). Merges c.args.net.now c.args.book.now c.merge.new.book l c.args.gate.node c.args.target)
    (c.deref.ensures.value ∙ c.in_ok-with_constant.ensures) m)
    c.merge.ensures.ok
