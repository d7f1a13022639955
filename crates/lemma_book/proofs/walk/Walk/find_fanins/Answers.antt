-- What defines a node is over nodes that have variables.
use Rattle.std.proofs.Common.{◌∙◌, List, Some, subst, sym}
use Rattle.std.specs.Prelude.{OnOk}
use Rattle.lits.specs.declared.node.Node.{Node}
use Rattle.lemma_book.specs.Walk.{Finds}
use Rattle.lemma_book.proofs.ThereLemmas.{is_some-variable}
use Rattle.lemma_book.proofs.FaninLemmas.{defined-there, fanins-defined}
use Rattle.lemma_book.proofs.walk.Walk.find_fanins.Goals as goal

pub find_all-requires-clause-there : goal.find_all-requires-clause-there
find_all-requires-clause-there c =
    let both = defined-there c.args.net.now c.requires.net c.args.node c.in-Some.defined c.in-Some.ensures
    (sym (is_some-variable c.args.net.now c.args.node) ∙ c.requires.there) in
    (is_some-variable c.args.net.now c.in-Some.defined.left.node ∙ both.0, (is_some-variable c.args.net.now c.in-Some.defined.right.node ∙ both.1, tt))

pub find_all-requires-clause-walk : goal.find_all-requires-clause-walk
find_all-requires-clause-walk c = c.requires.walk

pub returns-in-Some : goal.returns-in-Some
returns-in-Some c =
    subst (λ (ns : List Node). OnOk c.find_all.result (Finds c.args.net.now c.args.self.now ns c.find_all.new.self))
    (fanins-defined c.args.net.now c.requires.net c.args.node (Some c.in-Some.defined) c.in-Some.ensures) c.find_all.ensures
