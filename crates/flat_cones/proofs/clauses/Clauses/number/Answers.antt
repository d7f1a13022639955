-- A node that has a number keeps it, and one that has none takes the next.
use Rattle.std.proofs.Common.{◌≡◌, ◌∷◌, ◌++◌, ◌∙◌, [], false, List, sym, subst}
use Rattle.lits.specs.Clause.{has}
use Rattle.lits.specs.Same.{same_node}
use Rattle.lits.specs.declared.node.Node.{Node}
use Rattle.flat_cones.specs.Walk.{node_by}
use Rattle.flat_cones.proofs.VariableLemmas.{variable-place}
use Rattle.flat_cones.proofs.GateLemmas.{variable-small}
use Rattle.flat_cones.proofs.NumberLemmas.{takes-known, known-at, new-absent, takes-new, new-at}
use Rattle.flat_cones.proofs.clauses.Clauses.number.Goals as goal

pub returns-in-Some-clause-takes : goal.returns-in-Some-clause-takes
returns-in-Some-clause-takes c =
    takes-known c.args.net.now c.args.spots.now c.args.self.now.base c.requires.places (node_by c.args.net.now c.args.variable) c.args.variable
    (variable-place c.args.net.now c.requires.net c.args.variable c.requires.there) c.in-Some.number (sym c.number.ensures.number ∙ c.in-Some.is)

pub returns-in-Some-clause-number : goal.returns-in-Some-clause-number
returns-in-Some-clause-number c =
    known-at c.args.net.now c.args.spots.now c.args.self.now.base c.requires.places (node_by c.args.net.now c.args.variable) c.args.variable
    (variable-place c.args.net.now c.requires.net c.args.variable c.requires.there) c.in-Some.number (sym c.number.ensures.number ∙ c.in-Some.is)

pub number-requires-2 : goal.number-requires-2
number-requires-2 c =
    subst (λ (n : Node). has same_node c.args.self.now.base.nodes n ≡ false) (sym c.node_of.ensures.node)
    (new-absent c.args.net.now c.args.spots.now c.args.self.now.base c.requires.places (node_by c.args.net.now c.args.variable) c.args.variable
    (variable-place c.args.net.now c.requires.net c.args.variable c.requires.there) (sym c.number.ensures.number ∙ c.in_default.is))

pub set_number-requires-clause-small : goal.set_number-requires-clause-small
set_number-requires-clause-small c = variable-small c.args.net.now c.requires.net c.args.variable c.requires.there

pub returns-clause-takes : goal.returns-clause-takes
returns-clause-takes c =
    takes-new c.args.net.now c.args.spots.now c.args.self.now.base c.requires.places (node_by c.args.net.now c.args.variable) c.args.variable
    (variable-place c.args.net.now c.requires.net c.args.variable c.requires.there) c.set_number.new.self c.number-2.new.self c.in_ok-number.number
    (sym c.number.ensures.number ∙ c.in_default.is) c.in_ok-number.ensures.number
    (subst (λ (n : Node). c.number-2.new.self.nodes ≡ c.args.self.now.base.nodes ++ n ∷ []) c.node_of.ensures.node c.in_ok-number.ensures.nodes)
    c.in_ok-number.ensures.named c.in_ok-set_number.ensures

pub returns-clause-number : goal.returns-clause-number
returns-clause-number c =
    new-at c.args.self.now.base.nodes c.number-2.new.self.nodes (node_by c.args.net.now c.args.variable) c.in_ok-number.number c.in_ok-number.ensures.number
    (subst (λ (n : Node). c.number-2.new.self.nodes ≡ c.args.self.now.base.nodes ++ n ∷ []) c.node_of.ensures.node c.in_ok-number.ensures.nodes)
