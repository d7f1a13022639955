use Rattle.std.proofs.Common.{◌≡◌, ◌<◌, ◌^◌, ap, ◌∙◌, false, length, arith}
use Rattle.lits.specs.Clause.{has}
use Rattle.lits.specs.Same.{same_node}
use Rattle.flat_base.specs.Flat.{Flat, named_of}
use Rattle.flat_base.proofs.FlatLemmas.{flat-number, named-number}
use Rattle.flat_base.proofs.flat_base.FlatBase.number.Goals as goal

pub invariant_of-self-2 : goal.invariant_of-self-2
invariant_of-self-2 c =
    let nodes = c.self.inside.nodes.items in
    let fresh : has same_node nodes c.args.node ≡ false = ap (λ (f : Flat). has same_node f.nodes c.args.node) c.self.view_is ∙ c.requires in
    let few : length nodes < 2 ^ 31 = omega (arith, c.len-number.ensures, c.self.inside.nodes.ok.0, c.if-number-ge-MOST.false) in
    rw c.in_ok-push.ensures.items (flat-number nodes _ c.args.node c.self.invariant.0 fresh few, c.self.invariant.1)

pub returns-clause-named : goal.returns-clause-named
returns-clause-named c =
    rw c.in_ok-push.ensures.items (named-number c.self.inside.nodes.items _ c.args.node c.self.invariant.0.coded ∙ ap named_of c.self.view_is)
