-- What was noted with the roots' codes is a twin; else the gate is noted with them.
use Rattle.std.proofs.Common.{◌∙◌, ◌+◌, ◌<◌, ℕ, length, ap, sym, subst, arith}
use Rattle.netlist.specs.Net.{nodes_of, node_at, defined_by}
use Rattle.strash_pass.specs.Twins.{Table, IsTwinOrNoted}
use Rattle.strash_pass.specs.Pass.{IsPass}
use Rattle.strash_pass.proofs.CodeLemmas.{coded-at, position-small}
use Rattle.strash_pass.proofs.PassLemmas.{noted-defined, noted-some, noted-within, pass-noted}
use Rattle.strash_pass.proofs.visit.Pass.twin.Goals as goal

pub code_of-left-requires : goal.code_of-left-requires
code_of-left-requires c =
    omega (arith, position-small c.args.net.now c.requires.net c.args.roots.left.lit.node c.args.roots.left.at c.requires.left.at)

pub code_of-right-requires : goal.code_of-right-requires
code_of-right-requires c =
    omega (arith, position-small c.args.net.now c.requires.net c.args.roots.right.lit.node c.args.roots.right.at c.requires.right.at)

pub node-requires : goal.node-requires
node-requires c =
    let t = subst (IsTwinOrNoted c.args.self.now.twins c.code_of-left.result c.code_of-right.result c.args.at c.twin_or_note.new.self)
    c.in-Some.is c.in_ok-twin.ensures.noted in
    subst (λ (g : ℕ). g < length (nodes_of c.args.net.now)) t.1
    (noted-within c.args.net.now c.args.book.now.entries c.args.self.now.twins c.args.self.now.visited c.args.gate c.requires.gate c.requires.pass
    c.requires.net c.args.roots.left.lit c.args.roots.right.lit c.code_of-left.result c.code_of-right.result c.args.at c.requires.left.root c.requires.right.root
    c.requires.unmerged c.requires.unfolded (coded-at c.args.net.now c.args.roots.left c.code_of-left.result c.requires.left.at c.code_of-left.ensures) (coded-at c.args.net.now c.args.roots.right c.code_of-right.result c.requires.right.at c.code_of-right.ensures) c.requires.at t.0)

pub returns-in-Some-clause-twin : goal.returns-in-Some-clause-twin
returns-in-Some-clause-twin c =
    let t = subst (IsTwinOrNoted c.args.self.now.twins c.code_of-left.result c.code_of-right.result c.args.at c.twin_or_note.new.self)
    c.in-Some.is c.in_ok-twin.ensures.noted in
    noted-defined c.args.net.now c.args.book.now.entries c.args.self.now.twins c.args.self.now.visited c.args.gate c.requires.gate c.requires.pass
    c.requires.net c.args.roots.left.lit c.args.roots.right.lit c.code_of-left.result c.code_of-right.result c.args.at c.requires.left.root c.requires.right.root
    c.requires.unmerged c.requires.unfolded (coded-at c.args.net.now c.args.roots.left c.code_of-left.result c.requires.left.at c.code_of-left.ensures) (coded-at c.args.net.now c.args.roots.right c.code_of-right.result c.requires.right.at c.code_of-right.ensures) c.requires.at t.0 c.twin_or_note.new.self c.definition.result t.2
    (c.definition.ensures ∙ ap (defined_by c.args.net.now) c.node.ensures ∙ ap (λ (g : ℕ). defined_by c.args.net.now (node_at c.args.net.now g)) (sym t.1))

pub returns-in-Some-clause-noted : goal.returns-in-Some-clause-noted
returns-in-Some-clause-noted c =
    let t = subst (IsTwinOrNoted c.args.self.now.twins c.code_of-left.result c.code_of-right.result c.args.at c.twin_or_note.new.self)
    c.in-Some.is c.in_ok-twin.ensures.noted in
    noted-some c.args.net.now c.args.book.now.entries c.args.self.now.twins c.args.self.now.visited c.args.gate c.requires.gate c.requires.pass
    c.requires.net c.args.roots.left.lit c.args.roots.right.lit c.code_of-left.result c.code_of-right.result c.args.at c.requires.left.root c.requires.right.root
    c.requires.unmerged c.requires.unfolded (coded-at c.args.net.now c.args.roots.left c.code_of-left.result c.requires.left.at c.code_of-left.ensures) (coded-at c.args.net.now c.args.roots.right c.code_of-right.result c.requires.right.at c.code_of-right.ensures) c.requires.at t.0 c.twin_or_note.new.self c.definition.result
    (c.definition.ensures ∙ ap (defined_by c.args.net.now) c.node.ensures ∙ ap (λ (g : ℕ). defined_by c.args.net.now (node_at c.args.net.now g)) (sym t.1))

pub returns-in-None-clause-noted : goal.returns-in-None-clause-noted
returns-in-None-clause-noted c =
    let x = subst (IsTwinOrNoted c.args.self.now.twins c.code_of-left.result c.code_of-right.result c.args.at c.twin_or_note.new.self)
    c.in-None.is c.in_ok-twin.ensures.noted in
    subst (λ (t : Table). IsPass c.args.net.now c.args.book.now.entries t (c.args.self.now.visited + 1)) (sym x.4)
    (pass-noted c.args.net.now c.args.book.now.entries c.args.self.now.twins c.args.self.now.visited c.args.gate c.requires.gate c.requires.pass
    c.requires.net c.args.roots.left.lit c.args.roots.right.lit c.code_of-left.result c.code_of-right.result c.args.at c.requires.left.root c.requires.right.root
    c.requires.unmerged c.requires.unfolded (coded-at c.args.net.now c.args.roots.left c.code_of-left.result c.requires.left.at c.code_of-left.ensures) (coded-at c.args.net.now c.args.roots.right c.code_of-right.result c.requires.right.at c.code_of-right.ensures) c.requires.at x.0 x.1 x.2 x.3)
