use Rattle.std.proofs.Common.{◌≡◌, ◌<◌, ◌≤◌, ◌++◌, ◌∷◌, [], List, ℕ, length, get_or, ap, sym, ◌∙◌, subst, arith}
use Rattle.std.proofs.lemmas.Result.{err_from_is_err_and}
use Rattle.std.specs.Prelude.{true}
use Rattle.lits.specs.Clause.{has}
use Rattle.lits.specs.Same.{same_node}
use Rattle.lits.specs.declared.node.Node.{Node}
use Rattle.netlist.specs.Net.{nodes_of}
use Rattle.netlist.specs.Miter.{variables_of}
use Rattle.check_session.specs.MiterText.{node_lines}
use Rattle.check_session.proofs.MiterTextLemmas.{node-is, node-there}
use Rattle.desk_port.specs.Pieces.{Moves, StopsInPieces}
use Rattle.desk_port.proofs.Facts.{taken-none, taken-more, taken-all, taken-stops}
use Rattle.check_session.proofs.miter_text.put_nodes.Goals as goal

pub loop-position-init : goal.loop-position-init
loop-position-init g c = taken-none c.args.text.now (g.D.Desk.state c.args.desk.now) (g.D.Desk.sizes c.args.desk.now)

pub put_axioms-requires-clause-there : goal.put_axioms-requires-clause-there
put_axioms-requires-clause-there g c =
    subst (λ (n : Node). has same_node (variables_of c.args.net.now) n ≡ true) (sym c.node.ensures)
    (node-there c.args.net.now c.requires.net c.loop-position.position (omega (arith, c.positions-position-end.ensures, c.loop-position-test.true)))

pub loop-position-preserved : goal.loop-position-preserved
loop-position-preserved g c =
    let within : c.loop-position.position < length (nodes_of c.args.net.now) = omega (arith, c.positions-position-end.ensures, c.loop-position-test.true) in
    let is : c.node.result ≡ get_or (nodes_of c.args.net.now) c.loop-position.position (c.node.result) = node-is c.args.net.now c.node.result c.loop-position.position within c.node.ensures in
    taken-more (node_lines c.args.net.now) (nodes_of c.args.net.now) c.loop-position.position c.args.text.now c.loop-position.text
    (g.D.Desk.state c.args.desk.now) (g.D.Desk.state c.loop-position.desk) (g.D.Desk.sizes c.args.desk.now) (g.D.Desk.sizes c.loop-position.desk)
    c.loop-position.invariant
    (c.node.result) c.put_axioms.new.text (g.D.Desk.state c.put_axioms.new.desk) (g.D.Desk.sizes c.put_axioms.new.desk)
    within is
    c.in_ok-put_axioms.ensures.takes c.in_ok-put_axioms.ensures.started

pub returns-in_err-put_axioms-clause-takes : goal.returns-in_err-put_axioms-clause-takes
returns-in_err-put_axioms-clause-takes g c =
    let p = err_from_is_err_and c.from_residual.result c.from_residual.ensures.1 in
    let within : c.loop-position.position < length (nodes_of c.args.net.now) = omega (arith, c.positions-position-end.ensures, c.loop-position-test.true) in
    let is : c.node.result ≡ get_or (nodes_of c.args.net.now) c.loop-position.position (c.node.result) = node-is c.args.net.now c.node.result c.loop-position.position within c.node.ensures in
    rw (p.1, p.2)
    (taken-stops (node_lines c.args.net.now) (nodes_of c.args.net.now) c.loop-position.position c.args.text.now c.loop-position.text
    (g.D.Desk.state c.args.desk.now) (g.D.Desk.state c.loop-position.desk) (g.D.Desk.sizes c.args.desk.now) (g.D.Desk.sizes c.loop-position.desk)
    c.loop-position.invariant
    (c.node.result) c.put_axioms.new.text (g.D.Desk.state c.put_axioms.new.desk) (g.D.Desk.sizes c.put_axioms.new.desk)
    within is c.in_err-put_axioms.field-0.0
    c.in_err-put_axioms.ensures.takes)

pub returns-clause-takes : goal.returns-clause-takes
returns-clause-takes g c =
    taken-all (node_lines c.args.net.now) (nodes_of c.args.net.now) c.loop-position.position c.args.text.now c.loop-position.text
    (g.D.Desk.state c.args.desk.now) (g.D.Desk.state c.loop-position.desk) (g.D.Desk.sizes c.args.desk.now) (g.D.Desk.sizes c.loop-position.desk)
    c.loop-position.invariant
    (omega (arith, c.positions-position-end.ensures, c.loop-position-test.false))
