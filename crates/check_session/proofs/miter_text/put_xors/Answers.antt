use Rattle.std.proofs.Common.{◌≡◌, ◌<◌, ◌≤◌, ◌++◌, ◌∷◌, [], List, ℕ, length, get_or, ap, sym, ◌∙◌, subst, arith}
use Rattle.std.proofs.lemmas.Result.{err_from_is_err_and}
use Rattle.lits.specs.declared.node.Node.TheVariants.{Xor}
use Rattle.netlist.specs.Miter.{positive, xors_of}
use Rattle.check_session.specs.MiterText.{node_lines}
use Rattle.check_session.proofs.MiterTextLemmas.{length-xors, xor-is, xor-there}
use Rattle.desk_port.specs.Pieces.{Moves, StopsInPieces}
use Rattle.desk_port.proofs.Facts.{taken-none, taken-more, taken-all, taken-stops}
use Rattle.check_session.proofs.miter_text.put_xors.Goals as goal

pub loop-j-init : goal.loop-j-init
loop-j-init g c = taken-none c.args.text.now (g.D.Desk.state c.args.desk.now) (g.D.Desk.sizes c.args.desk.now)

pub put_axioms-requires-clause-there : goal.put_axioms-requires-clause-there
put_axioms-requires-clause-there g c = xor-there c.args.net.now c.loop-j.j (omega (arith, c.outputs-j-end.ensures.count, c.loop-j-test.true))

pub loop-j-preserved : goal.loop-j-preserved
loop-j-preserved g c =
    let within : c.loop-j.j < length (xors_of c.args.net.now) = omega (arith, length-xors c.args.net.now, c.outputs-j-end.ensures.count, c.loop-j-test.true) in
    let is : Xor c.loop-j.j ≡ get_or (xors_of c.args.net.now) c.loop-j.j (Xor c.loop-j.j) = xor-is c.args.net.now c.loop-j.j (omega (arith, c.outputs-j-end.ensures.count, c.loop-j-test.true)) in
    taken-more (node_lines c.args.net.now) (xors_of c.args.net.now) c.loop-j.j c.args.text.now c.loop-j.text
    (g.D.Desk.state c.args.desk.now) (g.D.Desk.state c.loop-j.desk) (g.D.Desk.sizes c.args.desk.now) (g.D.Desk.sizes c.loop-j.desk)
    c.loop-j.invariant
    (Xor c.loop-j.j) c.put_axioms.new.text (g.D.Desk.state c.put_axioms.new.desk) (g.D.Desk.sizes c.put_axioms.new.desk)
    within is
    c.in_ok-put_axioms.ensures.takes c.in_ok-put_axioms.ensures.started

pub returns-in_err-put_axioms-clause-takes : goal.returns-in_err-put_axioms-clause-takes
returns-in_err-put_axioms-clause-takes g c =
    let p = err_from_is_err_and c.from_residual.result c.from_residual.ensures.1 in
    let within : c.loop-j.j < length (xors_of c.args.net.now) = omega (arith, length-xors c.args.net.now, c.outputs-j-end.ensures.count, c.loop-j-test.true) in
    let is : Xor c.loop-j.j ≡ get_or (xors_of c.args.net.now) c.loop-j.j (Xor c.loop-j.j) = xor-is c.args.net.now c.loop-j.j (omega (arith, c.outputs-j-end.ensures.count, c.loop-j-test.true)) in
    rw (p.1, p.2)
    (taken-stops (node_lines c.args.net.now) (xors_of c.args.net.now) c.loop-j.j c.args.text.now c.loop-j.text
    (g.D.Desk.state c.args.desk.now) (g.D.Desk.state c.loop-j.desk) (g.D.Desk.sizes c.args.desk.now) (g.D.Desk.sizes c.loop-j.desk)
    c.loop-j.invariant
    (Xor c.loop-j.j) c.put_axioms.new.text (g.D.Desk.state c.put_axioms.new.desk) (g.D.Desk.sizes c.put_axioms.new.desk)
    within is c.in_err-put_axioms.field-0.0
    c.in_err-put_axioms.ensures.takes)

pub returns-clause-takes : goal.returns-clause-takes
returns-clause-takes g c =
    taken-all (node_lines c.args.net.now) (xors_of c.args.net.now) c.loop-j.j c.args.text.now c.loop-j.text
    (g.D.Desk.state c.args.desk.now) (g.D.Desk.state c.loop-j.desk) (g.D.Desk.sizes c.args.desk.now) (g.D.Desk.sizes c.loop-j.desk)
    c.loop-j.invariant
    (omega (arith, length-xors c.args.net.now, c.outputs-j-end.ensures.count, c.loop-j-test.false))
