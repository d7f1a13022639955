use Rattle.std.proofs.Common.{◌++◌, List, ℕ, length, sym, subst}
use Rattle.std.proofs.lemmas.Result.{err_from_is_err_and}
use Rattle.lits.specs.declared.node.Side.TheVariants.{A, B}
use Rattle.check_session.specs.MiterText.{unit_lines, xor_line}
use Rattle.desk_port.specs.Pieces.{StopsInPieces, Takes}
use Rattle.check_session.proofs.MiterTextLemmas.{first-stops, second-stops, third-takes}
use Rattle.check_session.proofs.miter_text.put_others.Goals as goal

pub returns-in_err-put_units-clause-takes : goal.returns-in_err-put_units-clause-takes
returns-in_err-put_units-clause-takes g c =
    let p = err_from_is_err_and c.from_residual.result c.from_residual.ensures.1 in
    rw (p.1, p.2)
    (first-stops (unit_lines c.args.net.now A) (unit_lines c.args.net.now B) (xor_line c.args.net.now) c.args.text.now c.in_err-put_units.field-0.0 (g.D.Desk.state c.args.desk.now) (g.D.Desk.state c.put_units.new.desk) (g.D.Desk.sizes c.args.desk.now) (g.D.Desk.sizes c.put_units.new.desk)
    c.in_err-put_units.ensures.takes)

pub returns-in_err-put_units-2-clause-takes : goal.returns-in_err-put_units-2-clause-takes
returns-in_err-put_units-2-clause-takes g c =
    let p = err_from_is_err_and c.from_residual-in_err-put_units-2.result c.from_residual-in_err-put_units-2.ensures.1 in
    rw (p.1, p.2)
    (second-stops (unit_lines c.args.net.now A) (unit_lines c.args.net.now B) (xor_line c.args.net.now) c.args.text.now c.put_units.new.text c.in_err-put_units-2.field-0.0 (g.D.Desk.state c.args.desk.now) (g.D.Desk.state c.put_units.new.desk) (g.D.Desk.state c.put_units-2.new.desk)
    (g.D.Desk.sizes c.args.desk.now) (g.D.Desk.sizes c.put_units.new.desk) (g.D.Desk.sizes c.put_units-2.new.desk) c.in_ok-put_units.ensures.takes c.in_err-put_units-2.ensures.takes)

pub returns-clause-takes : goal.returns-clause-takes
returns-clause-takes g c =
    third-takes (unit_lines c.args.net.now A) (unit_lines c.args.net.now B) (xor_line c.args.net.now) c.args.text.now c.put_units.new.text c.put_units-2.new.text c.put_some_xor.new.text (g.D.Desk.state c.args.desk.now) (g.D.Desk.state c.put_units.new.desk) (g.D.Desk.state c.put_units-2.new.desk) (g.D.Desk.state c.put_some_xor.new.desk)
    (g.D.Desk.sizes c.args.desk.now) (g.D.Desk.sizes c.put_units.new.desk) (g.D.Desk.sizes c.put_units-2.new.desk) (g.D.Desk.sizes c.put_some_xor.new.desk) c.put_some_xor.result
    c.in_ok-put_units.ensures.takes c.in_ok-put_units-2.ensures.takes c.put_some_xor.ensures.takes
