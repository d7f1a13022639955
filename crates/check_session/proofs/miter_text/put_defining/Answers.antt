use Rattle.std.proofs.Common.{◌++◌, List, ℕ, sym, subst}
use Rattle.std.proofs.lemmas.Result.{err_from_is_err_and}
use Rattle.std.specs.List.{flat_map}
use Rattle.netlist.specs.Net.{nodes_of}
use Rattle.netlist.specs.Miter.{xors_of}
use Rattle.check_session.specs.MiterText.{node_lines}
use Rattle.desk_port.specs.Pieces.{StopsInPieces, Takes}
use Rattle.desk_port.proofs.Facts.{stops-first, takes-then}
use Rattle.check_session.proofs.miter_text.put_defining.Goals as goal

pub returns-in_err-put_nodes-clause-takes : goal.returns-in_err-put_nodes-clause-takes
returns-in_err-put_nodes-clause-takes g c =
    let p = err_from_is_err_and c.from_residual.result c.from_residual.ensures.1 in
    rw (p.1, p.2)
    (stops-first (flat_map (node_lines c.args.net.now) (nodes_of c.args.net.now)) (flat_map (node_lines c.args.net.now) (xors_of c.args.net.now)) c.args.text.now c.in_err-put_nodes.field-0.0 (g.D.Desk.state c.args.desk.now) (g.D.Desk.state c.put_nodes.new.desk) (g.D.Desk.sizes c.args.desk.now) (g.D.Desk.sizes c.put_nodes.new.desk)
    c.in_err-put_nodes.ensures.takes)

pub returns-clause-takes : goal.returns-clause-takes
returns-clause-takes g c =
    takes-then (flat_map (node_lines c.args.net.now) (nodes_of c.args.net.now)) (flat_map (node_lines c.args.net.now) (xors_of c.args.net.now)) c.args.text.now c.put_nodes.new.text c.put_xors.new.text (g.D.Desk.state c.args.desk.now) (g.D.Desk.state c.put_nodes.new.desk) (g.D.Desk.state c.put_xors.new.desk)
    (g.D.Desk.sizes c.args.desk.now) (g.D.Desk.sizes c.put_nodes.new.desk) (g.D.Desk.sizes c.put_xors.new.desk)
    c.put_xors.result c.in_ok-put_nodes.ensures.takes c.put_xors.ensures.takes
