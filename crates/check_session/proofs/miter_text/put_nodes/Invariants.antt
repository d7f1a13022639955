-- The text so far is taken.
use Rattle.std.proofs.Common.{take}
use Rattle.std.specs.List.{flat_map}
use Rattle.netlist.specs.Net.{nodes_of}
use Rattle.check_session.specs.MiterText.{node_lines}
use Rattle.desk_port.proofs.Facts.{Taken}
use Rattle.check_session.proofs.miter_text.put_nodes.Given as goal

abbrev pub invariant-loop-position : goal.invariant-loop-position
invariant-loop-position g l =
    Taken (flat_map (node_lines l.net) (take l.position (nodes_of l.net))) l.fn.text l.text
    (g.D.Desk.state l.fn.desk) (g.D.Desk.state l.desk) (g.D.Desk.sizes l.fn.desk) (g.D.Desk.sizes l.desk)
