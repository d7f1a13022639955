-- The text so far is taken.
use Rattle.std.proofs.Common.{take}
use Rattle.std.specs.List.{flat_map}
use Rattle.netlist.specs.Miter.{axioms_of}
use Rattle.check_session.specs.MiterText.{line_of}
use Rattle.desk_port.proofs.Facts.{Taken}
use Rattle.check_session.proofs.miter_text.put_axioms.Given as goal

abbrev pub invariant-loop-axiom : goal.invariant-loop-axiom
invariant-loop-axiom g l =
    Taken (flat_map (line_of l.net) (take l.axiom-index (axioms_of l.net l.fn.node))) l.fn.text l.text
    (g.D.Desk.state l.fn.desk) (g.D.Desk.state l.desk) (g.D.Desk.sizes l.fn.desk) (g.D.Desk.sizes l.desk)
