-- The text so far is taken.
use Rattle.std.proofs.Common.{take}
use Rattle.std.specs.List.{flat_map}
use Rattle.netlist.specs.Net.{bounds_on}
use Rattle.netlist.specs.Miter.{unit}
use Rattle.check_session.specs.MiterText.{line_of}
use Rattle.desk_port.proofs.Facts.{Taken}
use Rattle.check_session.proofs.miter_text.put_units.Given as goal

abbrev pub invariant-loop-k : goal.invariant-loop-k
invariant-loop-k g l =
    Taken (flat_map (λ lit. line_of l.net (unit lit)) (take l.k (bounds_on l.net l.fn.side))) l.fn.text l.text
    (g.D.Desk.state l.fn.desk) (g.D.Desk.state l.desk) (g.D.Desk.sizes l.fn.desk) (g.D.Desk.sizes l.desk)
