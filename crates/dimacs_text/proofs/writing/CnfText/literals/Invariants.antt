-- The literals so far are taken.
use Rattle.std.proofs.Common.{take}
use Rattle.std.specs.List.{flat_map}
use Rattle.desk_port.proofs.Facts.{Taken}
use Rattle.dimacs_text.specs.CnfText.{literal_word}
use Rattle.dimacs_text.proofs.writing.CnfText.literals.Given as goal

abbrev pub invariant-loop-literal : goal.invariant-loop-literal
invariant-loop-literal g l =
    Taken (flat_map literal_word (take l.literal-index l.literals)) l.fn.self l.self (g.D.Desk.state l.fn.desk)
    (g.D.Desk.state l.desk) (g.D.Desk.sizes l.fn.desk) (g.D.Desk.sizes l.desk)
