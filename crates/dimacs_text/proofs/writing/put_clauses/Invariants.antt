-- The clauses so far are taken.
use Rattle.std.proofs.Common.{take}
use Rattle.std.specs.List.{flat_map}
use Rattle.desk_port.proofs.Facts.{Taken}
use Rattle.dimacs_text.specs.CnfText.{clause_text}
use Rattle.dimacs_text.proofs.writing.put_clauses.Given as goal

abbrev pub invariant-loop-clause : goal.invariant-loop-clause
invariant-loop-clause g l =
    Taken (flat_map clause_text (take l.clause-index l.clauses)) l.fn.text l.text (g.D.Desk.state l.fn.desk)
    (g.D.Desk.state l.desk) (g.D.Desk.sizes l.fn.desk) (g.D.Desk.sizes l.desk)
