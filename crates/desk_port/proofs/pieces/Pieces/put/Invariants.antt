-- The bytes before the rest are taken.
use Rattle.std.proofs.Common.{length}
use Rattle.desk_port.proofs.PieceLemmas.{Half}
use Rattle.desk_port.proofs.pieces.Pieces.put.Given as goal

abbrev pub invariant-loop-rest : goal.invariant-loop-rest
invariant-loop-rest g l =
    Half l.fn.bytes l.rest l.fn.self l.self (g.D.Desk.state l.fn.desk) (g.D.Desk.state l.desk)
    (g.D.Desk.sizes l.fn.desk) (g.D.Desk.sizes l.desk)

abbrev pub decreases-loop-rest : goal.decreases-loop-rest
decreases-loop-rest g l = length l.rest
