-- The text so far is taken.
use Rattle.std.proofs.Common.{take}
use Rattle.std.specs.List.{flat_map}
use Rattle.netlist.specs.Miter.{positive, xors_of}
use Rattle.check_session.specs.MiterText.{word_of}
use Rattle.desk_port.proofs.Facts.{Taken}
use Rattle.check_session.proofs.miter_text.put_xor_words.Given as goal

abbrev pub invariant-loop-j : goal.invariant-loop-j
invariant-loop-j g l =
    Taken (flat_map (λ x. word_of l.net (positive x)) (take l.j (xors_of l.net))) l.fn.text l.text
    (g.D.Desk.state l.fn.desk) (g.D.Desk.state l.desk) (g.D.Desk.sizes l.fn.desk) (g.D.Desk.sizes l.desk)
