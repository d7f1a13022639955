-- The text so far is taken.
use Rattle.std.proofs.Common.{take}
use Rattle.std.specs.List.{flat_map}
use Rattle.check_session.specs.MiterText.{word_of}
use Rattle.desk_port.proofs.Facts.{Taken}
use Rattle.check_session.proofs.miter_text.put_words.Given as goal

abbrev pub invariant-loop-lit : goal.invariant-loop-lit
invariant-loop-lit g l =
    Taken (flat_map (word_of l.net) (take l.lit-index l.lits)) l.fn.text l.text
    (g.D.Desk.state l.fn.desk) (g.D.Desk.state l.desk) (g.D.Desk.sizes l.fn.desk) (g.D.Desk.sizes l.desk)
