-- What is still marked stands in the rest of the list.
use Rattle.std.proofs.Common.{◌≡◌, true, drop}
use Rattle.lits.specs.Clause.{has}
use Rattle.lits.specs.Finder.{is_marked}
use Rattle.lits.proofs.marks.Marks.take_back.Given as goal

abbrev pub invariant-loop-lit : goal.invariant-loop-lit
invariant-loop-lit g l =
    (x : g.row.L.Denot) → is_marked l.self.marks.items (g.L.Literal.code x) ≡ true → has g.L.PartialEq.eq (drop l.lit-index l.lits) x ≡ true
