-- The constraints so far are true, and what is known are values.
use Rattle.std.proofs.Common.{◌≡◌, true, take}
use Rattle.std.specs.List.{list_all}
use Rattle.netlist.specs.Net.{bounds_on, lit_holds, value_of}
use Rattle.lemma_book.specs.ConeValue.{AreValues}
use Rattle.lemma_book.proofs.apart.are_met.Given as goal

abbrev pub invariant-loop-k : goal.invariant-loop-k
invariant-loop-k l =
    (AreValues l.known l.net l.input)
    × (list_all (lit_holds (value_of l.net l.input)) (take l.k (bounds_on l.net l.side)) ≡ true)
