-- The items so far are copied by numbers, and those that stood at the start stay.
use Rattle.std.proofs.Common.{map, take}
use Rattle.lrat_checker.specs.Renamed.{Extends, ByNumbers, number_in}
use Rattle.lrat_checker.proofs.renumber.Numbers.clauses.Given as goal

abbrev pub invariant-loop-clause : goal.invariant-loop-clause
invariant-loop-clause l = record {
  others : Extends (number_in l.fn.self) (number_in l.self);
  copied : ByNumbers map (number_in l.self) (take l.clause-index l.clauses) l.copy.items;
}
