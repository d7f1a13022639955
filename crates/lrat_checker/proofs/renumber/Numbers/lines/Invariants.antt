-- The items so far are copied by numbers, and those that stood at the start stay.
use Rattle.std.proofs.Common.{take}
use Rattle.lrat_checker.specs.Renamed.{Extends, ByNumbers, renamed_line, number_in}
use Rattle.lrat_checker.proofs.renumber.Numbers.lines.Given as goal

abbrev pub invariant-loop-line : goal.invariant-loop-line
invariant-loop-line l = record {
  others : Extends (number_in l.fn.self) (number_in l.self);
  copied : ByNumbers renamed_line (number_in l.self) (take l.line-index l.lines) l.copy.items;
}
