-- The items so far are copied by numbers, and those that stood at the start stay.
use Rattle.std.proofs.Common.{take}
use Rattle.lrat_checker.specs.Renamed.{Extends, ByNumbers, number_in}
use Rattle.lrat_checker.proofs.renumber.Numbers.clause.Given as goal

abbrev pub invariant-loop-literal : goal.invariant-loop-literal
invariant-loop-literal l = record {
  others : Extends (number_in l.fn.self) (number_in l.self);
  copied : ByNumbers (λ f x. f x) (number_in l.self) (take l.literal-index l.clause) l.copy.items;
}
