use Rattle.std.proofs.Common.{◌≡◌, map, take}
use Rattle.std.specs.List.{All}
use Rattle.flat_base.specs.Codes.{lit_at, IsCode}
use Rattle.watch_lists.specs.Trail.{Keeps}
use Rattle.watch_lists.proofs.trail.Trail.codes_of.Given as goal

abbrev pub invariant-loop-lit : goal.invariant-loop-lit
invariant-loop-lit l = record {
  keeps : Keeps l.initial.self (take l.lit-index l.lits) l.self;
  lits : map (lit_at l.self.nodes) l.codes.items ≡ take l.lit-index l.lits;
  codes : All (IsCode l.self.nodes) l.codes.items;
}
