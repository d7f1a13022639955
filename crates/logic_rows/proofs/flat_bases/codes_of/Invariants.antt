use Rattle.std.proofs.Common.{◌≡◌, take}
use Rattle.std.specs.List.{AllByRecursion}
use Rattle.flat_base.specs.Codes.{IsCode}
use Rattle.flat_base.specs.Flat.{clause_at}
use Rattle.logic_rows.proofs.flat_bases.codes_of.Given as goal

abbrev pub invariant-loop-lit : goal.invariant-loop-lit
invariant-loop-lit g l = record {
  within : AllByRecursion (IsCode l.flat.nodes) l.codes.items;
  lits : clause_at l.flat.nodes l.codes.items ≡ take l.lit-index l.lits;
}
