use Rattle.std.proofs.Common.{◌≡◌, map, take}
use Rattle.flat_base.specs.Flat.{named_by}
use Rattle.flat_base.proofs.flat_base.FlatBase.listed.Given as goal

abbrev pub invariant-loop-number : goal.invariant-loop-number
invariant-loop-number l = l.listed.items ≡ map (named_by l.self.nodes) (take l.number l.self.clauses)
