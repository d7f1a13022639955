use Rattle.std.proofs.Common.{◌≡◌, map, take}
use Rattle.flat_base.specs.Codes.{lit_at}
use Rattle.flat_base.proofs.flat_base.clause_of.Given as goal

abbrev pub invariant-loop-code : goal.invariant-loop-code
invariant-loop-code l = l.lits.items ≡ map (lit_at l.nodes) (take l.code-index l.codes)
