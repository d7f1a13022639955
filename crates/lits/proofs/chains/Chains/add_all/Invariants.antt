-- The index is that of the literals so far.
use Rattle.std.proofs.Common.{◌≡◌, length, take}
use Rattle.lits.specs.Chains.{IsIndex}
use Rattle.lits.proofs.chains.Chains.add_all.Given as goal

abbrev pub invariant-loop-lit : goal.invariant-loop-lit
invariant-loop-lit g l = record {
  index : IsIndex g.L.Literal.code l.self.heads.items l.self.links.items (take l.lit-index l.lits);
  slots : length l.self.heads.items ≡ length l.fn.self.heads.items;
}
