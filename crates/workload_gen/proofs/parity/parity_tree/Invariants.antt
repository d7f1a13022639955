-- The rounds that are left give the whole tree.
use Rattle.std.proofs.Common.{◌≡◌, ◌+◌, ◌*◌, length}
use Rattle.aiger_binary.specs.Binary.{AreBelow}
use Rattle.workload_gen.specs.Gates.{next, start}
use Rattle.workload_gen.specs.Parity.{parity_tree}
use Rattle.workload_gen.proofs.ParityLemmas.{Goes}
use Rattle.workload_gen.proofs.parity.parity_tree.Given as goal

abbrev pub invariant-loop-alloc : goal.invariant-loop-alloc
invariant-loop-alloc l = record {
  rest : Goes l.row.items l.builder (parity_tree l.n (start l.n));
  below : AreBelow (next l.builder) l.row.items;
  count : next l.builder + 3 * length l.row.items ≡ 4 * l.n + 1;
  inputs : l.builder.inputs ≡ l.n;
}

abbrev pub decreases-loop-alloc : goal.decreases-loop-alloc
decreases-loop-alloc l = length l.row.items
