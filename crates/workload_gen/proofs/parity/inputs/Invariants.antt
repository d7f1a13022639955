use Rattle.std.proofs.Common.{◌≡◌, ◌+◌, map}
use Rattle.std.specs.List.{range_with_len}
use Rattle.aiger_binary.specs.Binary.{AreBelow}
use Rattle.workload_gen.specs.Gates.{input_literal}
use Rattle.workload_gen.proofs.parity.inputs.Given as goal

abbrev pub invariant-loop-k : goal.invariant-loop-k
invariant-loop-k l = record {
  literals : l.inputs.items ≡ map input_literal (range_with_len 0 l.k);
  below : AreBelow (l.n + 1) l.inputs.items;
}
