-- The sums so far and the bits that are left give all sums.
use Rattle.std.proofs.Common.{◌≡◌, ◌+◌, ◌-◌, ◌*◌, ◌<◌, length}
use Rattle.netlist.specs.Circuit.{var_of}
use Rattle.aiger_binary.specs.Binary.{AreBelow}
use Rattle.workload_gen.specs.Adder.{summed}
use Rattle.workload_gen.specs.Gates.{next}
use Rattle.workload_gen.proofs.adder.sum_bits.Given as goal

abbrev pub invariant-loop-k : goal.invariant-loop-k
invariant-loop-k l = record {
  rest : summed l.bits.n (l.bits.to - l.k) l.k l.sums.items l.last l.builder
      ≡ summed l.bits.n (l.bits.to - l.bits.from) l.bits.from l.fn.sums.items l.carry l.fn.builder;
  literal : var_of l.last < next l.builder;
  below : AreBelow (next l.builder) l.sums.items;
  size : length l.sums.items + l.bits.from ≡ length l.fn.sums.items + l.k;
  count : next l.builder + 9 * l.bits.from ≡ next l.fn.builder + 9 * l.k;
  inputs : l.builder.inputs ≡ l.fn.builder.inputs;
}
