-- The bits so far and those that are left give all bits.
use Rattle.std.proofs.Common.{◌≡◌, ◌+◌, ◌*◌, drop, length}
use Rattle.aiger_binary.specs.Binary.{AreBelow}
use Rattle.workload_gen.specs.Adder.{chosen}
use Rattle.workload_gen.specs.Gates.{next}
use Rattle.workload_gen.proofs.adder.choose.Given as goal

abbrev pub invariant-loop-i : goal.invariant-loop-i
invariant-loop-i l = record {
  rest : chosen l.carry (drop l.i l.ones) (drop l.i l.zeros) l.sums.items l.builder
      ≡ chosen l.carry l.ones l.zeros l.fn.sums.items l.fn.builder;
  below : AreBelow (next l.builder) l.sums.items;
  size : length l.sums.items ≡ length l.fn.sums.items + l.i;
  count : next l.builder ≡ next l.fn.builder + 3 * l.i;
  inputs : l.builder.inputs ≡ l.fn.builder.inputs;
}
