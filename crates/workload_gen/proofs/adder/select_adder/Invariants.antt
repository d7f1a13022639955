-- The blocks so far and those that are left give all sums.
use Rattle.std.proofs.Common.{◌≡◌, ◌+◌, ◌-◌, ◌*◌, ◌/◌, ◌<◌, ◌≤◌, [], length, min}
use Rattle.netlist.specs.Circuit.{var_of}
use Rattle.aiger_binary.specs.Binary.{AreBelow}
use Rattle.workload_gen.specs.Adder.{blocks}
use Rattle.workload_gen.specs.Gates.{next, start}
use Rattle.workload_gen.proofs.adder.select_adder.Given as goal

abbrev pub invariant-loop-block : goal.invariant-loop-block
invariant-loop-block l = record {
  rest : blocks l.n ((l.n + 3) / 4 - l.block) (4 * l.block) l.sums.items l.carry l.builder
      ≡ blocks l.n ((l.n + 3) / 4) 0 [] 0 (start (2 * l.n));
  literal : var_of l.carry < next l.builder;
  below : AreBelow (next l.builder) l.sums.items;
  size : length l.sums.items ≡ min l.n (4 * l.block);
  count : next l.builder ≤ 2 * l.n + 1 + 87 * l.block;
  inputs : l.builder.inputs ≡ 2 * l.n;
}
