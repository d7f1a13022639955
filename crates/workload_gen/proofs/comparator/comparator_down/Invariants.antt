-- What was found so far and the bits that are left give the whole comparison.
use Rattle.std.proofs.Common.{◌≡◌, ◌+◌, ◌-◌, ◌*◌, ◌<◌}
use Rattle.netlist.specs.Circuit.{var_of}
use Rattle.workload_gen.specs.Comparator.{lowered}
use Rattle.workload_gen.specs.Gates.{next, start}
use Rattle.workload_gen.proofs.comparator.comparator_down.Given as goal

abbrev pub invariant-loop-i : goal.invariant-loop-i
invariant-loop-i l = record {
  rest : lowered l.n (l.n - l.i) l.equal l.less l.builder ≡ lowered l.n l.n 1 0 (start (2 * l.n));
  equal : var_of l.equal < next l.builder;
  less : var_of l.less < next l.builder;
  count : next l.builder ≡ 2 * l.n + 1 + 7 * l.i;
  inputs : l.builder.inputs ≡ 2 * l.n;
}
