-- What was found so far and the bits that are left give the whole comparison.
use Rattle.std.proofs.Common.{◌≡◌, ◌+◌, ◌-◌, ◌*◌, ◌<◌}
use Rattle.netlist.specs.Circuit.{var_of}
use Rattle.workload_gen.specs.Comparator.{raised}
use Rattle.workload_gen.specs.Gates.{next, start}
use Rattle.workload_gen.proofs.comparator.comparator_up.Given as goal

abbrev pub invariant-loop-k : goal.invariant-loop-k
invariant-loop-k l = record {
  rest : raised l.n (l.n - l.k) l.k l.less l.builder ≡ raised l.n l.n 0 0 (start (2 * l.n));
  literal : var_of l.less < next l.builder;
  count : next l.builder ≡ 2 * l.n + 1 + 6 * l.k;
  inputs : l.builder.inputs ≡ 2 * l.n;
}
