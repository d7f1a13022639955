-- What is joined so far and the inputs that are left give the whole chain.
use Rattle.std.proofs.Common.{◌≡◌, ◌+◌, ◌-◌, ◌*◌, ◌<◌}
use Rattle.netlist.specs.Circuit.{var_of}
use Rattle.workload_gen.specs.Gates.{next, start, input_literal}
use Rattle.workload_gen.specs.Parity.{chained}
use Rattle.workload_gen.proofs.parity.parity_chain.Given as goal

abbrev pub invariant-loop-k : goal.invariant-loop-k
invariant-loop-k l = record {
  rest : chained (l.n - l.k) l.k l.c l.builder ≡ chained (l.n - 1) 1 (input_literal 0) (start l.n);
  literal : var_of l.c < next l.builder;
  count : next l.builder + 3 ≡ l.n + 1 + 3 * l.k;
  inputs : l.builder.inputs ≡ l.n;
}
