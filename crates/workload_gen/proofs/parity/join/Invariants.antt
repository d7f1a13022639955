-- What is joined so far and what is left give the whole row.
use Rattle.std.proofs.Common.{◌≡◌, ◌+◌, ◌*◌, [], length, drop}
use Rattle.aiger_binary.specs.Binary.{AreBelow}
use Rattle.workload_gen.specs.Gates.{next}
use Rattle.workload_gen.specs.Parity.{joined}
use Rattle.workload_gen.proofs.parity.join.Given as goal

abbrev pub invariant-loop-i : goal.invariant-loop-i
invariant-loop-i l = record {
  rest : joined l.joined.items (drop (2 * l.i) l.row) l.builder ≡ joined [] l.row l.fn.builder;
  below : AreBelow (next l.builder) l.joined.items;
  size : length l.joined.items ≡ l.i;
  count : next l.builder ≡ next l.fn.builder + 3 * l.i;
  inputs : l.builder.inputs ≡ l.fn.builder.inputs;
}
