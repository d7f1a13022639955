use Rattle.std.proofs.Common.{arith}
use Rattle.workload_gen.specs.Gates.{next}
use Rattle.workload_gen.proofs.BelowLemmas.{AreBelow-more, AreBelow-more_ok}
use Rattle.workload_gen.proofs.adder.add_block.Goals as goal

pub choose-requires-clause-zeros : goal.choose-requires-clause-zeros
choose-requires-clause-zeros c =
    rw c.as_slice-2.ensures.value (AreBelow-more (next c.sum_bits.new.builder) (next c.sum_bits-2.new.builder) c.sum_bits.new.sums.items
    c.in_ok-zero.ensures.below (omega (arith, c.in_ok-one.ensures.count)))

pub choose-requires-clause-below : goal.choose-requires-clause-below
choose-requires-clause-below c =
    AreBelow-more (next c.args.builder.now) (next c.sum_bits-2.new.builder) c.args.sums.now.items c.requires.below
    (omega (arith, c.in_ok-zero.ensures.count, c.in_ok-one.ensures.count))

pub returns-clause-below : goal.returns-clause-below
returns-clause-below c =
    AreBelow-more_ok c.mux.result (next c.choose.new.builder) (next c.mux.new.self) 3 c.choose.new.sums.items c.in_ok-choose.ensures.below
    c.mux.ensures.count
