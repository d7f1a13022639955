use Rattle.std.proofs.Common.{refl}
use Rattle.aiger_binary.proofs.Facts.{AreBelow-push}
use Rattle.workload_gen.specs.Gates.{next}
use Rattle.workload_gen.proofs.AdderLemmas.{summed-whole}
use Rattle.workload_gen.proofs.SequenceLemmas.{last_output}
use Rattle.workload_gen.proofs.adder.ripple_adder.Goals as goal

pub finish-requires-clause-below : goal.finish-requires-clause-below
finish-requires-clause-below c =
    rw c.in_ok-push.ensures.items (AreBelow-push (next c.sum_bits.new.builder) c.sum_bits.new.sums.items c.in_ok-carry.carry
    c.in_ok-carry.ensures.below c.in_ok-carry.ensures.literal)

pub returns : goal.returns
returns c =
    last_output _ _ _ _ _ c.sum_bits.new.builder _ c.finish.ensures refl c.in_ok-push.ensures.items
    (summed-whole c.args.n _ _ _ c.in_ok-carry.ensures.sums c.new-sums.ensures.items c.new-builder.ensures)
