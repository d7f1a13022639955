use Rattle.std.proofs.Common.{arith, sym, ◌∙◌, ◌∷◌, [], length-append}
use Rattle.aiger_binary.proofs.Facts.{AreBelow-push}
use Rattle.workload_gen.specs.Gates.{next}
use Rattle.workload_gen.proofs.BelowLemmas.{AreBelow-more}
use Rattle.workload_gen.proofs.AdderLemmas.{summed-more, summed-end}
use Rattle.workload_gen.proofs.adder.sum_bits.Goals as goal

pub loop-k-preserved : goal.loop-k-preserved
loop-k-preserved c =
    let items = c.loop-k.sums.items in
    let sum = c.in_ok-sum.sum in
    let below = AreBelow-more (next c.loop-k.builder) (next c.full.new.self) items c.loop-k.invariant.below (omega (arith, c.in_ok-sum.ensures.count)) in
    let pushed = AreBelow-push (next c.full.new.self) items sum below c.in_ok-sum.ensures.literals.0 in
    let step = summed-more c.args.bits.n c.args.bits.to c.loop-k.k items _ _ c.loop-k.last c.loop-k.builder sum c.in_ok-sum.more c.full.new.self
    c.loop-k-test.true c.input.ensures.literal c.input-in-loop-k.ensures.literal c.in_ok-sum.ensures.gates in
    rw c.in_ok-push.ensures.items (record {
      rest = sym step ∙ c.loop-k.invariant.rest;
      literal = c.in_ok-sum.ensures.literals.1;
      below = pushed;
      size = omega (arith, c.loop-k.invariant.size, length-append items (sum ∷ []));
      count = omega (arith, c.loop-k.invariant.count, c.in_ok-sum.ensures.count);
      inputs = c.in_ok-sum.ensures.inputs ∙ c.loop-k.invariant.inputs;
    })

pub returns-clause-sums : goal.returns-clause-sums
returns-clause-sums c =
    sym (summed-end c.args.bits.n c.args.bits.to c.loop-k.k c.loop-k.sums.items c.loop-k.last c.loop-k.builder c.loop-k-test.false)
    ∙ c.loop-k.invariant.rest
