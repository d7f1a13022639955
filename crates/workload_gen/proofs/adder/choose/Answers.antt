use Rattle.std.proofs.Common.{arith, sym, ◌∙◌, ◌∷◌, [], length-append}
use Rattle.aiger_binary.proofs.Facts.{AreBelow-push}
use Rattle.workload_gen.specs.Gates.{next}
use Rattle.workload_gen.proofs.BelowLemmas.{AreBelow-more, AreBelow-at}
use Rattle.workload_gen.proofs.AdderLemmas.{chosen-more, chosen-end}
use Rattle.workload_gen.proofs.adder.choose.Goals as goal

pub mux-requires-clause-x : goal.mux-requires-clause-x
mux-requires-clause-x c =
    AreBelow-at (next c.loop-i.builder) c.args.ones.now c.loop-i.i
    (AreBelow-more (next c.args.builder.now) (next c.loop-i.builder) c.args.ones.now c.requires.ones (omega (arith, c.loop-i.invariant.count)))
    c.loop-i-test.true

pub mux-requires-clause-y : goal.mux-requires-clause-y
mux-requires-clause-y c =
    AreBelow-at (next c.loop-i.builder) c.args.zeros.now c.loop-i.i
    (AreBelow-more (next c.args.builder.now) (next c.loop-i.builder) c.args.zeros.now c.requires.zeros (omega (arith, c.loop-i.invariant.count)))
    (omega (arith, c.loop-i-test.true, c.requires.same))

pub loop-i-preserved : goal.loop-i-preserved
loop-i-preserved c =
    let sums = c.loop-i.sums.items in
    let bit = c.in_ok-bit.bit in
    let below = AreBelow-more (next c.loop-i.builder) (next c.mux.new.self) sums c.loop-i.invariant.below (omega (arith, c.in_ok-bit.ensures.count)) in
    let pushed = AreBelow-push (next c.mux.new.self) sums bit below c.in_ok-bit.ensures.literal in
    let step = chosen-more c.args.carry c.loop-i.i c.args.ones.now c.args.zeros.now sums c.loop-i.builder bit c.mux.new.self
    c.loop-i-test.true c.requires.same c.in_ok-bit.ensures.gate in
    rw c.in_ok-push.ensures.items (record {
      rest = sym step ∙ c.loop-i.invariant.rest;
      below = pushed;
      size = omega (arith, c.loop-i.invariant.size, length-append sums (bit ∷ []));
      count = omega (arith, c.loop-i.invariant.count, c.in_ok-bit.ensures.count);
      inputs = c.in_ok-bit.ensures.inputs ∙ c.loop-i.invariant.inputs;
    })

pub returns-clause-sums : goal.returns-clause-sums
returns-clause-sums c =
    sym (chosen-end c.args.carry c.loop-i.i c.args.ones.now c.args.zeros.now c.loop-i.sums.items c.loop-i.builder c.loop-i-test.false)
    ∙ c.loop-i.invariant.rest
