use Rattle.std.proofs.Common.{arith, sym, ◌∙◌}
use Rattle.workload_gen.proofs.SequenceLemmas.{one_output}
use Rattle.workload_gen.proofs.ParityLemmas.{chained-more, chained-end}
use Rattle.workload_gen.proofs.parity.parity_chain.Goals as goal

pub loop-k-preserved : goal.loop-k-preserved
loop-k-preserved c = record {
  rest = sym (chained-more c.args.n c.loop-k.k c.loop-k.c _ c.loop-k.builder c.in_ok-c.c c.xor.new.self c.loop-k-test.true c.input.ensures.literal
      c.in_ok-c.ensures.gate) ∙ c.loop-k.invariant.rest;
  literal = c.in_ok-c.ensures.literal;
  count = omega (arith, c.in_ok-c.ensures.count, c.loop-k.invariant.count);
  inputs = c.in_ok-c.ensures.inputs ∙ c.loop-k.invariant.inputs;
}

pub returns : goal.returns
returns c =
    one_output _ _ _ _ c.loop-k.builder _ c.finish.ensures c.builder-2.view_is c.in_ok-vec.ensures.items
    (sym (chained-end c.args.n c.loop-k.k c.loop-k.c c.loop-k.builder c.loop-k-test.false) ∙ c.loop-k.invariant.rest)
