use Rattle.std.proofs.Common.{arith, sym, ◌∙◌}
use Rattle.workload_gen.proofs.SequenceLemmas.{one_output}
use Rattle.workload_gen.proofs.ComparatorLemmas.{raised-more, raised-end}
use Rattle.workload_gen.proofs.comparator.comparator_up.Goals as goal

pub loop-k-preserved : goal.loop-k-preserved
loop-k-preserved c = record {
  rest = sym (raised-more c.args.n c.loop-k.k c.loop-k.less c.loop-k.builder c.raise.new.builder c.in_ok-less.less c.loop-k-test.true c.in_ok-less.ensures.gates)
      ∙ c.loop-k.invariant.rest;
  literal = c.in_ok-less.ensures.literal;
  count = omega (arith, c.in_ok-less.ensures.count, c.loop-k.invariant.count);
  inputs = c.in_ok-less.ensures.inputs ∙ c.loop-k.invariant.inputs;
}

pub returns : goal.returns
returns c =
    one_output _ _ _ _ c.loop-k.builder _ c.finish.ensures c.builder-2.view_is c.in_ok-vec.ensures.items
    (sym (raised-end c.args.n c.loop-k.k c.loop-k.less c.loop-k.builder c.loop-k-test.false) ∙ c.loop-k.invariant.rest)
