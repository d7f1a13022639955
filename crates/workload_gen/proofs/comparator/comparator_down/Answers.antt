use Rattle.std.proofs.Common.{arith, sym, refl, ◌∙◌, ◌-◌}
use Rattle.workload_gen.proofs.SequenceLemmas.{one_output}
use Rattle.workload_gen.proofs.ComparatorLemmas.{lowered-more, lowered-end}
use Rattle.workload_gen.proofs.comparator.comparator_down.Goals as goal

pub loop-i-preserved : goal.loop-i-preserved
loop-i-preserved c = record {
  rest = sym (lowered-more c.args.n c.loop-i.i (c.args.n - 1 - c.loop-i.i) c.loop-i.equal c.loop-i.less c.loop-i.builder c.lower.new.builder
      c.in_ok-equal.field-0-0 c.in_ok-equal.field-0-1 c.loop-i-test.true refl c.in_ok-equal.ensures.gates) ∙ c.loop-i.invariant.rest;
  equal = c.in_ok-equal.ensures.literals.0;
  less = c.in_ok-equal.ensures.literals.1;
  count = omega (arith, c.in_ok-equal.ensures.count, c.loop-i.invariant.count);
  inputs = c.in_ok-equal.ensures.inputs ∙ c.loop-i.invariant.inputs;
}

pub returns : goal.returns
returns c =
    one_output _ _ _ _ c.loop-i.builder _ c.finish.ensures c.builder-2.view_is c.in_ok-vec.ensures.items
    (sym (lowered-end c.args.n c.loop-i.i c.loop-i.equal c.loop-i.less c.loop-i.builder c.loop-i-test.false) ∙ c.loop-i.invariant.rest)
