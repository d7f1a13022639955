use Rattle.std.proofs.Common.{arith, sym, refl, ◌∙◌, ◌+◌, ◌*◌, ◌/◌}
use Rattle.aiger_binary.proofs.Facts.{AreBelow-push}
use Rattle.workload_gen.specs.Gates.{next}
use Rattle.workload_gen.proofs.AdderLemmas.{blocks-more, blocks-end}
use Rattle.workload_gen.proofs.SequenceLemmas.{last_output}
use Rattle.workload_gen.proofs.adder.select_adder.Goals as goal

pub loop-block-preserved : goal.loop-block-preserved
loop-block-preserved c = record {
  rest = sym (blocks-more c.args.n ((c.args.n + 3) / 4) c.loop-block.block (4 * c.loop-block.block) c.min-to.result c.loop-block.sums.items
      c.loop-block.carry c.loop-block.builder c.add_block.new.sums.items c.in_ok-carry.carry c.add_block.new.builder
      (omega (arith, c.loop-block-test.true, c.div_ceil-block-end.ensures)) refl (omega (arith, c.min-to.ensures)) c.in_ok-carry.ensures.sums)
      ∙ c.loop-block.invariant.rest;
  literal = c.in_ok-carry.ensures.literal;
  below = c.in_ok-carry.ensures.below;
  size = omega (arith, c.in_ok-carry.ensures.size, c.loop-block.invariant.size, c.min-to.ensures, c.loop-block-test.true, c.div_ceil-block-end.ensures);
  count = omega (arith, c.in_ok-carry.ensures.count, c.loop-block.invariant.count);
  inputs = c.in_ok-carry.ensures.inputs ∙ c.loop-block.invariant.inputs;
}

pub finish-requires-clause-below : goal.finish-requires-clause-below
finish-requires-clause-below c =
    rw c.in_ok-push.ensures.items (AreBelow-push (next c.loop-block.builder) c.loop-block.sums.items c.loop-block.carry
    c.loop-block.invariant.below c.loop-block.invariant.literal)

pub returns : goal.returns
returns c =
    last_output _ _ _ _ _ c.loop-block.builder _ c.finish.ensures refl c.in_ok-push.ensures.items
    (sym (blocks-end c.args.n ((c.args.n + 3) / 4) c.loop-block.block c.loop-block.sums.items c.loop-block.carry c.loop-block.builder
    (omega (arith, c.loop-block-test.false, c.div_ceil-block-end.ensures))) ∙ c.loop-block.invariant.rest)
