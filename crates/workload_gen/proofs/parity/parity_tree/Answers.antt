use Rattle.std.proofs.Common.{arith, sym, refl, ap, length, ◌∙◌, ◌≡◌}
use Rattle.std.proofs.lemmas.List.FromFn.{length-map-range_with_len}
use Rattle.workload_gen.specs.Gates.{Draft, next, input_literal}
use Rattle.workload_gen.proofs.BelowLemmas.{AreBelow-more}
use Rattle.workload_gen.proofs.SequenceLemmas.{row_output}
use Rattle.workload_gen.proofs.ParityLemmas.{Goes-inputs, Goes-more, Goes-end}
use Rattle.workload_gen.proofs.parity.parity_tree.Goals as goal

pub loop-alloc-init : goal.loop-alloc-init
loop-alloc-init c =
    let size : length c.in_ok-row.row.items ≡ c.args.n =
    ap length c.in_ok-row.ensures.literals ∙ length-map-range_with_len input_literal 0 c.args.n in
    let none = ap (λ (d : Draft). next d) c.new-builder.ensures in
    record {
      rest = Goes-inputs c.args.n _ _ c.in_ok-row.ensures.literals c.new-builder.ensures;
      below = AreBelow-more _ _ c.in_ok-row.row.items c.in_ok-row.ensures.below (omega (arith, none));
      count = omega (arith, none, size);
      inputs = ap (λ (d : Draft). d.inputs) c.new-builder.ensures;
    }

pub loop-alloc-preserved : goal.loop-alloc-preserved
loop-alloc-preserved c =
    let row = c.as_slice.ensures.value in
    let size = ap length row in
    record {
      rest = Goes-more _ c.loop-alloc.row.items c.loop-alloc.builder _ _ _ c.loop-alloc.invariant.rest row (omega (arith, size, c.len.ensures, c.loop-alloc-test.true))
          c.in_ok-row-2.ensures.row c.in_ok-row-2.ensures.size;
      below = c.in_ok-row-2.ensures.below;
      count = omega (arith, c.in_ok-row-2.ensures.count, c.loop-alloc.invariant.count, size);
      inputs = c.in_ok-row-2.ensures.inputs ∙ c.loop-alloc.invariant.inputs;
    }

pub returns : goal.returns
returns c =
    row_output _ _ _ c.loop-alloc.builder _ c.finish.ensures refl
    (sym (Goes-end _ _ _ c.loop-alloc.invariant.rest (omega (arith, c.len.ensures, c.loop-alloc-test.false))))
