use Rattle.std.proofs.Common.{arith, sym, refl, ap, subst, ◌∙◌, ◌≡◌, ◌+◌, ◌-◌, ◌*◌, ◌/◌, ◌∷◌, ◌++◌, [], List, ℕ, length, drop, length-append, length-drop}
use Rattle.std.proofs.lemmas.List.{take_all}
use Rattle.aiger_binary.specs.Binary.{AreBelow}
use Rattle.aiger_binary.proofs.Facts.{AreBelow-push}
use Rattle.workload_gen.specs.Gates.{next}
use Rattle.workload_gen.proofs.BelowLemmas.{AreBelow-more, AreBelow-at, AreBelow-append, AreBelow-drop}
use Rattle.workload_gen.proofs.ParityLemmas.{joined-more, joined-all}
use Rattle.workload_gen.proofs.parity.join.Goals as goal

pub xor-requires-clause-x : goal.xor-requires-clause-x
xor-requires-clause-x c =
    AreBelow-at (next c.loop-i.builder) c.args.row.now (2 * c.loop-i.i)
    (AreBelow-more (next c.args.builder.now) (next c.loop-i.builder) c.args.row.now c.requires.below (omega (arith, c.loop-i.invariant.count)))
    (omega (arith, c.loop-i-test.true))

pub xor-requires-clause-y : goal.xor-requires-clause-y
xor-requires-clause-y c =
    AreBelow-at (next c.loop-i.builder) c.args.row.now (2 * c.loop-i.i + 1)
    (AreBelow-more (next c.args.builder.now) (next c.loop-i.builder) c.args.row.now c.requires.below (omega (arith, c.loop-i.invariant.count)))
    (omega (arith, c.loop-i-test.true))

pub loop-i-preserved : goal.loop-i-preserved
loop-i-preserved c =
    let items = c.loop-i.joined.items in
    let pair = c.in_ok-pair.pair in
    let below = AreBelow-more (next c.loop-i.builder) (next c.xor.new.self) items c.loop-i.invariant.below (omega (arith, c.in_ok-pair.ensures.count)) in
    let pushed = AreBelow-push (next c.xor.new.self) items pair below c.in_ok-pair.ensures.literal in
    let step = joined-more items c.args.row.now c.loop-i.i c.loop-i.builder pair c.xor.new.self (omega (arith, c.loop-i-test.true))
    c.in_ok-pair.ensures.gate in
    rw c.in_ok-push.ensures.items (record {
      rest = sym step ∙ c.loop-i.invariant.rest;
      below = pushed;
      size = omega (arith, c.loop-i.invariant.size, length-append items (pair ∷ []));
      count = omega (arith, c.loop-i.invariant.count, c.in_ok-pair.ensures.count);
      inputs = c.in_ok-pair.ensures.inputs ∙ c.loop-i.invariant.inputs;
    })

pub returns : goal.returns
returns c =
    let items = c.in_ok-extend_from_slice.ensures.items in
    let row = c.args.row.now in
    let j = length row / 2 * 2 in
    let done = c.loop-i.joined.items in
    let odd = take_all (length row - j) (drop j row) (omega (arith, length-drop j row)) in
    let new : c.extend_from_slice.new.self.items ≡ done ++ drop j row = items ∙ ap (λ (l : List ℕ). done ++ l) odd in
    let size = ap length new ∙ length-append done (drop j row) in
    let rest = AreBelow-drop (next c.loop-i.builder) j row
    (AreBelow-more (next c.args.builder.now) (next c.loop-i.builder) row c.requires.below (omega (arith, c.loop-i.invariant.count))) in
    record {
      row =
          sym (joined-all done row _ c.loop-i.i j c.loop-i.builder c.loop-i-test.false c.loop-i.auto.i-end refl items)
          ∙ c.loop-i.invariant.rest;
      below = subst (λ (l : List ℕ). AreBelow (next c.loop-i.builder) l) (sym new)
          (AreBelow-append (next c.loop-i.builder) done (drop j row) c.loop-i.invariant.below rest);
      size = omega (arith, size, length-drop j row, c.loop-i.invariant.size, c.loop-i-test.false, c.loop-i.auto.i-end);
      count = omega (arith, size, length-drop j row, c.loop-i.invariant.size, c.loop-i.invariant.count, c.loop-i-test.false, c.loop-i.auto.i-end);
      inputs = c.loop-i.invariant.inputs;
    }
