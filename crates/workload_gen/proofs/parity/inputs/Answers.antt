use Rattle.std.proofs.Common.{arith, ◌+◌, ◌∷◌, ◌++◌, [], ℕ, List, ◌∙◌, ap, sym, map}
use Rattle.std.specs.List.{range_with_len}
use Rattle.std.proofs.lemmas.List.FromFn.{map-range_with_len_more}
use Rattle.aiger_binary.proofs.Facts.{AreBelow-push}
use Rattle.workload_gen.specs.Gates.{input_literal}
use Rattle.workload_gen.proofs.parity.inputs.Goals as goal

pub loop-k-preserved : goal.loop-k-preserved
loop-k-preserved c =
    let k = c.loop-k.k in
    let items = c.loop-k.inputs.items in
    let pushed = AreBelow-push (c.args.n + 1) items c.input.result c.loop-k.invariant.below (omega (arith, c.input.ensures.var, c.loop-k-test.true)) in
    rw c.in_ok-push.ensures.items (record {
      literals =
          ap (λ (xs : List ℕ). xs ++ c.input.result ∷ []) c.loop-k.invariant.literals
          ∙ ap (λ (x : ℕ). map input_literal (range_with_len 0 k) ++ x ∷ []) c.input.ensures.literal
          ∙ sym (map-range_with_len_more input_literal 0 k k (omega arith));
      below = pushed;
    })
