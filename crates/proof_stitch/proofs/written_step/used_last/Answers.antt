use Rattle.std.proofs.Common.{ℕ, Bool, ◌∙◌, sym, ap}
use Rattle.std.specs.Prelude.{filter, ◌==◌}
use Rattle.std.proofs.lemmas.List.{take_all}
use Rattle.std.proofs.lemmas.Bool.{eq-eqb, ne_eqb}
use Rattle.proof_stitch.specs.Table.{number_at}
use Rattle.proof_stitch.proofs.RisingLemmas.{keep-yes, keep-no}
use Rattle.proof_stitch.proofs.written_step.used_last.Goals as goal
use Rattle.proof_stitch.proofs.written_step.used_last.Goals.{then-get-by+in_ok-push, else-get-by}

pub loop-id-preserved : goal.loop-id-preserved
loop-id-preserved c =
    let test : ℕ → Bool = λ n. number_at c.args.marks.now n == c.args.by in
    let i = c.loop-id.id-index in
    elim c.if-get-by.branch [
      | then-get-by+in_ok-push w ↦
          rw (w.found-is, w.in_ok-push.ensures.items)
          (keep-yes test c.args.cited.now c.loop-id.found.items i c.loop-id-test.true
          (eq-eqb _ _ (sym c.get.ensures ∙ w.if-get-by.true)) c.loop-id.invariant)
      | else-get-by w ↦
          rw w.found-is
          (keep-no test c.args.cited.now c.loop-id.found.items i c.loop-id-test.true
          (ne_eqb _ _ (λ e. w.if-get-by.false (c.get.ensures ∙ e))) c.loop-id.invariant)
    ]

pub returns : goal.returns
returns c =
    c.loop-id.invariant
    ∙ ap (filter (λ n. number_at c.args.marks.now n == c.args.by)) (take_all c.loop-id.id-index c.args.cited.now c.loop-id-test.false)
