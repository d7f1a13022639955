use Rattle.std.proofs.Common.{ℕ, arith, length-drop}
use Rattle.std.proofs.lemmas.List.{take_rest}
use Rattle.std.proofs.lemmas.Result.{err_from_is_err_and}
use Rattle.os_desk.proofs.StreamsLemmas.{Appends-more, Appends-part}
use Rattle.os_desk.proofs.streams.put_all.Goals as goal

pub loop-done-preserved : goal.loop-done-preserved
loop-done-preserved g c =
    let bound = rw (take_rest c.args.bytes.now c.loop-done.done) at c.in_ok-done.ensures.bound in (
      omega (arith, length-drop {A = ℕ}),
      Appends-more _ _ _ c.loop-done.done c.in_ok-done.field-0 c.args.bytes.now c.loop-done.invariant.1
          (rw (take_rest c.args.bytes.now c.loop-done.done) at c.in_ok-done.ensures.ok),
    )

pub returns-in_err-done-clause-part : goal.returns-in_err-done-clause-part
returns-in_err-done-clause-part g c =
    let p = err_from_is_err_and c.from_residual.result c.from_residual.ensures.1 in
    rw p.1 (Appends-part _ _ _ c.loop-done.done c.args.bytes.now c.loop-done.invariant.1 c.in_err-done.ensures.nothing)
