use Rattle.std.proofs.Common.{◌∙◌, ◌+◌, true, false, sym}
use Rattle.unit_prop.proofs.StepLemmas.{fault-behind, fault-behind_all}
use Rattle.unit_prop.proofs.step_check.StepCheck.fault_of.Goals as goal

pub loop-i-preserved : goal.loop-i-preserved
loop-i-preserved g c =
    c.loop-i.invariant
    ∙ fault-behind _ _ _ c.args.hints.now c.loop-i.i (c.loop-i.i + 1) c.index-hints-i.result c.loop-i.self c.take_hint.new.self c.loop-i-test.true c.index-hints-i.is
    c.in_default-take_hint.ensures.ok

pub returns-in-Ok : goal.returns-in-Ok
returns-in-Ok g c =
    sym (c.loop-i.invariant ∙ fault-behind_all _ _ _ c.args.hints.now c.loop-i.i (c.loop-i.i + 1) c.loop-i.self true c.loop-i-test.false c.in-Ok.ensures.ok)

pub returns-in-Err-end : goal.returns-in-Err-end
returns-in-Err-end g c =
    rw c.in-Err-end.ensures.bad
    (sym (c.loop-i.invariant ∙ fault-behind_all _ _ _ c.args.hints.now c.loop-i.i (c.loop-i.i + 1) c.loop-i.self false c.loop-i-test.false c.in-Err-end.ensures.not_false))
