use Rattle.std.proofs.Common.{◌≡◌, ◌∙◌, ◌-◌, arith, refl}
use Rattle.std.proofs.lemmas.Result.{err_from_is_err_and}
use Rattle.aiger_ascii.specs.Ascii.{constraint_at}
use Rattle.aiger_ascii.proofs.LoopLemmas.{lines-step, lines-fault, lines-end}
use Rattle.aiger_ascii.proofs.lines.constraints.Goals as goal

pub loop-init : goal.loop-init
loop-init c = let whole : c.args.count - 0 ≡ c.args.count = omega arith in rw whole (record { rest = refl; count = omega arith })

pub loop-preserved : goal.loop-preserved
loop-preserved c =
    let l = c.loop in
    record {
      rest = l.invariant.rest ∙ lines-step constraint_at c.args.count l.counter c.args.most l.draft c.constraint.new.draft l.scan c.constraint.new.scan c.loop-test.true c.in_ok-constraint.ensures.reads;
      count = omega (arith, c.in_ok-constraint.ensures.count, l.invariant.count);
    }

pub returns-in_err-constraint : goal.returns-in_err-constraint
returns-in_err-constraint c =
    let p = err_from_is_err_and c.from_residual.result c.from_residual.ensures.1 in
    let l = c.loop in
    rw (p.1, p.2, l.invariant.rest) (lines-fault constraint_at c.args.count l.counter c.args.most l.draft l.scan c.in_err-constraint.field-0.0 c.loop-test.true c.in_err-constraint.ensures.reads)

pub returns : goal.returns
returns c = let l = c.loop in l.invariant.rest ∙ lines-end constraint_at c.args.count l.counter c.args.most l.draft l.scan c.loop-test.false
