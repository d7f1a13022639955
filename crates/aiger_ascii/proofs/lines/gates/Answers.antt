use Rattle.std.proofs.Common.{◌≡◌, ◌∙◌, ◌-◌, arith, refl}
use Rattle.std.proofs.lemmas.Result.{err_from_is_err_and}
use Rattle.aiger_ascii.specs.Ascii.{gate_at}
use Rattle.aiger_ascii.proofs.LoopLemmas.{lines-step, lines-fault, lines-end}
use Rattle.aiger_ascii.proofs.lines.gates.Goals as goal

pub loop-init : goal.loop-init
loop-init c = let whole : c.args.count - 0 ≡ c.args.count = omega arith in rw whole (record { rest = refl })

pub loop-preserved : goal.loop-preserved
loop-preserved c =
    let l = c.loop in
    record {
      rest = l.invariant.rest ∙ lines-step gate_at c.args.count l.counter c.args.most l.draft c.gate.new.draft l.scan c.gate.new.scan c.loop-test.true c.in_ok-gate.ensures;
    }

pub returns-in_err-gate : goal.returns-in_err-gate
returns-in_err-gate c =
    let p = err_from_is_err_and c.from_residual.result c.from_residual.ensures.1 in
    let l = c.loop in
    rw (p.1, p.2, l.invariant.rest) (lines-fault gate_at c.args.count l.counter c.args.most l.draft l.scan c.in_err-gate.field-0.0 c.loop-test.true c.in_err-gate.ensures)

pub returns : goal.returns
returns c = let l = c.loop in l.invariant.rest ∙ lines-end gate_at c.args.count l.counter c.args.most l.draft l.scan c.loop-test.false
