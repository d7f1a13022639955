use Rattle.std.proofs.Common.{◌≡◌, ◌∙◌, ◌-◌, arith, refl}
use Rattle.std.proofs.lemmas.Result.{err_from_is_err_and}
use Rattle.aiger_ascii.specs.Ascii.{input_at}
use Rattle.aiger_ascii.proofs.LoopLemmas.{lines-step, lines-fault, lines-end}
use Rattle.aiger_ascii.proofs.lines.inputs.Goals as goal

pub loop-init : goal.loop-init
loop-init c = let whole : c.args.count - 0 ≡ c.args.count = omega arith in rw whole (record { rest = refl; first = c.requires.first; outputs = refl; constraints = refl })

pub loop-preserved : goal.loop-preserved
loop-preserved c =
    let l = c.loop in
    record {
      rest = l.invariant.rest ∙ lines-step input_at c.args.count l.counter c.args.most l.draft c.input.new.draft l.scan c.input.new.scan c.loop-test.true c.in_ok-input.ensures.reads;
      first = c.in_ok-input.ensures.gates;
      outputs = c.in_ok-input.ensures.outputs ∙ l.invariant.outputs;
      constraints = c.in_ok-input.ensures.constraints ∙ l.invariant.constraints;
    }

pub returns-in_err-input-clause-reads : goal.returns-in_err-input-clause-reads
returns-in_err-input-clause-reads c =
    let p = err_from_is_err_and c.from_residual.result c.from_residual.ensures.1 in
    let l = c.loop in
    rw (p.1, p.2, l.invariant.rest) (lines-fault input_at c.args.count l.counter c.args.most l.draft l.scan c.in_err-input.field-0.0 c.loop-test.true c.in_err-input.ensures.reads)

pub returns-clause-reads : goal.returns-clause-reads
returns-clause-reads c = let l = c.loop in l.invariant.rest ∙ lines-end input_at c.args.count l.counter c.args.most l.draft l.scan c.loop-test.false
