use Rattle.std.proofs.Common.{◌≡◌, ◌∙◌, ◌-◌, arith, refl}
use Rattle.std.proofs.lemmas.Result.{err_from_is_err_and}
use Rattle.aiger_ascii.specs.Ascii.{output_at}
use Rattle.aiger_ascii.proofs.LoopLemmas.{lines-step, lines-fault, lines-end}
use Rattle.aiger_ascii.proofs.lines.outputs.Goals as goal

pub loop-init : goal.loop-init
loop-init c = let whole : c.args.count - 0 ≡ c.args.count = omega arith in rw whole (record { rest = refl; count = omega arith; constraints = refl })

pub loop-preserved : goal.loop-preserved
loop-preserved c =
    let l = c.loop in
    record {
      rest = l.invariant.rest ∙ lines-step output_at c.args.count l.counter c.args.most l.draft c.output.new.draft l.scan c.output.new.scan c.loop-test.true c.in_ok-output.ensures.reads;
      count = omega (arith, c.in_ok-output.ensures.count, l.invariant.count);
      constraints = c.in_ok-output.ensures.constraints ∙ l.invariant.constraints;
    }

pub returns-in_err-output-clause-reads : goal.returns-in_err-output-clause-reads
returns-in_err-output-clause-reads c =
    let p = err_from_is_err_and c.from_residual.result c.from_residual.ensures.1 in
    let l = c.loop in
    rw (p.1, p.2, l.invariant.rest) (lines-fault output_at c.args.count l.counter c.args.most l.draft l.scan c.in_err-output.field-0.0 c.loop-test.true c.in_err-output.ensures.reads)

pub returns-clause-reads : goal.returns-clause-reads
returns-clause-reads c = let l = c.loop in l.invariant.rest ∙ lines-end output_at c.args.count l.counter c.args.most l.draft l.scan c.loop-test.false
