use Rattle.std.proofs.Common.{[], ap}
use Rattle.std.proofs.lemmas.Result.{err_from_is_err_and}
use Rattle.lrat_text.specs.Lines.{Rest}
use Rattle.lrat_text.proofs.LoopLemmas.{line-fault, next-blank, next-step}
use Rattle.lrat_text.proofs.StopLemmas.{read-blank, read-fault}
use Rattle.lrat_text.proofs.lines.Lines.next.Goals as goal

pub returns-in-Some-2 : goal.returns-in-Some-2
returns-in-Some-2 c =
    let l = c.loop-line in
    next-step c.in-Some.line.now c.args.self.now l.self c.next_line.new.self c.step_in.new.self c.in_ok-step.field-0 c.in-Some-2.step
    c.self.inside.behind l.invariant.same l.invariant.last l.invariant.fewer c.in-Some.ensures.line c.in-Some-2.is
    c.in_ok-step.ensures.said c.in_ok-step.ensures.rest (ap (λ (t : Rest). t.behind) c.self.view_is)

pub returns-in_err-step : goal.returns-in_err-step
returns-in_err-step c =
    let p = err_from_is_err_and c.from_residual.result c.from_residual.ensures.1 in
    let l = c.loop-line in
    let e = c.in_err-step.field-0.0 in
    rw (p.1, p.2) (
      line-fault c.in-Some.line.now c.args.self.now l.self c.next_line.new.self e l.invariant.same c.in-Some.ensures.line c.in_err-step.ensures.said,
      read-fault c.in-Some.line.now [] c.args.self.now l.self c.next_line.new.self c.step_in.new.self e l.invariant.read c.in-Some.ensures.line
          c.in_err-step.ensures.said c.in_err-step.ensures.fault,
    )

pub loop-line-preserved : goal.loop-line-preserved
loop-line-preserved c =
    let l = c.loop-line in
    let read =
    read-blank c.in-Some.line.now c.args.self.now l.self c.next_line.new.self c.step_in.new.self c.in_ok-step.field-0 l.invariant.read
    c.in-Some.ensures.line c.in_default-2.is c.in_ok-step.ensures.said c.in_ok-step.ensures.rest in
    record {
      same = next-blank c.in-Some.line.now c.args.self.now l.self c.next_line.new.self c.step_in.new.self c.in_ok-step.field-0 l.invariant.same
          c.in-Some.ensures.line c.in_default-2.is c.in_ok-step.ensures.said c.in_ok-step.ensures.rest;
      last = read.last;
      fewer = read.fewer;
      read = read;
    }
