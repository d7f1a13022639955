use Rattle.std.proofs.Common.{true, false, length, refl, ap, sym, ◌∙◌}
use Rattle.std.proofs.lemmas.Result.{err_from_is_err_and}
use Rattle.lrat_text.specs.Lines.{steps_left}
use Rattle.lrat_text.proofs.Facts.{next-some, next-none, next-fault}
use Rattle.lrat_checker.specs.Live.{clauses_of}
use Rattle.lrat_checker.proofs.TextLemmas.{judged-nothing, judged-fault, judged-fault_behind, judged-bad, judged-more, judged-end}
use Rattle.lrat_checker.proofs.text.judge_while_reading.Goals.{then-has_empty, else-has_empty}
use Rattle.lrat_checker.proofs.text.judge_while_reading.Goals as goal

pub loop-steps-init : goal.loop-steps-init
loop-steps-init c =
    judged-nothing c.args.formula.now c.args.text.now (steps_left c.new-lines.result) (clauses_of c.in_ok-live.live)
    (length c.args.formula.now) refl (ap steps_left c.new-lines.ensures) c.in_ok-live.ensures

pub returns-in_err-line : goal.returns-in_err-line
returns-in_err-line c =
    let p = err_from_is_err_and c.from_residual-in_err-line.result c.from_residual-in_err-line.ensures.1 in
    let l = c.loop-steps in
    rw (p.1, p.2)
    (judged-fault c.args.formula.now c.args.text.now (steps_left l.lines) (clauses_of l.live) l.has_empty l.invariant
    c.in_err-line.field-0.0 (next-fault c.in_err-line.field-0.0 l.lines c.in_err-line.ensures.0))

pub returns-in_err-skip_rest : goal.returns-in_err-skip_rest
returns-in_err-skip_rest c =
    let p = err_from_is_err_and c.from_residual-in_err-skip_rest.result c.from_residual-in_err-skip_rest.ensures.1 in
    let l = c.loop-steps in
    let line = c.in-Some.line in
    let new = c.next.new.self in
    let next = next-some c.in_ok-line.field-0 line l.lines new c.in-Some.is c.in_ok-line.ensures in
    rw (p.1, p.2)
    (judged-fault_behind c.args.formula.now c.args.text.now (steps_left l.lines) (clauses_of l.live) l.has_empty l.invariant
    line (steps_left new) next c.in_err-skip_rest.field-0.0 c.in_err-skip_rest.ensures.form)

pub returns-in-Some-2 : goal.returns-in-Some-2
returns-in-Some-2 c =
    let l = c.loop-steps in
    let line = c.in-Some.line in
    let new = c.next.new.self in
    let next = next-some c.in_ok-line.field-0 line l.lines new c.in-Some.is c.in_ok-line.ensures in
    judged-bad c.args.formula.now c.args.text.now (steps_left l.lines) (clauses_of l.live) l.has_empty l.invariant
    line (steps_left new) next c.in-Some-2.fault (sym c.in_ok-fault.ensures ∙ c.in-Some-2.is) c.in_ok-skip_rest.ensures.form

pub loop-steps-preserved : goal.loop-steps-preserved
loop-steps-preserved c =
    let l = c.loop-steps in
    let line = c.in-Some.line in
    let new = c.next.new.self in
    let next = next-some c.in_ok-line.field-0 line l.lines new c.in-Some.is c.in_ok-line.ensures in
    judged-more c.args.formula.now c.args.text.now (steps_left l.lines) (clauses_of l.live) l.has_empty l.invariant
    line (steps_left new) next (clauses_of c.take.new.self) c.adds_empty.result
    (sym c.in_ok-fault.ensures ∙ c.in_default-2.is) c.in_ok-take.ensures c.adds_empty.ensures

pub returns : goal.returns
returns c =
    let l = c.loop-steps in
    let end = next-none c.in_ok-line.field-0 l.lines c.next.new.self c.in_default.is c.in_ok-line.ensures in
    elim c.if-has_empty.branch [
      | then-has_empty w ↦
          judged-end c.args.formula.now c.args.text.now (steps_left l.lines) (clauses_of l.live) l.has_empty l.invariant
          c.if-has_empty.result true w.if-has_empty.true w.result-is end
      | else-has_empty w ↦
          judged-end c.args.formula.now c.args.text.now (steps_left l.lines) (clauses_of l.live) l.has_empty l.invariant
          c.if-has_empty.result false w.if-has_empty.false w.result-is end
    ]
