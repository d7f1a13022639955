use Rattle.std.proofs.Common.{ap, sym, ◌∙◌}
use Rattle.std.proofs.lemmas.Result.{err_from_is_err_and}
use Rattle.lrat_text.specs.Reading.{steps_in}
use Rattle.lrat_text.specs.Lines.{steps_left}
use Rattle.lrat_text.proofs.LoopLemmas.{with_front, front-nothing, front-more, front-all, front-fault, next-some, next-none, next-fault}
use Rattle.lrat_text.proofs.lines.read.Goals as goal

pub loop-lines-init : goal.loop-lines-init
loop-lines-init c = rw c.new-lines.ensures.items (sym (ap steps_left c.new-text.ensures) ∙ front-nothing (steps_left c.new-text.result))

pub returns-in_err-line : goal.returns-in_err-line
returns-in_err-line c =
    let p = err_from_is_err_and c.from_residual.result c.from_residual.ensures.1 in
    rw (p.1, p.2)
    (front-fault c.loop-lines.lines.items (steps_in c.args.m c.args.bytes.now) (steps_left c.loop-lines.text)
    c.in_err-line.field-0.0 c.loop-lines.invariant (next-fault c.in_err-line.field-0.0 c.loop-lines.text c.in_err-line.ensures.0))

pub loop-lines-preserved : goal.loop-lines-preserved
loop-lines-preserved c =
    let l = c.loop-lines in
    let line = c.in-Some.line in
    let new = c.next.new.self in
    rw c.in_ok-push.ensures.items
    (l.invariant
    ∙ ap (with_front l.lines.items) (next-some c.in_ok-line.field-0 line l.text new c.in-Some.is c.in_ok-line.ensures)
    ∙ front-more l.lines.items line (steps_left new))

pub returns : goal.returns
returns c =
    let l = c.loop-lines in
    l.invariant
    ∙ ap (with_front l.lines.items) (next-none c.in_ok-line.field-0 l.text c.next.new.self c.in_default.is c.in_ok-line.ensures)
    ∙ front-all l.lines.items
