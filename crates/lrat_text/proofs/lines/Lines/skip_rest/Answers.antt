use Rattle.std.proofs.Common.{[], ◌∷◌, ◌++◌, Option, Ok, subst}
use Rattle.std.proofs.lemmas.Result.{err_from_is_err_and}
use Rattle.lrat_text.specs.declared.step.Line.{Line}
use Rattle.lrat_text.specs.Lines.{steps_left, GivesNext}
use Rattle.lrat_text.proofs.LoopLemmas.{next-some, next-none, next-fault, form-front, fault-front}
use Rattle.lrat_text.proofs.StopLemmas.{read-more, read-stop}
use Rattle.lrat_text.proofs.lines.Lines.skip_rest.Goals as goal

pub returns-in_err-next-clause-form : goal.returns-in_err-next-clause-form
returns-in_err-next-clause-form c =
    let p = err_from_is_err_and c.from_residual.result c.from_residual.ensures.1 in
    let e = c.in_err-next.field-0.0 in
    rw (p.1, p.2) (c.loop.invariant.fault e (next-fault e c.loop.self c.in_err-next.ensures.0))

pub returns-in_err-next-clause-stops : goal.returns-in_err-next-clause-stops
returns-in_err-next-clause-stops c =
    let p = err_from_is_err_and c.from_residual.result c.from_residual.ensures.1 in
    let e = c.in_err-next.field-0.0 in
    let l = c.loop in
    rw (p.1, p.2) (l.invariant.steps, read-stop e l.invariant.steps c.args.self.now l.self c.next.new.self l.invariant.read c.in_err-next.ensures.1)

pub loop-preserved-in-Some : goal.loop-preserved-in-Some
loop-preserved-in-Some c =
    let l = c.loop in
    let line = c.in-Some.field-0 in
    let new = c.next.new.self in
    let next = next-some c.in_ok-next.field-0 line l.self new c.in-Some.is c.in_ok-next.ensures in
    record {
      steps = l.invariant.steps ++ line ∷ [];
      read = read-more l.invariant.steps line c.args.self.now l.self new l.invariant.read (subst (λ (f : Option Line). GivesNext (Ok f) l.self new) c.in-Some.is c.in_ok-next.ensures);
      form = λ h. l.invariant.form (form-front line (steps_left l.self) (steps_left new) next h);
      fault = λ d h. l.invariant.fault d (fault-front line (steps_left l.self) (steps_left new) d next h);
    }

pub loop-preserved-in-Some-2 : goal.loop-preserved-in-Some-2
loop-preserved-in-Some-2 c =
    let l = c.loop in
    let line = c.in-Some.field-0 in
    let new = c.next.new.self in
    let next = next-some c.in_ok-next.field-0 line l.self new c.in-Some.is c.in_ok-next.ensures in
    record {
      steps = l.invariant.steps ++ line ∷ [];
      read = read-more l.invariant.steps line c.args.self.now l.self new l.invariant.read (subst (λ (f : Option Line). GivesNext (Ok f) l.self new) c.in-Some.is c.in_ok-next.ensures);
      form = λ h. l.invariant.form (form-front line (steps_left l.self) (steps_left new) next h);
      fault = λ d h. l.invariant.fault d (fault-front line (steps_left l.self) (steps_left new) d next h);
    }

pub returns-clause-form : goal.returns-clause-form
returns-clause-form c =
    c.loop.invariant.form (rw (next-none c.in_ok-next.field-0 c.loop.self c.next.new.self c.in_default.is c.in_ok-next.ensures) tt)
