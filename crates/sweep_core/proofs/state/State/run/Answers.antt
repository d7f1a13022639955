-- Event by event: the run so far gets one more step, and what is left may come after it.
use Rattle.std.proofs.Common.{◌≡◌, ◌∙◌, ◌∷◌, [], ◌++◌, ◌^◌, List, length, refl, sym, ap, subst, append_assoc, append-nil, arith}
use Rattle.std.specs.Vec.Iter.{into_iter_items}
use Rattle.sweep_core.specs.declared.event.Event.{Event}
use Rattle.sweep_core.specs.Event.{Core}
use Rattle.lemma_book.specs.Machine.{IsReplay}
use Rattle.sweep_core.specs.Run.{MayRun, IsRun, turns_of}
use Rattle.sweep_core.proofs.KeepLemmas.{keeps-start, keeps-twice}
use Rattle.sweep_core.proofs.ReplayLemmas.{run-replay}
use Rattle.sweep_core.proofs.RunLemmas.{run-last, run-first, drawn-left, on-err}
use Rattle.sweep_core.proofs.state.State.run.Goals as goal

pub returns-in_err-replies-clause-keeps : goal.returns-in_err-replies-clause-keeps
returns-in_err-replies-clause-keeps c =
    keeps-start c.args.self.now _ c.self.view_is c.self.invariant

pub returns-in_err-replies-clause-err : goal.returns-in_err-replies-clause-err
returns-in_err-replies-clause-err c =
    on-err c.from_residual.result _
    (run-first c.args.events.items [] c.args.events.items c.args.self.now c.args.self.now []
    refl refl)

pub loop-event-init : goal.loop-event-init
loop-event-init c =
    let items = c.into_iter-event-iterator.ensures.into_iter_gives in
    let count = ap length items.0 in
    record {
      parts = items.0;
      left = let len = items.1 in let own = c.args.events.ok in omega arith;
      run = rw c.in_ok-replies.ensures.items refl;
      may =
          subst (λ (es : List Event). MayRun c.args.net.now es c.args.self.now) (sym items.0)
          c.requires.events;
      drawn = let d = c.requires.drawn in omega arith;
      legal = c.requires.legal;
      keeps = keeps-start c.args.self.now _ c.self.view_is c.self.invariant;
    }

pub returns-in_err-reply-clause-err : goal.returns-in_err-reply-clause-err
returns-in_err-reply-clause-err c =
    let at = c.loop-event in
    on-err c.from_residual-in_err-reply.result _
    (run-first c.args.events.items at.yielded (into_iter_items at.event-iterator) c.args.self.now
    c.step.new.self at.replies.items
    (sym at.invariant.parts)
    (subst (λ (core : Core). IsRun at.yielded c.args.self.now core at.replies.items)
    (sym c.in_err-reply.ensures.err) at.invariant.run))

pub loop-event-preserved : goal.loop-event-preserved
loop-event-preserved c =
    let at = c.loop-event in
    let x = c.in-Some.event in
    let steps : into_iter_items at.event-iterator ≡ x ∷ into_iter_items c.next.new.self =
    c.in-Some.ensures.steps.0 in
    let may =
    subst (λ (es : List Event). MayRun c.args.net.now es at.self) steps at.invariant.may in
    record {
      parts = append_assoc at.yielded (x ∷ []) _ ∙ rw (← steps) at.invariant.parts;
      left =
          let was = at.invariant.left in
          let gone = c.in-Some.ensures.steps.1 in
          let short = ap length steps in
          omega arith;
      run = rw c.in_ok-push.ensures.items
          (run-last at.yielded c.args.self.now at.self c.step.new.self at.replies.items x
          c.in_ok-reply.reply at.invariant.run c.in_ok-reply.ensures.ok);
      may = may.1 c.step.new.self c.in_ok-reply.reply c.in_ok-reply.ensures.ok;
      drawn =
          let was = at.invariant.drawn in
          let short = ap length steps in
          drawn-left x at.self c.step.new.self c.in_ok-reply.reply (2 ^ 62)
          (length (into_iter_items c.next.new.self)) c.in_ok-reply.ensures.ok
          (omega arith);
      legal = c.in_ok-reply.ensures.legal;
      keeps =
          keeps-twice c.args.self.now.machine at.self.machine c.step.new.self.machine
          at.invariant.keeps c.in_ok-reply.ensures.keeps;
    }

pub returns-in_err-push-clause-err : goal.returns-in_err-push-clause-err
returns-in_err-push-clause-err c =
    let at = c.loop-event in
    let x = c.in-Some.event in
    let left = into_iter_items c.next.new.self in
    let steps : into_iter_items at.event-iterator ≡ x ∷ left = c.in-Some.ensures.steps.0 in
    on-err c.from_residual-in_err-push.result _
    (run-first c.args.events.items (at.yielded ++ x ∷ []) left c.args.self.now c.step.new.self
    (at.replies.items ++ c.in_ok-reply.reply ∷ [])
    (sym at.invariant.parts
    ∙ (ap (λ (es : List Event). at.yielded ++ es) steps
    ∙ sym (append_assoc at.yielded (x ∷ []) left)))
    (run-last at.yielded c.args.self.now at.self c.step.new.self at.replies.items x
    c.in_ok-reply.reply at.invariant.run c.in_ok-reply.ensures.ok))

pub returns-in_err-push-clause-keeps : goal.returns-in_err-push-clause-keeps
returns-in_err-push-clause-keeps c =
    keeps-twice c.args.self.now.machine c.loop-event.self.machine c.step.new.self.machine
    c.loop-event.invariant.keeps c.in_ok-reply.ensures.keeps

nothing-left : (events : List Event) → length events ≡ 0 → events ≡ []
nothing-left [] none = refl
nothing-left (e ∷ es) none = absurd (omega arith)

pub returns-clause-replays : goal.returns-clause-replays
returns-clause-replays c =
    let at = c.loop-event in
    let none = c.in-None.ensures.steps in
    let empty : into_iter_items at.event-iterator ≡ [] =
    nothing-left _ (sym at.invariant.left ∙ none.0) in
    let all : at.yielded ≡ c.args.events.items =
    sym (append-nil at.yielded) ∙ rw empty at at.invariant.parts in
    record {
      begins = at.invariant.keeps.begins;
      run = subst
          (λ (events : List Event). IsReplay (length c.args.self.now.machine.book.entries)
          (turns_of events at.replies.items) (length at.self.machine.book.entries))
          all
          (run-replay at.yielded c.args.self.now at.self at.replies.items at.invariant.run);
    }
