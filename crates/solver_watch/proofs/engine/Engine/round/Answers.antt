use Rattle.std.proofs.Common.{Option, Some, None, length, ap, subst, arith, ◌∙◌}
use Rattle.std.specs.Prelude.{IfOk, IfNone, IfSome}
use Rattle.std.proofs.lemmas.List.{length-append}
use Rattle.std.proofs.lemmas.Result.{IfOk-weaker}
use Rattle.watch_lists.specs.Trail.{TrailState, Propagates}
use Rattle.solver_plain.specs.Formula.{Clauses}
use Rattle.solver_watch.specs.Known.{clauses_known}
use Rattle.solver_watch.specs.Search.{Advances, IsFound}
use Rattle.solver_watch.specs.declared.engine.Engine.{Engine}
use Rattle.solver_watch.proofs.BaseLemmas.{known-at}
use Rattle.solver_watch.proofs.EngineLemmas.{state-propagates}
use Rattle.solver_watch.proofs.engine.Engine.round.Goals as goal

pub meet-requires-clause-state : goal.meet-requires-clause-state
meet-requires-clause-state c =
    state-propagates c.args.self.now c.args.target.now c.propagate.new.self c.requires.state c.in_ok-conflict.ensures.rest

pub meet-requires-clause-number : goal.meet-requires-clause-number
meet-requires-clause-number c = let met = rw c.in-Some.is at c.in_ok-conflict.ensures.some in met.0

pub meet-requires-clause-conflict : goal.meet-requires-clause-conflict
meet-requires-clause-conflict c = let met = rw c.in-Some.is at c.in_ok-conflict.ensures.some in met.1

pub go_on-requires-clause-state : goal.go_on-requires-clause-state
go_on-requires-clause-state c =
    state-propagates c.args.self.now c.args.target.now c.propagate.new.self c.requires.state c.in_ok-conflict.ensures.rest

pub go_on-requires-clause-complete : goal.go_on-requires-clause-complete
go_on-requires-clause-complete c = rw c.in-None.is at c.in_ok-conflict.ensures.none

none-weaker : {T : Type 0} (r : Option T) (P Q : Type 0) → (P → Q) → IfNone r P → IfNone r Q
none-weaker None P Q f p = f p
none-weaker (Some x) P Q f p = p

-- what clauses put first counts too
advances-after : (e : Engine) (t : TrailState) (new : Engine) → Propagates e.formula.trail t
    → Advances (record e { formula = record e.formula { trail = t } }) new → Advances e new
advances-after e t new p a = record {
  clauses = a.clauses ∙ known-at e.formula t p.clauses;
  nodes = a.nodes ∙ p.nodes;
  more = omega (arith, a.more, ap length p.behind, length-append e.formula.trail.puts p.more);
  room = a.room;
}

pub returns-in-None-clause-none : goal.returns-in-None-clause-none
returns-in-None-clause-none c =
    IfOk-weaker c.go_on.result _ _
    (λ r. none-weaker r _ _ (advances-after c.args.self.now c.propagate.new.self c.go_on.new.self c.in_ok-conflict.ensures.rest)) c.go_on.ensures.none

pub returns-in-None-clause-found : goal.returns-in-None-clause-found
returns-in-None-clause-found c =
    subst (λ (k : Clauses). IfOk c.go_on.result (λ r. IfSome r (IsFound k c.args.target.now (clauses_known c.go_on.new.self.formula))))
    (known-at c.args.self.now.formula c.propagate.new.self c.in_ok-conflict.ensures.rest.clauses) c.go_on.ensures.found

pub returns-in_ok-meet-in-Some-clause-found : goal.returns-in_ok-meet-in-Some-clause-found
returns-in_ok-meet-in-Some-clause-found c =
    subst (λ (k : Clauses). IsFound k c.args.target.now (clauses_known c.meet.new.self.formula) c.in_ok-meet-in-Some.field-0)
    (known-at c.args.self.now.formula c.propagate.new.self c.in_ok-conflict.ensures.rest.clauses) c.in_ok-meet-in-Some.ensures.found
