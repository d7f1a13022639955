use Rattle.std.proofs.Common.{◌∙◌, sym, ap, arith, length, List}
use Rattle.lits.specs.Same.{same_lit}
use Rattle.lits.specs.Clause.{has}
use Rattle.watch_lists.specs.Trail.{put_at}
use Rattle.watch_lists.specs.declared.put.Put.{Put}
use Rattle.solver_plain.specs.Formula.{clause_named}
use Rattle.solver_watch.specs.Known.{clauses_known}
use Rattle.solver_watch.proofs.HintLemmas.{hinting-start, hinting-none, hinting-next, hinting-last, hinting-end, step-of}
use Rattle.solver_watch.proofs.hints.hints.Goals as goal
use Rattle.solver_watch.proofs.hints.hints.Goals.{in-None, in-Some+in_ok-push-in-Some+else-contains}

pub loop-place-init : goal.loop-place-init
loop-place-init c =
    rw c.in_ok-hints.ensures.items (
      omega arith,
      hinting-start (clause_named (clauses_known c.args.formula.now)) c.args.formula.now.trail c.args.cut.now.marks c.args.from
          c.args.shown.now c.args.goal.now c.args.conflict c.requires.apart c.requires.supported,
    )

pub returns-then-contains : goal.returns-then-contains
returns-then-contains c =
    rw (c.of.ensures, c.in_ok-push-in-Some.ensures.items)
    (step-of (clause_named (clauses_known c.args.formula.now)) c.args.goal.now _ c.requires.apart
    (hinting-last (clause_named (clauses_known c.args.formula.now)) c.args.formula.now.trail c.lits-puts.ensures.trail c.args.cut.now.marks
    c.args.from c.args.shown.now c.args.goal.now c.args.conflict c.requires.supported c.loop-place.place c.loop-place.hints.items
    c.loop-place.invariant.1 c.loop-place.invariant.0 (let h = ap length c.lits-puts.ensures.puts in omega arith) c.in-Some.ensures.0 c.in-Some.ensures.1 c.in-Some.by c.in-Some.ensures.2
    c.name.result (ap (λ (ps : List Put). has same_lit c.args.shown.now (put_at ps c.loop-place.place).lit) (sym c.lits-puts.ensures.puts) ∙ sym c.contains.ensures ∙ c.if-contains.true) c.name.ensures))

pub loop-place-preserved : goal.loop-place-preserved
loop-place-preserved c = elim c.match-reason.branch [
  | in-None w ↦
      rw w.hints-is (
        omega arith,
        hinting-none (clause_named (clauses_known c.args.formula.now)) c.args.formula.now.trail c.lits-puts.ensures.trail c.args.cut.now.marks
            c.args.from c.args.shown.now c.args.goal.now c.args.conflict c.requires.supported c.loop-place.place c.loop-place.hints.items
            c.loop-place.invariant.1 c.loop-place.invariant.0 (let h = ap length c.lits-puts.ensures.puts in omega arith) w.in-None.ensures,
      )
  | in-Some+in_ok-push-in-Some+else-contains w ↦
      rw (w.hints-is, w.in_ok-push-in-Some.ensures.items) (
        omega arith,
        hinting-next (clause_named (clauses_known c.args.formula.now)) c.args.formula.now.trail c.lits-puts.ensures.trail c.args.cut.now.marks
            c.args.from c.args.shown.now c.args.goal.now c.args.conflict c.requires.supported c.loop-place.place c.loop-place.hints.items
            c.loop-place.invariant.1 c.loop-place.invariant.0 (let h = ap length c.lits-puts.ensures.puts in omega arith) w.in-Some.ensures.0 w.in-Some.ensures.1 w.in-Some.by w.in-Some.ensures.2
            w.name.result (ap (λ (ps : List Put). has same_lit c.args.shown.now (put_at ps c.loop-place.place).lit) (sym c.lits-puts.ensures.puts) ∙ sym w.contains.ensures ∙ w.if-contains.false) w.name.ensures,
      )
]

pub returns : goal.returns
returns c =
    rw (c.of-2.ensures, c.in_ok-push.ensures.items)
    (step-of (clause_named (clauses_known c.args.formula.now)) c.args.goal.now _ c.requires.apart
    (hinting-end (clause_named (clauses_known c.args.formula.now)) c.args.formula.now.trail c.lits-puts.ensures.trail c.args.cut.now.marks
    c.args.from c.args.shown.now c.args.goal.now c.args.conflict c.requires.supported c.loop-place.place c.loop-place.hints.items
    c.loop-place.invariant.1 c.name-2.result (let h = ap length c.lits-puts.ensures.puts in omega arith) c.name-2.ensures))

pub reason-requires-clause-place : goal.reason-requires-clause-place
reason-requires-clause-place c = let h = ap length c.lits-puts.ensures.puts in omega arith

pub reason-requires-clause-room : goal.reason-requires-clause-room
reason-requires-clause-room c = c.requires.supported.room

pub reason-requires-clause-resolved : goal.reason-requires-clause-resolved
reason-requires-clause-resolved c =
    c.requires.supported.resolved c.loop-place.place c.loop-place.invariant.0 (let h = ap length c.lits-puts.ensures.puts in omega arith)

pub name-requires-clause-known : goal.name-requires-clause-known
name-requires-clause-known c = c.requires.known

pub name-requires-clause-within : goal.name-requires-clause-within
name-requires-clause-within c = c.in-Some.ensures.3

pub name-requires-2-clause-within : goal.name-requires-2-clause-within
name-requires-2-clause-within c = c.requires.supported.number
