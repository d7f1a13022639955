use Rattle.std.proofs.Common.{ap, ◌∙◌}
use Rattle.flat_base.specs.Codes.{lit_at}
use Rattle.watch_lists.specs.Trail.{clause_at}
use Rattle.solver_watch.proofs.MarkedLemmas.{marking-skip, marking-next, marking-end, code-at}
use Rattle.solver_watch.proofs.cut.Cut.mark_clause.Goals as goal
use Rattle.solver_watch.proofs.cut.Cut.mark_clause.Goals.{in-Some+in_ok-mark-in-Some, in-None}

pub place-requires : goal.place-requires
place-requires c =
    rw c.flip.ensures (code-at c.args.trail.now (clause_at c.args.trail.now.clauses c.args.number) c.clause-code-items.result.now
    c.loop-code.code-index c.clause-code-items.ensures c.loop-code-test.true)

pub loop-code-preserved : goal.loop-code-preserved
loop-code-preserved c = elim c.match-place.branch [
  | in-Some+in_ok-mark-in-Some w ↦
      rw w.self-is
      (marking-next c.args.trail.now c.lits-puts.ensures.trail (clause_at c.args.trail.now.clauses c.args.number)
      c.clause-code-items.result.now c.clause-code-items.ensures c.loop-code.code-index c.args.self.now c.loop-code.self
      c.loop-code-test.true c.loop-code.invariant w.mark.new.self w.in-Some.place w.in-Some.ensures.some.0
      (w.in-Some.ensures.some.1 ∙ ap (lit_at c.args.trail.now.nodes) c.flip.ensures)
      (rw (c.lits-puts.ensures.puts, c.level-level.ensures) at w.in_ok-mark-in-Some.ensures.counted) w.in_ok-mark-in-Some.ensures.marks)
  | in-None w ↦
      rw w.self-is
      (marking-skip c.args.trail.now c.lits-puts.ensures.trail (clause_at c.args.trail.now.clauses c.args.number)
      c.clause-code-items.result.now c.clause-code-items.ensures c.loop-code.code-index c.args.self.now c.loop-code.self
      c.loop-code-test.true c.loop-code.invariant (rw c.flip.ensures at w.in-None.ensures.none))
]

pub returns : goal.returns
returns c =
    marking-end c.args.trail.now (clause_at c.args.trail.now.clauses c.args.number) c.clause-code-items.result.now c.loop-code.code-index
    c.args.self.now c.loop-code.self c.clause-code-items.ensures c.loop-code-test.false c.loop-code.invariant
