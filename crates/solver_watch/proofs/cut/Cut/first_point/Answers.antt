use Rattle.std.proofs.Common.{◌≤◌, ℕ, arith, length, subst}
use Rattle.watch_lists.specs.Trail.{clause_at}
use Rattle.solver_watch.specs.Marked.{IsWalking}
use Rattle.solver_watch.proofs.WalkLemmas.{blank-counted, walking-start, areMet-keeps}
use Rattle.solver_watch.proofs.cut.Cut.first_point.Goals as goal

pub mark_clause-requires-clause-counted : goal.mark_clause-requires-clause-counted
mark_clause-requires-clause-counted c =
    blank-counted c.args.trail.now.puts c.args.trail.now.last c.clear.new.self (rw c.lits-count.ensures.puts at c.in_ok-clear.ensures)

pub loop-place-init : goal.loop-place-init
loop-place-init c =
    rw c.lits-count.ensures.puts (record {
      most = omega arith;
      walking = walking-start c.args.trail.now c.args.conflict c.clear.new.self c.mark_clause.new.self c.lits-count.ensures.trail
          c.requires.level c.requires.number c.requires.conflict c.in_ok-mark_clause.ensures;
      met = c.in_ok-mark_clause.ensures.met;
    })

pub returns-then-branch-clause-met : goal.returns-then-branch-clause-met
returns-then-branch-clause-met c =
    areMet-keeps c.args.trail.now.puts c.loop-place.self.marks c.is_point.new.self.marks (clause_at c.args.trail.now.clauses c.args.conflict)
    c.in_ok-is_point.ensures.keeps c.loop-place.invariant.met

pub loop-place-preserved : goal.loop-place-preserved
loop-place-preserved c = record {
  most = (let m : c.loop-place.place ≤ length c.args.trail.now.puts = c.loop-place.invariant.most in omega arith);
  walking = rw c.if-branch.false at c.in_ok-is_point.ensures.walking;
  met = areMet-keeps c.args.trail.now.puts c.loop-place.self.marks c.is_point.new.self.marks (clause_at c.args.trail.now.clauses c.args.conflict)
      c.in_ok-is_point.ensures.keeps c.loop-place.invariant.met;
}

pub is_point-requires-clause-trail : goal.is_point-requires-clause-trail
is_point-requires-clause-trail c = c.lits-count.ensures.trail

pub is_point-requires-clause-walking : goal.is_point-requires-clause-walking
is_point-requires-clause-walking c =
    subst (λ (n : ℕ). IsWalking c.args.trail.now c.loop-place.passed n c.loop-place.self) (omega (arith, c.loop-place-test.true)) c.loop-place.invariant.walking

pub returns-then-branch-clause-cut : goal.returns-then-branch-clause-cut
returns-then-branch-clause-cut c = rw c.if-branch.true at c.in_ok-is_point.ensures.point
