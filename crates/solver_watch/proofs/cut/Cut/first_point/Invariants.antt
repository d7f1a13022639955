use Rattle.std.proofs.Common.{◌≤◌, length}
use Rattle.watch_lists.specs.Trail.{clause_at}
use Rattle.solver_watch.specs.Marked.{AreMet, IsWalking}
use Rattle.solver_watch.proofs.cut.Cut.first_point.Given as goal

abbrev pub invariant-loop-place : goal.invariant-loop-place
invariant-loop-place l = record {
  most : l.place ≤ length l.trail.puts;
  walking : IsWalking l.trail l.passed l.place l.self;
  met : AreMet l.trail.puts l.self.marks (clause_at l.trail.clauses l.conflict);
}

abbrev pub decreases-loop-place : goal.decreases-loop-place
decreases-loop-place l = l.place
