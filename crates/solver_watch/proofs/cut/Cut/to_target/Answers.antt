use Rattle.std.proofs.Common.{◌≡◌, ◌≤◌, ◌-◌, ◌+◌, ℕ, arith, length, sym, subst, ◌∙◌}
use Rattle.watch_lists.specs.Trail.{clause_at}
use Rattle.solver_watch.proofs.WalkLemmas.{blank-counted, areMet-keeps}
use Rattle.solver_watch.proofs.TargetLemmas.{IsTracing, behind-forced, tracing-start, tracing-skip, tracing-next, tracing-end}
use Rattle.solver_watch.proofs.cut.Cut.to_target.Goals as goal

pub mark_clause-requires-clause-counted : goal.mark_clause-requires-clause-counted
mark_clause-requires-clause-counted c =
    blank-counted c.args.trail.now.puts c.args.trail.now.last c.clear.new.self (rw c.lits-count.ensures.puts at c.in_ok-clear.ensures)

pub loop-place-init : goal.loop-place-init
loop-place-init c =
    rw c.lits-count.ensures.puts (record {
      most = omega arith;
      tracing = tracing-start c.args.trail.now c.args.target.now (length c.args.trail.now.puts) c.mark_clause.new.self (omega arith)
          c.in_ok-mark_clause.ensures.counted;
      met = c.in_ok-mark_clause.ensures.met;
    })

pub loop-place-preserved : goal.loop-place-preserved
loop-place-preserved c = record {
  most = (let m : c.loop-place.place ≤ length c.args.trail.now.puts = c.loop-place.invariant.most in omega arith);
  tracing = tracing-skip c.args.trail.now c.args.target.now c.loop-place.self (c.loop-place.place - 1)
      (let m : c.loop-place.place ≤ length c.args.trail.now.puts = c.loop-place.invariant.most in omega arith)
      (let z : c.loop-place.place ≡ c.loop-place.place - 1 + 1 = omega arith in
      subst (λ (n : ℕ). IsTracing c.args.trail.now c.args.target.now n c.loop-place.self) z c.loop-place.invariant.tracing)
      (sym c.is_behind.ensures ∙ c.if-is_behind.false);
  met = c.loop-place.invariant.met;
}

pub returns : goal.returns
returns c =
    tracing-end c.args.trail.now c.args.target.now c.args.conflict c.loop-place.place c.loop-place.self c.requires (omega arith)
    c.loop-place.invariant.tracing c.loop-place.invariant.met

pub resolve-requires-clause-forced : goal.resolve-requires-clause-forced
resolve-requires-clause-forced c =
    behind-forced c.args.trail.now c.args.target.now c.args.conflict (c.loop-place.place - 1) c.loop-place.self.marks c.lits-count.ensures.trail c.requires
    (let m : c.loop-place.place ≤ length c.args.trail.now.puts = c.loop-place.invariant.most in omega arith)
    (sym c.is_behind.ensures ∙ c.if-is_behind.true)

pub loop-place-preserved-in-Continue-branch-3 : goal.loop-place-preserved-in-Continue-branch-3
loop-place-preserved-in-Continue-branch-3 c =
    let m : c.loop-place.place ≤ length c.args.trail.now.puts = c.loop-place.invariant.most in
    let z : c.loop-place.place ≡ c.loop-place.place - 1 + 1 = omega arith in
    let met = c.loop-place.invariant.met in
    let traced = c.in_ok-resolve.ensures in
    record {
      most = omega arith;
      tracing = tracing-next c.args.trail.now c.args.target.now c.loop-place.self (c.loop-place.place - 1) (omega arith)
          (subst (λ (n : ℕ). IsTracing c.args.trail.now c.args.target.now n c.loop-place.self) z c.loop-place.invariant.tracing)
          c.resolve.new.self traced;
      met = areMet-keeps c.args.trail.now.puts c.loop-place.self.marks c.resolve.new.self.marks (clause_at c.args.trail.now.clauses c.args.conflict) traced.keeps met;
    }
