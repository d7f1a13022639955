use Rattle.std.proofs.Common.{refl, sym, ap, subst, ℕ, min}
use Rattle.watch_lists.specs.Trail.{TrailState, back_to}
use Rattle.solver_watch.specs.Assuming.{IsAssuming}
use Rattle.solver_watch.proofs.BaseLemmas.{known-at}
use Rattle.solver_watch.proofs.EngineLemmas.{known-trail}
use Rattle.solver_watch.proofs.AssumeLemmas.{assuming-back, assuming-start}
use Rattle.solver_watch.proofs.engine.Engine.back.Goals as goal

pub returns : goal.returns
returns c = record {
  known = known-trail c.args.self.now.formula c.back.new.self c.requires (ap (λ (t : TrailState). t.clauses) c.back.ensures)
      (ap (λ (t : TrailState). t.nodes) c.back.ensures);
  clauses = known-at c.args.self.now.formula c.back.new.self (ap (λ (t : TrailState). t.clauses) c.back.ensures);
  trail = c.back.ensures;
  codes = refl;
  assuming = λ target is. rw (c.back.ensures, c.min-self.ensures)
      (assuming-back target c.args.self.now.formula.trail c.args.self.now.assumed c.args.level is);
  start = λ e target. rw (c.back.ensures, c.min-self.ensures)
      (subst (λ (n : ℕ). IsAssuming target (back_to n c.args.self.now.formula.trail) (min c.args.self.now.assumed n)) (sym e)
      (assuming-start target c.args.self.now.formula.trail c.args.self.now.assumed c.hand_back.ensures));
}
