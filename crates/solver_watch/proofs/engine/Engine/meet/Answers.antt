use Rattle.std.proofs.Common.{sym, ◌∙◌}
use Rattle.solver_watch.proofs.EngineLemmas.{refuted-conflict, over-base}
use Rattle.solver_watch.proofs.engine.Engine.meet.Goals as goal

pub refutation-requires-clause-refuted : goal.refutation-requires-clause-refuted
refutation-requires-clause-refuted c =
    refuted-conflict c.args.self.now.formula.trail c.args.target.now c.args.self.now.assumed c.args.conflict c.requires.state.assuming
    (sym c.level.ensures ∙ c.if-level-self.true) c.requires.number c.requires.conflict

pub returns-clause-state : goal.returns-clause-state
returns-clause-state c = record {
  known = c.in_ok-learn.ensures.known;
  over = over-base c.args.self.now.formula c.learn.new.self.formula c.args.target.now _ c.in_ok-learn.ensures.is c.requires.state.over;
  assuming = c.in_ok-learn.ensures.assuming c.args.target.now c.requires.state.assuming;
}

pub returns-clause-found : goal.returns-clause-found
returns-clause-found c = record {
  step = c.in_ok-learn.ensures.step;
  learned = c.in_ok-learn.ensures.learned c.args.target.now c.requires.state.assuming;
  is = c.in_ok-learn.ensures.is;
}
