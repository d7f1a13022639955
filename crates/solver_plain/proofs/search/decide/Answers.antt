use Rattle.std.proofs.Common.{[], ◌∷◌, ◌++◌}
use Rattle.lits.specs.Same.{opposite}
use Rattle.solver_plain.proofs.SearchLemmas.{decision-sound, decision-clashes}
use Rattle.solver_plain.proofs.search.decide.Goals as goal

pub scan-requires : goal.scan-requires
scan-requires c =
    rw (c.in_ok-push.ensures.ok, c.not.ensures)
    (decision-sound c.args.formula.now c.args.set.now c.args.variable c.requires.sound c.requires.free)

pub returns-clause-clash : goal.returns-clause-clash
returns-clause-clash c =
    rw c.is_some.ensures
    (decision-clashes c.args.formula.now (c.args.set.now ++ opposite c.args.variable ∷ []) c.scan.new.set c.in_ok-hints.hints
    (rw (c.in_ok-push.ensures.ok, c.not.ensures) at c.in_ok-hints.ensures))
