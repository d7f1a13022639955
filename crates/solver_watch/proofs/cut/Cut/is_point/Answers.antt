use Rattle.std.proofs.Common.{arith, sym, ◌∙◌}
use Rattle.solver_watch.proofs.WalkLemmas.{walking-skip, walking-point, walking-most, walking-forced, walking-next}
use Rattle.solver_watch.proofs.cut.Cut.is_point.Goals as goal

pub returns-then-not-has-clause-walking : goal.returns-then-not-has-clause-walking
returns-then-not-has-clause-walking c =
    walking-skip c.args.trail.now c.requires.trail c.args.self.now c.args.passed.now c.args.place c.requires.place c.requires.walking
    (sym c.has.ensures ∙ c.if-not-has.true)

pub overflow_add-passed : goal.overflow_add-passed
overflow_add-passed c =
    let most = walking-most c.args.trail.now c.requires.trail c.args.self.now c.args.passed.now c.args.place c.requires.place c.requires.walking in
    omega arith

pub returns-then-passed-count-clause-point : goal.returns-then-passed-count-clause-point
returns-then-passed-count-clause-point c =
    walking-point c.args.trail.now c.requires.trail c.args.self.now c.args.passed.now c.args.place c.requires.place c.requires.walking
    (sym c.has.ensures ∙ c.if-not-has.false) c.if-passed-count.true

pub resolve-requires-clause-forced : goal.resolve-requires-clause-forced
resolve-requires-clause-forced c =
    walking-forced c.args.trail.now c.requires.trail c.args.self.now c.args.passed.now c.args.place c.requires.place c.requires.walking
    (sym c.has.ensures ∙ c.if-not-has.false) c.if-passed-count.false

pub returns-clause-walking : goal.returns-clause-walking
returns-clause-walking c =
    walking-next c.args.trail.now c.requires.trail c.args.self.now c.args.passed.now c.args.place c.requires.place c.requires.walking
    c.resolve.new.self (sym c.has.ensures ∙ c.if-not-has.false) c.if-passed-count.false c.in_ok-resolve.ensures
