use Rattle.lits.specs.Same.{same_lit, opposite}
use Rattle.solver_plain.specs.Effect.{IsQuiet}
use Rattle.solver_plain.proofs.NameLemmas.{hint-base, hint-log, quiet-both}
use Rattle.solver_plain.proofs.formula.next_hint.Goals as goal

pub returns-in-Some-clause-hint : goal.returns-in-Some-clause-hint
returns-in-Some-clause-hint c =
    hint-base c.args.base.now c.args.log.now c.args.set.now c.in-Some.hint c.requires c.in-Some.ensures.hint

pub returns-in-None-clause-hint : goal.returns-in-None-clause-hint
returns-in-None-clause-hint c =
    hint-log c.args.base.now c.args.log.now c.args.set.now c.hint_in_log.result c.hint_in_log.ensures.hint

pub returns-in-None-clause-quiet : goal.returns-in-None-clause-quiet
returns-in-None-clause-quiet c =
    quiet-both (IsQuiet same_lit opposite c.args.set.now) c.args.base.now c.args.log.now c.hint_in_log.result
    c.in-None.ensures.quiet c.hint_in_log.ensures.quiet
