use Rattle.command_line.proofs.GetterLemmas.{number_kept, number_lost}
use Rattle.command_line.proofs.matches.number_in.Goals as goal

pub returns-in-Ok-clause-value : goal.returns-in-Ok-clause-value
returns-in-Ok-clause-value c =
    number_kept c.args.least c.args.most c.in-Ok.n c.args.text.now c.in-Ok.ensures.value.0 c.if-least-n.true c.if-n-most.true

pub returns-in_default-3-clause-value : goal.returns-in_default-3-clause-value
returns-in_default-3-clause-value c = number_lost c.args.least c.args.most c.args.text.now c.in_default.ensures.value.0
