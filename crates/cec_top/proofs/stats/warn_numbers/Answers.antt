use Rattle.std.proofs.Common.{◌∙◌}
use Rattle.cec_top.proofs.WarnedLemmas.{reports-text}
use Rattle.cec_top.proofs.stats.warn_numbers.Goals as goal

pub returns-in-Ok : goal.returns-in-Ok
returns-in-Ok g c =
    reports-text (g.D.Desk.state c.args.desk.now) (g.D.Desk.state c.warn_text.new.desk) c.args.numbers c.as_slice.result.now
    (c.as_slice.ensures.value ∙ c.in-Ok.ensures) c.warn_text.ensures
