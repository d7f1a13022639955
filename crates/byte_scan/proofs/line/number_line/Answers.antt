use Rattle.std.proofs.Common.{◌∙◌}
use Rattle.byte_scan.proofs.ReadingLemmas.{behind-none}
use Rattle.byte_scan.proofs.line.number_line.Goals as goal

pub returns-in_err-n-clause-behind : goal.returns-in_err-n-clause-behind
returns-in_err-n-clause-behind c = c.in_err-n.ensures.behind ∙ behind-none c.args.scan.now c.in_err-n.field-0.0 c.in_err-n.ensures.fault
