use Rattle.std.proofs.Common.{◌/◌}
use Rattle.netlist_edits.proofs.EarlierLemmas.{there}
use Rattle.netlist_edits.proofs.checks.has_gate.Goals as goal

pub returns : goal.returns
returns c = rw (c.is_some.ensures, c.position.ensures) (there c.args.net.now c.args.side (c.args.lit / 2))
