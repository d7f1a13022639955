use Rattle.std.proofs.Common.{sym, ◌∙◌}
use Rattle.netlist_edits.proofs.EarlierLemmas.{earlier-missing, earlier-gate, earlier-other}
use Rattle.netlist_edits.proofs.checks.is_earlier.Goals as goal

pub returns-in_default : goal.returns-in_default
returns-in_default c = sym (earlier-missing c.args.net.now c.args.side c.args.before c.args.lit (sym c.in_default.ensures))

pub returns-in-Gate : goal.returns-in-Gate
returns-in-Gate c =
    c.stands_before.ensures
    ∙ sym (earlier-gate c.args.net.now c.args.side c.args.before c.args.lit c.in-Some.found c.in-Gate.field-0 c.in-Gate.var
    (sym c.in-Some.ensures) c.in-Gate.is)

pub returns-in_default-node : goal.returns-in_default-node
returns-in_default-node c =
    sym (earlier-other c.args.net.now c.args.side c.args.before c.args.lit c.in-Some.found (sym c.in-Some.ensures) c.in_default-node.not-Gate)
