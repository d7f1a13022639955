use Rattle.netlist_edits.proofs.EarlierLemmas.{there, earlier-position}
use Rattle.netlist_edits.proofs.checks.stands_before.Goals as goal

pub returns-in-Some : goal.returns-in-Some
returns-in-Some c =
    rw (c.is_before.ensures, c.position-position.ensures, c.position.ensures, c.in-Some.is)
    (earlier-position c.args.net.now c.args.side c.in-Some.end c.args.var)

pub returns-in-None : goal.returns-in-None
returns-in-None c =
    rw (c.is_some.ensures, c.position-position.ensures, c.in-None.is)
    (there c.args.net.now c.args.side c.args.var)
