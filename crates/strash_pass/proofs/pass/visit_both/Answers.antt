-- All gates were visited.
use Rattle.std.proofs.Common.{arith}
use Rattle.strash_pass.proofs.AddsLemmas.{adds-more, adds-to, count-gates, stops-later, stops-so}
use Rattle.strash_pass.proofs.PassLemmas.{all-plain}
use Rattle.strash_pass.proofs.pass.visit_both.Goals as goal

pub returns-clause-grows : goal.returns-clause-grows
returns-clause-grows c =
    adds-to _ _ _ _ _ _ (omega (arith, count-gates c.args.net.now))
    (adds-more _ _ _ _ _ _ _ (adds-to _ _ _ _ _ _ (omega arith) c.visit_side.ensures.grows) c.visit_side-2.ensures.grows)

pub returns-clause-plain : goal.returns-clause-plain
returns-clause-plain c =
    all-plain c.args.net.now c.visit_side-2.new.book.entries c.visit_side-2.new.pass.twins c.visit_side-2.new.pass.visited c.visit_side-2.result c.visit_side-2.ensures.pass c.visit_side-2.ensures.visited

pub returns-in_err-visit_side-clause-grows : goal.returns-in_err-visit_side-clause-grows
returns-in_err-visit_side-clause-grows c =
    adds-to _ _ _ _ _ _ (omega (arith, count-gates c.args.net.now)) c.visit_side.ensures.grows

pub returns-clause-stopped : goal.returns-clause-stopped
returns-clause-stopped c =
    stops-later _ _ _ _ _ _ c.visit_side-2.result (adds-to _ _ _ _ _ _ (omega arith) c.visit_side.ensures.grows) c.visit_side-2.ensures.stopped

pub returns-in_err-visit_side-clause-stopped : goal.returns-in_err-visit_side-clause-stopped
returns-in_err-visit_side-clause-stopped c = stops-so _ _ _ _ c.from_residual.result c.in_err-visit_side.ensures.stopped
