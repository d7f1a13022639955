-- The merges are counted by how long the book was before.
use Rattle.std.proofs.Common.{arith, ap, sym, subst, length, length-append}
use Rattle.strash_pass.specs.Twins.{Table}
use Rattle.strash_pass.specs.Pass.{IsPass}
use Rattle.strash_pass.proofs.PassLemmas.{pass-start}
use Rattle.strash_pass.proofs.AddsLemmas.{adds-merges, first-none, stops-so}
use Rattle.strash_pass.proofs.pass.run.Goals as goal

pub returns-clause-count : goal.returns-clause-count
returns-clause-count c =
    let grows = c.visit_both.ensures.grows in
    omega (arith, c.len-before.ensures, c.len.ensures, ap length grows.entries, length-append c.args.book.now.entries grows.added)

pub returns-clause-grows : goal.returns-clause-grows
returns-clause-grows c = adds-merges _ _ _ _ _ c.visit_both.ensures.grows

pub returns-in_err-visit_both-clause-grows : goal.returns-in_err-visit_both-clause-grows
returns-in_err-visit_both-clause-grows c = adds-merges _ _ _ _ _ c.visit_both.ensures.grows

pub returns-in_err-visit_both-clause-stopped : goal.returns-in_err-visit_both-clause-stopped
returns-in_err-visit_both-clause-stopped c = stops-so _ _ _ _ c.from_residual-in_err-visit_both.result c.in_err-visit_both.ensures.stopped

pub visit_both-requires-clause-pass : goal.visit_both-requires-clause-pass
visit_both-requires-clause-pass c =
    subst (λ (t : Table). IsPass c.args.net.now c.args.book.now.entries t 0) (sym c.in_ok-new.ensures)
    (pass-start c.args.net.now c.args.book.now.entries)

pub returns-in_err-of-clause-stopped : goal.returns-in_err-of-clause-stopped
returns-in_err-of-clause-stopped c =
    stops-so c.args.net.now 0 c.args.book.now c.args.book.now c.from_residual-in_err-of.result (first-none c.args.net.now c.args.book.now)

pub returns-in_err-new-clause-stopped : goal.returns-in_err-new-clause-stopped
returns-in_err-new-clause-stopped c =
    stops-so c.args.net.now 0 c.args.book.now c.args.book.now c.from_residual.result (first-none c.args.net.now c.args.book.now)
