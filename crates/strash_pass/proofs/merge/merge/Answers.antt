-- The steps are those of a scan over the clauses of the nodes on the way, so the entry is good.
use Rattle.std.proofs.Common.{refl}
use Rattle.std.proofs.lemmas.Result.{on_ok_weaker}
use Rattle.lemma_book.specs.Cone.{clauses_on, nodes_in}
use Rattle.strash_pass.proofs.MergeLemmas.{base-named, earlier-apart, scanned-steps, steps-good}
use Rattle.strash_pass.proofs.merge.merge.Goals as goal

pub steps_of-requires-clause-apart : goal.steps_of-requires-clause-apart
steps_of-requires-clause-apart c = earlier-apart c.args.net.now c.args.node c.args.target c.requires.earlier

pub put-requires-clause-good : goal.put-requires-clause-good
put-requires-clause-good c =
    let base = clauses_on c.args.net.now c.args.book.now.entries (nodes_in c.args.way.now) in
    steps-good c.args.net.now c.args.book.now c.args.node c.args.target c.requires.unmerged c.args.way.now c.requires.no_xors base refl
    c.requires.placed c.requires.earlier c.in_ok-steps.steps.items
    (scanned-steps c.args.node c.args.target (earlier-apart c.args.net.now c.args.node c.args.target c.requires.earlier) base
    (base-named c.args.net.now c.args.book.now.entries c.args.way.now c.requires.no_xors base refl) c.in_ok-steps.steps.items c.in_ok-steps.ensures)

pub returns-clause-ok : goal.returns-clause-ok
returns-clause-ok c =
    on_ok_weaker c.put.result (λ e. record { steps = c.in_ok-steps.steps.items; last = e; scanned = c.in_ok-steps.ensures }) c.put.ensures.ok
