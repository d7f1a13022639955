use Rattle.std.proofs.Common.{sym, subst}
use Rattle.word_sim.specs.Patterns.{Patterns}
use Rattle.sweep_workers.specs.Swept.{IsPoolFor}
use Rattle.check_session.proofs.PoolLemmas.{pool-or_first}
use Rattle.check_session.proofs.ReductionLemmas.{swept-book}
use Rattle.check_session.proofs.reduction.swept_book.Goals as goal
use Rattle.std.specs.Prelude.{None}

pub sweep_by-requires-clause-pool : goal.sweep_by-requires-clause-pool
sweep_by-requires-clause-pool g c κs lives =
    subst (λ (p : Patterns). IsPoolFor c.args.net.now p) (sym c.in_ok-pool.ensures)
    (pool-or_first c.args.net.now c.args.options None tt).fits

pub returns : goal.returns
returns g c =
    swept-book c.args.net.now c.args.options _ _ _ _ _ c.requires.alone c.new-book.ensures c.in_ok-pool.ensures
    (record { merges = c.run.ensures.structural; plain = c.in_ok-run.ensures.plain }) c.in_ok-swept.ensures.sweeps
    c.in_ok-swept.ensures.reduced
    (c.is_swept.ensures _ _ c.in_ok-swept.ensures.pool.whole c.in_ok-swept.ensures.reduced)
