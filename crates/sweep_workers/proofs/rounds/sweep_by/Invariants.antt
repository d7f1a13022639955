use Rattle.sig_classes.specs.Kept.{AreKept}
use Rattle.sweep_workers.specs.Swept.{IsPoolFor, Sweeps}
use Rattle.sweep_workers.proofs.rounds.sweep_by.Given as goal

abbrev pub invariant-loop : goal.invariant-loop
invariant-loop g l = record {
  sweeps : Sweeps l.net l.fn.swept.book l.swept.book l.fn.swept.pool l.swept.pool;
  pool : IsPoolFor l.net l.swept.pool;
  kept : AreKept l.net l.swept.pool.patterns l.classes;
}
