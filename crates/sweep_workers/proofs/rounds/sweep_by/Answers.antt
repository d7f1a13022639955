use Rattle.std.proofs.Common.{◌≡◌, List, [], true, length, sym, subst, ◌∙◌}
use Rattle.std.specs.Prelude.{◌==◌}
use Rattle.lemma_book.specs.declared.entry.Task.{Task}
use Rattle.sig_classes.specs.Leader.{AreTasks}
use Rattle.sweep_workers.proofs.AnswerLemmas.{kept-swept, none-items, pool-swept, sweeps-none, sweeps-twice}
use Rattle.sweep_workers.proofs.OnceLemmas.{fresh-round}
use Rattle.sweep_workers.proofs.rounds.sweep_by.Goals as goal

pub returns-then-is_empty-clause-reduced : goal.returns-then-is_empty-clause-reduced
returns-then-is_empty-clause-reduced g c =
    let at = c.loop.swept in
    let none : c.in_ok-due.due.items ≡ [] =
    none-items c.in_ok-due.due.items
    (subst (λ (ts : List Task). (length ts == 0) ≡ true) c.as_slice-pairs.ensures.value (sym c.is_empty.ensures ∙ c.if-is_empty.true)) in
    c.reduced_without_tasks.ensures c.args.net.now at.book.entries at.pool.patterns
    (subst (λ (ts : List Task). AreTasks c.args.net.now at.book.entries at.pool.patterns ts) none c.in_ok-due.ensures.tasks)

pub settle_due-requires-clause-due : goal.settle_due-requires-clause-due
settle_due-requires-clause-due g c κs lives =
    let at = c.loop.swept in
    subst (λ (ts : List Task). AreTasks c.args.net.now at.book.entries at.pool.patterns ts) (sym c.as_slice-pairs.ensures.value)
    c.in_ok-due.ensures.tasks

pub loop-preserved : goal.loop-preserved
loop-preserved g c =
    let net = c.args.net.now in
    let at = c.loop.swept in
    let new = c.in_ok-next.next in
    let i = c.loop.invariant in
    let done = c.in_ok-next.ensures in
    let tasks =
    subst (λ (ts : List Task). AreTasks net at.book.entries at.pool.patterns ts) (sym c.as_slice-pairs.ensures.value) c.in_ok-due.ensures.tasks in
    let apart = fresh-round net c.args.swept.book at.book c.args.swept.pool at.pool i.sweeps _ done.sweeps.added tasks done.among in
    record {
      sweeps = sweeps-twice net c.args.swept.book at.book new.book c.args.swept.pool at.pool new.pool i.sweeps done.sweeps apart;
      pool = pool-swept net at.book new.book at.pool new.pool done.sweeps i.pool;
      kept = kept-swept net at.book new.book at.pool new.pool c.tasks.new.self done.sweeps c.tasks.ensures.kept;
    }

pub loop-init : goal.loop-init
loop-init g c = record {
  sweeps = sweeps-none c.args.net.now c.args.swept.book c.args.swept.pool c.requires.legal;
  pool = c.requires.pool;
  kept = c.in_ok-classes.ensures c.args.swept.pool.patterns;
}
