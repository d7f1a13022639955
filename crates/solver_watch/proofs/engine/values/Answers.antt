-- Each round reads one put more.
use Rattle.std.proofs.Common.{sym, ap, ◌∙◌}
use Rattle.std.proofs.lemmas.List.{map_more, take_all}
use Rattle.watch_lists.specs.Trail.{lits_of}
use Rattle.watch_lists.specs.declared.put.Put.{Put}
use Rattle.solver_watch.proofs.engine.values.Goals as goal

pub loop-put-preserved : goal.loop-put-preserved
loop-put-preserved c =
    rw (c.in_ok-push.ensures.items, c.loop-put.invariant)
    (sym (map_more (λ (p : Put). p.lit) c.args.puts.now c.loop-put.put-index _ c.loop-put-test.true))

pub returns : goal.returns
returns c = c.loop-put.invariant ∙ ap lits_of (take_all c.loop-put.put-index c.args.puts.now c.loop-put-test.false)
