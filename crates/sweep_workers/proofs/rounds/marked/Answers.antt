use Rattle.std.proofs.Common.{◌+◌, take}
use Rattle.std.proofs.lemmas.List.{take_more}
use Rattle.sweep_workers.proofs.PartLemmas.{part-next}
use Rattle.sweep_workers.proofs.rounds.marked.Goals as goal

pub loop-k-preserved : goal.loop-k-preserved
loop-k-preserved c =
    let k = c.loop-k.k in
    let due = c.args.due.now in
    part-next c.loop-k.now.items (take k due) c.push_marked.new.now.items (take (k + 1) due) _ c.loop-k.invariant
    c.in_ok-push_marked.ensures (take_more due k _ c.loop-k-test.true)
