use Rattle.std.proofs.Common.{◌≤◌, rules}
use Rattle.std.specs.List.{All}
use Rattle.solver_watch.proofs.MarkLemmas.{stale}
use Rattle.solver_watch.proofs.marks.Marks.clear.Goals as goal

pub returns-clause-none : goal.returns-clause-none
returns-clause-none c =
    let low : All (λ s. s ≤ c.if-len-count.self-inside.latest) c.if-len-count.self-inside.stamps.items = search rules in
    stale c.if-len-count.self-inside.stamps.items c.if-len-count.self-inside.latest low
