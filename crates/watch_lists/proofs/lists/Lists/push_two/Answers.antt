use Rattle.std.proofs.Common.{List, ◌-◌, length, take, ap, ◌∙◌}
use Rattle.std.specs.Prelude.{slice_set}
use Rattle.watch_lists.specs.State.{list_at}
use Rattle.watch_lists.specs.declared.lists.Watch.{Watch}
use Rattle.watch_lists.proofs.WatchLemmas.{pushed-back}
use Rattle.watch_lists.proofs.lists.Lists.push_two.Goals as goal

pub returns-in-Err-clause-err : goal.returns-in-Err-clause-err
returns-in-Err-clause-err c =
    c.drop_last.ensures
    ∙ (ap (λ (z : List (List Watch)). slice_set z c.args.first (take (length (list_at z c.args.first) - 1) (list_at z c.args.first))) (c.in-Err.ensures.err ∙ c.in_ok-push.ensures.ok)
    ∙ pushed-back c.args.self.now c.args.first c.args.one c.requires.first)
