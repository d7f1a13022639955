use Rattle.watch_lists.proofs.ListsLemmas.{pushed-empty, spare-push, spare-same}
use Rattle.watch_lists.proofs.lists.push_empty.Goals as goal

pub returns-clause-spare : goal.returns-clause-spare
returns-clause-spare c =
    rw (c.in_ok-push.ensures.items, pushed-empty c.args.lists.now.items c.new.result c.new.ensures.items) (spare-push _ c.args.used c.requires)

pub returns-clause-same : goal.returns-clause-same
returns-clause-same c =
    rw (c.in_ok-push.ensures.items, pushed-empty c.args.lists.now.items c.new.result c.new.ensures.items) (spare-same _ c.args.used c.requires)
