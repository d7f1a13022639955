use Rattle.std.specs.BTreeMap.{get}
use Rattle.std.specs.Ordering.{nat_cmp}
use Rattle.lrat_checker.proofs.LiveLemmas.{put-in}
use Rattle.lrat_checker.proofs.live.put_apart.Goals as goal

pub returns : goal.returns
returns c = λ name. put-in (get nat_cmp c.args.others.now name) (get nat_cmp c.insert.new.self name) c.args.clause c.args.id name (c.in_ok-insert.ensures.updates.0 name)
