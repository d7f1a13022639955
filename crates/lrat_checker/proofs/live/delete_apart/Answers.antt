use Rattle.std.specs.BTreeMap.{get}
use Rattle.std.specs.Ordering.{nat_cmp}
use Rattle.lrat_checker.proofs.LiveLemmas.{taken-out}
use Rattle.lrat_checker.proofs.live.delete_apart.Goals as goal

pub returns : goal.returns
returns c = λ name. taken-out (get nat_cmp c.args.others.now name) (get nat_cmp c.remove.new.self name) c.args.id name (c.remove.ensures.updates.0 name)
