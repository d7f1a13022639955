use Rattle.std.proofs.Common.{◌≡◌, ◌≤◌, ◌<◌, length, arith}
use Rattle.std.specs.BTreeMap.{get}
use Rattle.std.specs.Ordering.{nat_cmp}
use Rattle.lrat_checker.proofs.LiveLemmas.{filled, added, beside}
use Rattle.lrat_checker.proofs.live.LiveClauses.put.Goals as goal

pub returns-then-place-len : goal.returns-then-place-len
returns-then-place-len c = λ name.
    let self = c.args.self.now in
    let within : c.args.id < length self.slots.items = omega (arith, c.if-place-len.true, c.len.ensures, self.slots.ok.0) in
    filled self.slots.items c.args.id c.args.clause name (get nat_cmp self.others name) within

pub returns-in_ok-push : goal.returns-in_ok-push
returns-in_ok-push c = λ name.
    let self = c.args.self.now in
    let same : c.args.id ≡ length self.slots.items = omega (arith, c.if-place-len-2.true, c.len-else-place-len.ensures, self.slots.ok.0) in
    rw (c.in_ok-push.ensures.items, same) (added self.slots.items c.args.clause name (get nat_cmp self.others name))

pub returns-in_ok-put_apart : goal.returns-in_ok-put_apart
returns-in_ok-put_apart c = λ name.
    let self = c.args.self.now in
    let past : length self.slots.items ≤ c.args.id = omega (arith, c.if-place-len.false, c.len.ensures, self.slots.ok.0) in
    beside self.slots.items c.args.clause c.args.id name (get nat_cmp self.others name) (get nat_cmp c.put_apart.new.others name) past (c.in_ok-put_apart.ensures name)
