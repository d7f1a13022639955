use Rattle.std.proofs.Common.{◌≡◌, ◌≤◌, ◌+◌, ◌*◌, length, arith, vec_capacity}
use Rattle.watch_lists.proofs.PutsLemmas.{whole-grown, whole-same, puts-few}
use Rattle.watch_lists.proofs.trail.make_room.Goals as goal

pub overflow_sub-more : goal.overflow_sub-more
overflow_sub-more c = let few = puts-few c.requires.whole in omega (arith, c.len.ensures, c.args.puts.now.ok.0)

pub returns-in_err-grow-clause-whole : goal.returns-in_err-grow-clause-whole
returns-in_err-grow-clause-whole c =
    rw c.reserve.ensures.items (whole-same c.requires.whole c.grow.new.self (vec_capacity c.reserve.new.self) c.in_err-grow.ensures.err c.reserve.ensures.capacity)

pub returns-clause-whole : goal.returns-clause-whole
returns-clause-whole c =
    let e = c.args.engine.now in
    let size = c.requires.whole.size in
    let even = c.requires.whole.engine.trail.even in
    let truth : length e.truth.items ≡ 2 * length c.args.numbers.now = omega (arith, c.if-len-count.false, c.len.ensures, c.len-2.ensures, e.truth.ok.0) in
    let few = puts-few c.requires.whole in
    let room : length e.truth.items + 2 ≤ vec_capacity c.reserve.new.self = omega (arith, c.in_ok-reserve.ensures.ok, c.args.puts.now.ok.0, c.len.ensures, c.len-3.ensures) in
    rw c.reserve.ensures.items (whole-grown c.requires.whole c.grow.new.self (vec_capacity c.reserve.new.self) c.in_ok-grow.ensures.ok (omega (arith, c.requires.few)) room)
