use Rattle.std.proofs.Common.{sym, arith}
use Rattle.board_lock.proofs.PassLemmas.{joined_pass, longer-left, longer-right}
use Rattle.board_lock.proofs.pass.Pass.join.Goals as goal

pub invariant_of-self : goal.invariant_of-self
invariant_of-self c =
    let v = c.self.inside in
    let u = c.other.inside in
    joined_pass v.place.me u.place.me c.join.new.place.me v.number u.number v.left u.left
    v.seen u.seen u.seen c.self.invariant c.other.invariant c.join.ensures.both
    (sym (longer-right v.seen u.seen (let t = c.if-len.true in omega arith)))

pub invariant_of-self-else-len : goal.invariant_of-self-else-len
invariant_of-self-else-len c =
    let v = c.self.inside in
    let u = c.other.inside in
    joined_pass v.place.me u.place.me c.join.new.place.me v.number u.number v.left u.left
    v.seen u.seen v.seen c.self.invariant c.other.invariant c.join.ensures.both
    (sym (longer-left v.seen u.seen (let t = c.if-len.false in omega arith)))
