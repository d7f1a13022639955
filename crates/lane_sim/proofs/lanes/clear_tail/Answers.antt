use Rattle.std.proofs.Common.{◌≡◌, ◌^◌, ◌%◌, ◌*◌}
use native.Mathlib.Omega.{arith}
use Rattle.std.proofs.lemmas.Nat.{one_shl}
use Rattle.word_sim.proofs.Facts.{tail-cleared}
use Rattle.lane_sim.proofs.lanes.clear_tail.Goals as goal

pub returns-then-rest-ne0-clause-bits : goal.returns-then-rest-ne0-clause-bits
returns-then-rest-ne0-clause-bits c =
    let mask : (1 * 2 ^ (c.args.count % 64) % 2 ^ 64) ≡ 2 ^ (c.args.count % 64) = one_shl (c.args.count % 64) 64 (omega arith) in
    rw mask (tail-cleared c.args.count c.args.words.now c.if-rest-ne0.true c.requires)
