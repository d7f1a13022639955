use Rattle.std.proofs.Common.{◌≡◌, ◌+◌, ◌*◌, ◌≤◌, ℕ, List, refl, subst, sym, length}
use native.Mathlib.Omega.{arith}
use Rattle.lane_sim.proofs.LaneLemmas.{AreWritten, both-word, both-lanes, both-size, both-lane, written-next, written-lanes}
use Rattle.lane_sim.proofs.lanes.put_both.Goals as goal

pub loop-k-init : goal.loop-k-init
loop-k-init c = record { size = refl; written = λ k below. absurd (omega arith) }

pub loop-k-preserved : goal.loop-k-preserved
loop-k-preserved c =
    let at = 4 * c.loop-k.k in
    let left = c.args.left.now in
    let right = c.args.right.now in
    let word = both-word left c.args.left_mask right c.args.right_mask in
    let room : at + 4 ≤ length c.loop-k.words = omega (arith, c.loop-k-test.true, c.loop-k.invariant.size) in
    let first : at + 4 ≤ length left = omega (arith, room, c.loop-k.invariant.size, c.requires.left) in
    let second : at + 4 ≤ length right = omega (arith, room, c.loop-k.invariant.size, c.requires.right) in
    let next : at + 4 ≡ 4 * (c.loop-k.k + 1) = omega arith in
    subst (λ (n : ℕ). AreWritten word c.args.words.now n c.put_lanes.new.words) next
    (subst (λ (xs : List ℕ). AreWritten word c.args.words.now (at + 4) xs) (sym c.put_lanes.ensures)
    (written-lanes word c.args.words.now at c.loop-k.words (both-lanes at left c.args.left_mask right c.args.right_mask) c.loop-k.invariant room
    (both-size at left c.args.left_mask right c.args.right_mask first second)
    (λ k below. both-lane at k left c.args.left_mask right c.args.right_mask first second below)))

pub loop-w-preserved : goal.loop-w-preserved
loop-w-preserved c = written-next _ c.args.words.now c.loop-w.w c.loop-w.words _ c.loop-w.invariant (omega (arith, c.loop-w.invariant.size, c.loop-w-test.true)) refl

pub returns-clause-words : goal.returns-clause-words
returns-clause-words c = λ w below. c.loop-w.invariant.written w (omega (arith, below, c.loop-w-test.false))
