use Rattle.std.proofs.Common.{◌∙◌, ℕ, ap, bit_and, bit_xor}
use native.Mathlib.Omega.{arith}
use Rattle.std.specs.List.{slice_index_or}
use Rattle.word_sim.specs.Rows.{mask_of}
use Rattle.word_sim.proofs.Facts.{gate-bits}
use Rattle.lane_sim.proofs.lanes.put_gate.Goals as goal

pub returns-clause-bits : goal.returns-clause-bits
returns-clause-bits c = λ f g first second.
    gate-bits c.args.count f g c.args.left.now c.args.right.now c.put_both.new.words c.clear_tail.new.words c.args.left_neg c.args.right_neg first second
    (c.put_both.ensures.size ∙ c.requires.words) c.clear_tail.ensures.size
    (λ w inside. c.put_both.ensures.words w (omega (arith, c.put_both.ensures.size))
    ∙ ap (λ (m : ℕ). bit_and (bit_xor (slice_index_or c.args.left.now w 0) m) (bit_xor (slice_index_or c.args.right.now w 0) c.mask_of-2.result)) c.mask_of.ensures
    ∙ ap (λ (m : ℕ). bit_and (bit_xor (slice_index_or c.args.left.now w 0) (mask_of c.args.left_neg)) (bit_xor (slice_index_or c.args.right.now w 0) m)) c.mask_of-2.ensures)
    c.clear_tail.ensures.bits
