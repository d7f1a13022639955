use Rattle.std.proofs.Common.{ℕ, arith, ap}
use Rattle.std.specs.List.{slice_index_or}
use Rattle.std.specs.Int.RustNames.{bit_and, bit_xor}
use Rattle.check_session.proofs.AdmittedLemmas.{kept-none, kept-next, kept-bit}
use Rattle.check_session.proofs.admitted.keep_bits.Goals as goal

pub loop-word-init : goal.loop-word-init
loop-word-init c = kept-none c.args.row.now c.args.other.now c.args.neg

pub loop-word-preserved : goal.loop-word-preserved
loop-word-preserved c =
    kept-next c.args.row.now c.args.other.now c.args.neg c.loop-word.word c.loop-word.row _ c.loop-word.invariant
    (omega (arith, c.loop-word.invariant.size, c.loop-word-test.true))
    (ap (λ (mask : ℕ). bit_and (slice_index_or c.loop-word.row c.loop-word.word 0) (bit_xor (slice_index_or c.args.other.now c.loop-word.word 0) mask))
    c.mask_of-mask.ensures)

pub returns-clause-bits : goal.returns-clause-bits
returns-clause-bits c = λ p below.
    kept-bit c.args.row.now c.args.other.now c.loop-word.row c.args.neg c.loop-word.word p c.loop-word.invariant
    (omega (arith, below, c.loop-word-test.false, c.loop-word.invariant.size))
