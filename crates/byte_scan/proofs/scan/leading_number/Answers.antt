use Rattle.std.proofs.Common.{sym, ◌∙◌, arith}
use Rattle.byte_scan.proofs.DigitLemmas.{HasRead-none, HasRead-digit, HasRead-end, digits-at_end, digits-at_other}
use Rattle.byte_scan.proofs.scan.leading_number.Goals as goal

pub loop-i-init : goal.loop-i-init
loop-i-init c = HasRead-none c.args.bytes.now

pub loop-i-preserved : goal.loop-i-preserved
loop-i-preserved c =
    rw c.with_digit-value.ensures (HasRead-digit c.args.bytes.now c.loop-i.i c.loop-i.value c.loop-i.invariant c.loop-i-test.true (sym c.is_ascii_digit.ensures.value ∙ c.if-not-is_ascii_digit.false))

pub returns-then-not-is_ascii_digit : goal.returns-then-not-is_ascii_digit
returns-then-not-is_ascii_digit c =
    let bytes = c.args.bytes.now in
    let none = digits-at_other bytes c.loop-i.i c.loop-i-test.true (sym c.is_ascii_digit.ensures.value ∙ c.if-not-is_ascii_digit.true) in
    let all = HasRead-end bytes c.loop-i.i c.loop-i.value c.loop-i.invariant c.loop-i.auto.i-end none in
    record { value = all.0; len = all.1; within = c.loop-i.auto.i-end }

pub returns : goal.returns
returns c =
    let bytes = c.args.bytes.now in
    let none = digits-at_end bytes c.loop-i.i c.loop-i-test.false in
    let all = HasRead-end bytes c.loop-i.i c.loop-i.value c.loop-i.invariant c.loop-i.auto.i-end none in
    record { value = all.0; len = omega (arith, all.1); within = omega arith }
