-- What went before is written.
use Rattle.std.proofs.Common.{◌≡◌, ◌++◌, take}
use Rattle.std.specs.Prelude.{map}
use Rattle.cec_top.specs.Texts.{digit_of}
use Rattle.cec_top.proofs.texts.push_digits.Given as goal

abbrev pub invariant-loop-bit : goal.invariant-loop-bit
invariant-loop-bit l =
    l.text.items ≡ l.initial.text.items ++ map digit_of (take l.bit-index l.input)
