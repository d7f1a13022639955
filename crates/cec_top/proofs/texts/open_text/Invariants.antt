-- What went before is written.
use Rattle.std.proofs.Common.{◌≡◌, ◌++◌, take}
use Rattle.std.specs.List.{flat_map}
use Rattle.cec_top.specs.Texts.{output_line}
use Rattle.cec_top.proofs.texts.open_text.Given as goal

abbrev pub invariant-loop-output : goal.invariant-loop-output
invariant-loop-output l =
    l.text.items ≡ l.initial.text.items ++ flat_map output_line (take l.output-index l.outputs)
