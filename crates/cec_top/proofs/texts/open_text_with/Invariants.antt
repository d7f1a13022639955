-- What went before is written.
use Rattle.std.proofs.Common.{◌≡◌, ◌++◌, take}
use Rattle.std.specs.List.{flat_map}
use Rattle.cec_top.specs.Texts.{span_line}
use Rattle.cec_top.proofs.texts.open_text_with.Given as goal

abbrev pub invariant-loop-span : goal.invariant-loop-span
invariant-loop-span l =
    l.text.items ≡ l.initial.text.items ++ flat_map span_line (take l.span-index l.spans)
