use Rattle.std.proofs.Common.{◌≡◌, ◌++◌, take}
use Rattle.std.specs.List.{flat_map}
use Rattle.circuit_text.specs.AsciiText.{input_line}
use Rattle.circuit_text.proofs.lines.push_inputs.Given as goal

abbrev pub invariant-loop-var : goal.invariant-loop-var
invariant-loop-var l = l.text.items ≡ l.fn.text.items ++ flat_map input_line (take l.var-index l.inputs)
