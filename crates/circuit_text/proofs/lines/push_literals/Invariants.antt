use Rattle.std.proofs.Common.{◌≡◌, ◌++◌, take}
use Rattle.std.specs.List.{flat_map}
use Rattle.circuit_text.specs.Lines.{literal_line}
use Rattle.circuit_text.proofs.lines.push_literals.Given as goal

abbrev pub invariant-loop-literal : goal.invariant-loop-literal
invariant-loop-literal l =
    l.text.items ≡ l.fn.text.items ++ flat_map literal_line (take l.literal-index l.literals)
