use Rattle.std.proofs.Common.{◌≡◌, ◌++◌, take, map, decimal}
use Rattle.tokens.specs.Text.{spaced}
use Rattle.circuit_text.proofs.lines.push_line.Given as goal

abbrev pub invariant-loop-number : goal.invariant-loop-number
invariant-loop-number l =
    l.text.items ≡ l.fn.text.items ++ decimal l.first ++ spaced (map decimal (take l.number-index l.rest))
