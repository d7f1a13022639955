-- The names so far are written.
use Rattle.std.proofs.Common.{◌≡◌, ◌++◌, take}
use Rattle.circuit_text.specs.Symbols.{symbol_lines}
use Rattle.circuit_text.proofs.symbols.push_input_symbols.Given as goal

abbrev pub invariant-loop-k : goal.invariant-loop-k
invariant-loop-k l = l.text.items ≡ l.fn.text.items ++ symbol_lines 105 0 (take l.k l.circuit.names.inputs)
