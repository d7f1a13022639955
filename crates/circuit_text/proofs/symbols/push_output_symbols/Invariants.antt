-- The names so far are written.
use Rattle.std.proofs.Common.{◌≡◌, ◌++◌, take}
use Rattle.circuit_text.specs.Symbols.{symbol_lines}
use Rattle.circuit_text.proofs.symbols.push_output_symbols.Given as goal

abbrev pub invariant-loop-j : goal.invariant-loop-j
invariant-loop-j l = l.text.items ≡ l.fn.text.items ++ symbol_lines 111 0 (take l.j l.circuit.names.outputs)
