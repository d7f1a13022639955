-- The outputs so far are shown.
use Rattle.fraig_write.specs.Mirroring.{IsUpToOutput}
use Rattle.fraig_write.proofs.mirrored.show_outputs.Given as goal

abbrev pub invariant-loop-j : goal.invariant-loop-j
invariant-loop-j l = IsUpToOutput l.net l.fn.book l.j l.book
