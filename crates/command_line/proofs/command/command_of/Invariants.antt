use Rattle.std.proofs.Common.{take}
use Rattle.command_line.proofs.TableLemmas.{AreArguments}
use Rattle.command_line.proofs.command.command_of.Given as goal

abbrev pub invariant-loop-argument : goal.invariant-loop-argument
invariant-loop-argument l = AreArguments l.arguments.items (take l.argument-index l.argument-items)
