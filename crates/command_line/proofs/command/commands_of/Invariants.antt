use Rattle.std.proofs.Common.{take}
use Rattle.command_line.specs.Table.{AreCommands}
use Rattle.command_line.proofs.command.commands_of.Given as goal

abbrev pub invariant-loop-row : goal.invariant-loop-row
invariant-loop-row l = AreCommands l.commands.items (take l.row-index l.rows)
