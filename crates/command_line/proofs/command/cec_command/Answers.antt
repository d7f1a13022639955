use Rattle.command_line.proofs.command.cec_command.Goals as goal

pub returns : goal.returns
returns c = c.program_of.ensures
