use Rattle.aiger_text.proofs.Ascii.{aiger-spells}
use Rattle.aiger_text.proofs.laws.written_ascii.Goals as goal

pub returns : goal.returns
returns c = aiger-spells
