use Rattle.aiger_text.proofs.Binary.{aiger-spells}
use Rattle.aiger_text.proofs.laws.written_binary.Goals as goal

pub returns : goal.returns
returns c = aiger-spells
