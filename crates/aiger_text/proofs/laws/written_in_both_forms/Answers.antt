use Rattle.std.proofs.Common.{◌∙◌, sym}
use Rattle.aiger_text.proofs.Ascii.{aiger-spells}
use Rattle.aiger_text.proofs.Binary.{aiger-spells as binary-spells}
use Rattle.aiger_text.proofs.laws.written_in_both_forms.Goals as goal

pub returns : goal.returns
returns c = λ m a circuit bound sequence. aiger-spells m a circuit bound ∙ sym (binary-spells a circuit sequence)
