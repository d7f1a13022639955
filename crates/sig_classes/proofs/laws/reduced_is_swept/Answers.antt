use Rattle.sig_classes.proofs.SweptLemmas.{reduced-swept}
use Rattle.sig_classes.proofs.laws.reduced_is_swept.Goals as goal

pub returns : goal.returns
returns c = λ net entries patterns is whole reduced n gate. reduced-swept net is entries patterns n whole reduced gate
