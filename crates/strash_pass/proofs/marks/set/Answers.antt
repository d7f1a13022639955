use Rattle.strash_pass.proofs.WordLemmas.{sets-bit}
use Rattle.strash_pass.proofs.marks.set.Goals as goal

pub returns : goal.returns
returns c = sets-bit c.args.word c.args.bit c.requires
