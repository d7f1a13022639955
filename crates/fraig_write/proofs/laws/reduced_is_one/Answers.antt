use Rattle.fraig_write.proofs.OneCircuit.{reduced-one}
use Rattle.fraig_write.proofs.laws.reduced_is_one.Goals as goal

pub returns : goal.returns
returns c = reduced-one c.args.net.now.a c.args.book.now.entries
