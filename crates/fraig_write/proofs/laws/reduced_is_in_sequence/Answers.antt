use Rattle.fraig_write.proofs.OrderLemmas.{is-in-sequence}
use Rattle.fraig_write.proofs.laws.reduced_is_in_sequence.Goals as goal

pub returns : goal.returns
returns c = is-in-sequence c.args.net.now c.is_net.ensures c.args.book.now c.requires.legal c.args.circuit.now c.requires.reduced
