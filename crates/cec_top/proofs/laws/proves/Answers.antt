use Rattle.cec_top.proofs.MeansLemmas.{proof-finding}
use Rattle.cec_top.proofs.laws.proves.Goals as goal

pub returns : goal.returns
returns c = λ finding finds.
    proof-finding c.args.net.now c.args.book.now.entries finding finds c.refutes.ensures c.derives.ensures.derives c.derives.ensures.spans
