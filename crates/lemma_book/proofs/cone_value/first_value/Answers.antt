-- An input stands at the place after its index.
use Rattle.std.proofs.Common.{arith}
use Rattle.lemma_book.proofs.ConeValueLemmas.{value-input}
use Rattle.lemma_book.proofs.cone_value.first_value.Goals as goal

pub returns-else-position-eq0 : goal.returns-else-position-eq0
returns-else-position-eq0 c =
    value-input c.args.net.now c.args.input.now c.args.position (omega (arith, c.if-position-eq0.false)) (omega (arith, c.requires.first, c.requires.whole))
