use Rattle.std.proofs.Common.{◌≡◌, true, false, sym}
use Rattle.lits.specs.Same.{same_node}
use Rattle.netlist.proofs.AxiomLemmas.{length-xor}
use Rattle.netlist.proofs.axioms.xor_count.Goals as goal

pub returns-then-eq-clause-count : goal.returns-then-eq-clause-count
returns-then-eq-clause-count c =
    let same : same_node c.args.xor.left.node c.args.xor.right.node ≡ true = cc in sym (length-xor c.args.xor c.requires true same)

pub returns-else-eq-clause-count : goal.returns-else-eq-clause-count
returns-else-eq-clause-count c =
    let same : same_node c.args.xor.left.node c.args.xor.right.node ≡ false = cc in sym (length-xor c.args.xor c.requires false same)
