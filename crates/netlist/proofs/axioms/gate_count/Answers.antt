use Rattle.std.proofs.Common.{◌≡◌, true, false, sym}
use Rattle.lits.specs.Same.{same_lit, opposite}
use Rattle.netlist.proofs.AxiomLemmas.{length-gate}
use Rattle.netlist.proofs.axioms.gate_count.Goals as goal

pub returns-then-eq-clause-count : goal.returns-then-eq-clause-count
returns-then-eq-clause-count c =
    let pair : same_lit c.args.gate.right (opposite c.args.gate.left) ≡ true = cc in sym (length-gate c.args.gate c.requires true pair)

pub returns-else-eq-clause-count : goal.returns-else-eq-clause-count
returns-else-eq-clause-count c =
    let pair : same_lit c.args.gate.right (opposite c.args.gate.left) ≡ false = cc in sym (length-gate c.args.gate c.requires false pair)
