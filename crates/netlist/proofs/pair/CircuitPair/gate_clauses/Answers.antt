use Rattle.std.proofs.Common.{◌∙◌, true, false, sym}
use Rattle.netlist.proofs.CountLemmas.{count-gate}
use Rattle.netlist.proofs.pair.CircuitPair.gate_clauses.Goals as goal

pub returns-then-are_complementary-clause-count : goal.returns-then-are_complementary-clause-count
returns-then-are_complementary-clause-count c =
    sym (count-gate c.args.self.now c.args.side c.args.index c.gate-gate.result true c.gate-gate.ensures.net c.gate-gate.ensures.gate
    (sym c.are_complementary.ensures ∙ c.if-are_complementary.true))

pub returns-else-are_complementary-clause-count : goal.returns-else-are_complementary-clause-count
returns-else-are_complementary-clause-count c =
    sym (count-gate c.args.self.now c.args.side c.args.index c.gate-gate.result false c.gate-gate.ensures.net c.gate-gate.ensures.gate
    (sym c.are_complementary.ensures ∙ c.if-are_complementary.false))
