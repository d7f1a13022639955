use Rattle.std.proofs.Common.{false}
use Rattle.word_sim.specs.declared.gates.GateAt.{GateAt}
use Rattle.word_sim.proofs.GateLemmas.{filling-next}
use Rattle.word_sim.proofs.gates.GateList.fill.Goals as goal

abbrev none : GateAt
none = record {
  place = 0;
  fanins = record { left = record { position = 0; neg = false }; right = record { position = 0; neg = false } };
}

pub loop-gate-preserved : goal.loop-gate-preserved
loop-gate-preserved c =
    filling-next c.args.words c.args.rows.now c.deref-gate-items.result.now c.loop-gate.gate-index none c.loop-gate.rows c.fill_gate.new.buf
    c.loop-gate.invariant c.loop-gate-test.true c.fill_gate.ensures.put c.fill_gate.ensures.rest c.fill_gate.ensures.row
