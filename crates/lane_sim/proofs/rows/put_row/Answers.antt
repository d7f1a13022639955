use Rattle.lane_sim.proofs.rows.put_row.Goals as goal

pub returns-then-is_empty-clause-bits : goal.returns-then-is_empty-clause-bits
returns-then-is_empty-clause-bits c = λ f g first second known. c.put_gate.ensures.bits f g first second
