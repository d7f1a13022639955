use Rattle.std.proofs.Common.{◌≡◌, List, ℕ, length, arith, ap, ◌∙◌}
use Rattle.netlist.specs.Circuit.{Aig}
use Rattle.netlist.specs.Net.{circuit_of}
use Rattle.netlist.proofs.Facts.{is_circuit}
use Rattle.check_session.proofs.AdmittedLemmas.{met-none, met-next, met-all}
use Rattle.check_session.proofs.admitted.keep_met.Goals as goal

pub overflow_cast-count : goal.overflow_cast-count
overflow_cast-count c =
    let size : length c.constraints.result.now ≡ length (circuit_of c.args.net.now c.args.side).constraints =
    ap (λ (lits : List ℕ). length lits) (c.constraints.ensures.constraints ∙ ap (λ (circuit : Aig). circuit.constraints) c.circuit.ensures.circuit) in
    omega (arith, size, (is_circuit c.args.net.now c.circuit.ensures.net c.args.side).constraint_count)

pub loop-k-init : goal.loop-k-init
loop-k-init c = met-none c.args.net.now c.args.sigs.now c.args.side c.args.row.now

pub loop-k-preserved : goal.loop-k-preserved
loop-k-preserved c =
    let size : length c.constraints.result.now ≡ length (circuit_of c.args.net.now c.args.side).constraints =
    ap (λ (lits : List ℕ). length lits) (c.constraints.ensures.constraints ∙ ap (λ (circuit : Aig). circuit.constraints) c.circuit.ensures.circuit) in
    met-next c.args.net.now c.args.sigs.now c.args.side c.args.row.now c.loop-k.k c.loop-k.row c.constraint_row-neg.result.0.now c.keep_bits.new.row
    c.constraint_row-neg.result.1 (omega (arith, size, c.loop-k-test.true)) c.requires.size c.loop-k.invariant c.constraint_row-neg.ensures.row
    c.constraint_row-neg.ensures.sign c.keep_bits.ensures.size c.keep_bits.ensures.bits

pub returns-clause-bits : goal.returns-clause-bits
returns-clause-bits c =
    let size : length c.constraints.result.now ≡ length (circuit_of c.args.net.now c.args.side).constraints =
    ap (λ (lits : List ℕ). length lits) (c.constraints.ensures.constraints ∙ ap (λ (circuit : Aig). circuit.constraints) c.circuit.ensures.circuit) in
    met-all c.args.net.now c.args.sigs.now c.args.side c.args.row.now c.loop-k.k c.loop-k.row
    (omega (arith, size, c.loop-k-test.false)) c.loop-k.invariant
