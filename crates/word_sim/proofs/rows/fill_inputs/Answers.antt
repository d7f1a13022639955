use Rattle.std.proofs.Common.{◌+◌, ◌≤◌, sym, subst, length, arith}
use Rattle.lits.specs.declared.node.Node.{Node}
use Rattle.netlist.specs.Net.{nodes_of}
use Rattle.netlist.proofs.Facts.{length-nodes, node-input}
use Rattle.word_sim.specs.Patterns.{words_of}
use Rattle.word_sim.specs.Rows.{AreFilled, IsRow, row_at}
use Rattle.word_sim.proofs.PoolLemmas.{times-mono}
use Rattle.word_sim.proofs.RowLemmas.{filled-next, kept-later}
use Rattle.word_sim.proofs.rows.fill_inputs.Goals as goal

pub fill_input-requires-clause-room : goal.fill_input-requires-clause-room
fill_input-requires-clause-room c =
    let words = words_of (length c.args.pool.now.patterns) in
    let below : c.loop-input.input + 2 ≤ length (nodes_of c.args.net.now) =
    omega (arith, c.loop-input-test.true, c.inputs-input-end.ensures, c.requires.inputs, length-nodes c.args.net.now) in
    omega (arith, c.loop-input.invariant.filled.size, times-mono (c.loop-input.input + 2) (length (nodes_of c.args.net.now)) words below)

pub loop-input-preserved : goal.loop-input-preserved
loop-input-preserved c =
    let net = c.args.net.now in
    let patterns = c.args.pool.now.patterns in
    let here = node-input net c.loop-input.input (omega (arith, c.loop-input-test.true, c.inputs-input-end.ensures, c.requires.inputs)) in
    let filled : AreFilled net patterns (c.loop-input.input + 1 + 1) c.fill_input.new.buf =
    filled-next net patterns (c.loop-input.input + 1) c.loop-input.buf c.fill_input.new.buf c.loop-input.invariant.filled c.fill_input.ensures.put
    (subst (λ (n : Node). IsRow net patterns n (row_at (words_of (length patterns)) (c.loop-input.input + 1) c.fill_input.new.buf)) (sym here) c.fill_input.ensures.row) in
    record {
      filled = filled;
      rest = kept-later (words_of (length patterns)) (c.loop-input.input + 1) (c.loop-input.input + 1 + 1) c.args.buf.now c.loop-input.buf
          c.fill_input.new.buf (omega arith) c.loop-input.invariant.rest c.fill_input.ensures.rest;
    }
