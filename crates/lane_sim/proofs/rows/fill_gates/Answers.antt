use Rattle.std.proofs.Common.{◌≡◌, ◌∙◌, ◌+◌, ◌*◌, ◌≤◌, ◌<◌, ℕ, List, false, get_or, ap, sym, subst, length, arith}
use Rattle.netlist.specs.declared.gate.Fanins.{Fanins}
use Rattle.netlist.specs.Net.{nodes_of, node_at}
use Rattle.netlist.proofs.Facts.{IsGateAt}
use Rattle.word_sim.specs.Patterns.{words_of}
use Rattle.word_sim.specs.Rows.{AreFilled, HasBits, value_on}
use Rattle.word_sim.proofs.Facts.{gate-there, gates-last, times-mono}
use Rattle.lane_sim.proofs.KnownLemmas.{known-next, known-size}
use Rattle.lane_sim.proofs.rows.fill_gates.Goals as goal

abbrev none : Fanins
none = record { left = record { position = 0; neg = false }; right = record { position = 0; neg = false } }

pub first_words-row-requires-clause-room : goal.first_words-row-requires-clause-room
first_words-row-requires-clause-room c =
    let position = 1 + c.inputs.result + c.loop-k.k in
    let below : position + 1 ≤ length (nodes_of c.args.net.now) =
    omega (arith, c.loop-k-test.true, c.inputs.ensures, c.requires.inputs, gates-last c.args.net.now c.all_fanins-gate-items.result.now c.all_fanins-gate-items.ensures) in
    omega (arith, c.requires.known.room, times-mono (position + 1) (length (nodes_of c.args.net.now)) c.args.known.stride below)

pub fill_gate-requires-clause-left : goal.fill_gate-requires-clause-left
fill_gate-requires-clause-left c =
    let gate = gate-there c.args.net.now c.is_net.ensures c.all_fanins-gate-items.result.now c.loop-k.k none c.all_fanins-gate-items.ensures c.loop-k-test.true in
    omega (arith, gate.left, c.inputs.ensures, c.requires.inputs)

pub fill_gate-requires-clause-right : goal.fill_gate-requires-clause-right
fill_gate-requires-clause-right c =
    let gate = gate-there c.args.net.now c.is_net.ensures c.all_fanins-gate-items.result.now c.loop-k.k none c.all_fanins-gate-items.ensures c.loop-k-test.true in
    omega (arith, gate.right, c.inputs.ensures, c.requires.inputs)

pub fill_gate-requires-clause-known : goal.fill_gate-requires-clause-known
fill_gate-requires-clause-known c =
    let position = 1 + c.inputs.result + c.loop-k.k in
    let below : position < length (nodes_of c.args.net.now) =
    omega (arith, c.loop-k-test.true, c.inputs.ensures, c.requires.inputs, gates-last c.args.net.now c.all_fanins-gate-items.result.now c.all_fanins-gate-items.ensures) in
    omega (arith, c.requires.known.few, c.patterns-count.ensures.count, known-size c.args.net.now c.args.pool.now.patterns c.args.known.words c.args.known.stride c.args.known.rows.now c.requires.known position c.first_words-row.result.now below c.first_words-row.ensures)

pub fill_gate-requires-clause-room : goal.fill_gate-requires-clause-room
fill_gate-requires-clause-room c =
    let words = words_of (length c.args.pool.now.patterns) in
    let position = 1 + c.inputs.result + c.loop-k.k in
    let below : position + 1 ≤ length (nodes_of c.args.net.now) =
    omega (arith, c.loop-k-test.true, c.inputs.ensures, c.requires.inputs, gates-last c.args.net.now c.all_fanins-gate-items.result.now c.all_fanins-gate-items.ensures) in
    let same : (position + 1) * c.words-words.result ≡ (position + 1) * words = ap (λ (n : ℕ). (position + 1) * n) c.words-words.ensures.words in
    omega (arith, same, c.loop-k.invariant.size, times-mono (position + 1) (length (nodes_of c.args.net.now)) words below)

pub loop-k-preserved : goal.loop-k-preserved
loop-k-preserved c =
    let net = c.args.net.now in
    let patterns = c.args.pool.now.patterns in
    let known = c.args.known in
    let row = c.first_words-row.result.now in
    let position = 1 + c.inputs.result + c.loop-k.k in
    let gate-here = get_or c.all_fanins-gate-items.result.now c.loop-k.k none in
    let same : 1 + length net.a.inputs + c.loop-k.k ≡ position = omega (arith, c.inputs.ensures, c.requires.inputs) in
    let next : position + 1 ≡ 1 + length net.a.inputs + (c.loop-k.k + 1) = omega (arith, same) in
    let gate = gate-there net c.is_net.ensures c.all_fanins-gate-items.result.now c.loop-k.k none c.all_fanins-gate-items.ensures c.loop-k-test.true in
    let below : position < length (nodes_of net) =
    omega (arith, c.loop-k-test.true, c.inputs.ensures, c.requires.inputs, gates-last net c.all_fanins-gate-items.result.now c.all_fanins-gate-items.ensures) in
    let size : length row ≡ known.words = known-size net patterns known.words known.stride known.rows.now c.requires.known position row below c.first_words-row.ensures in
    let begun : HasBits (64 * length row) (value_on net patterns (node_at net position)) row =
    subst (λ (n : ℕ). HasBits (64 * n) (value_on net patterns (node_at net position)) row) (sym size)
    (subst (λ (xs : List ℕ). HasBits (64 * known.words) (value_on net patterns (node_at net position)) xs) (sym c.first_words-row.ensures) (c.requires.known.each position below)) in
    subst (λ (n : ℕ). AreFilled net patterns n c.fill_gate.new.buf) next
    (known-next net patterns gate-here c.words-words.result c.patterns-count.result position row c.loop-k.buf c.fill_gate.new.buf
    (subst (λ (n : ℕ). IsGateAt net n gate-here) same gate) (c.words-words.ensures.words ∙ sym (ap words_of c.patterns-count.ensures.count)) c.patterns-count.ensures.count
    (subst (λ (n : ℕ). AreFilled net patterns n c.loop-k.buf) same c.loop-k.invariant) c.fill_gate.ensures.put c.fill_gate.ensures.row begun)

pub returns : goal.returns
returns c =
    let all : c.loop-k.k ≡ length c.all_fanins-gate-items.result.now = omega (arith, c.loop-k.auto.k-end, c.loop-k-test.false) in
    subst (λ (n : ℕ). AreFilled c.args.net.now c.args.pool.now.patterns n c.loop-k.buf)
    (ap (λ (n : ℕ). 1 + length c.args.net.now.a.inputs + n) all ∙ gates-last c.args.net.now c.all_fanins-gate-items.result.now c.all_fanins-gate-items.ensures)
    c.loop-k.invariant
