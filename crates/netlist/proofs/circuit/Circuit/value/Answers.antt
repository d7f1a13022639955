use Rattle.std.proofs.Common.{◌≡◌, ◌<◌, ◌&&◌, List, length, get_or, ap, ◌∙◌, subst, arith}
use Rattle.netlist.specs.declared.gate.And.{And}
use Rattle.netlist.specs.Circuit.{Aig, IsCircuit, lit_value}
use Rattle.netlist.specs.Source.{read_in}
use Rattle.netlist.proofs.RunLemmas.{computed_none, computed_more, computed_all}
use Rattle.netlist.proofs.circuit.Circuit.value.Goals as goal

abbrev none : And
none = record { var = 0; left = 0; right = 0 }

pub loop-i-init : goal.loop-i-init
loop-i-init c =
    computed_none c.args.self.now c.args.inputs.now c.args.buf.now (subst (λ (g : Aig). IsCircuit g) c.self.view_is c.self.invariant.circuit)

pub loop-i-preserved : goal.loop-i-preserved
loop-i-preserved c =
    let circuit = subst (λ (g : Aig). IsCircuit g) c.self.view_is c.self.invariant.circuit in
    let items : c.gates-gate-items.result.now ≡ c.args.self.now.gates = c.gates-gate-items.ensures ∙ ap (λ (g : Aig). g.gates) c.self.view_is in
    let below : c.loop-i.i < length c.args.self.now.gates = subst (λ (gs : List And). c.loop-i.i < length gs) items c.loop-i-test.true in
    let element : get_or c.gates-gate-items.result.now c.loop-i.i none ≡ get_or c.args.self.now.gates c.loop-i.i none =
    ap (λ (gs : List And). get_or gs c.loop-i.i none) items in
    let value = subst (λ (g : And). c.both.result ≡ (lit_value (read_in c.args.self.now c.args.inputs.now c.loop-i.buf) g.left && lit_value (read_in c.args.self.now c.args.inputs.now c.loop-i.buf) g.right)) element c.both.ensures in
    computed_more c.args.self.now c.args.inputs.now c.loop-i.buf c.loop-i.i none c.both.result circuit below (omega arith) c.loop-i.invariant value

pub returns : goal.returns
returns c =
    let items : c.gates-gate-items.result.now ≡ c.args.self.now.gates = c.gates-gate-items.ensures ∙ ap (λ (g : Aig). g.gates) c.self.view_is in
    let same : length c.gates-gate-items.result.now ≡ length c.args.self.now.gates = ap length items in
    c.read.ensures ∙ computed_all c.args.self.now c.args.inputs.now c.loop-i.buf c.loop-i.i c.args.lit (omega arith) c.loop-i.invariant c.requires.lit
