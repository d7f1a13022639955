-- Each literal marks its input, which is one of the net's.
use Rattle.std.proofs.Common.{ap, ◌∙◌, length, false}
use Rattle.lits.specs.declared.node.Node.TheVariants.{Const}
use Rattle.netlist.specs.Circuit.{Aig}
use Rattle.cone_query.proofs.InputLemmas.{length-input_from, input_from-nothing, input_from-next, below-at}
use Rattle.cone_query.proofs.input.input_of.Goals as goal
use Rattle.std.specs.Prelude.{take}

pub loop-lit-init : goal.loop-lit-init
loop-lit-init c =
    c.in_ok-input.ensures.items_if_clones_equal (λ y e. e)
    ∙ input_from-nothing c.args.net.now (length c.inputs.result.now)
    (ap length c.inputs.ensures.inputs ∙ ap (λ (a : Aig). length a.inputs) c.circuit.ensures.circuit)

pub mark-requires : goal.mark-requires
mark-requires c =
    below-at c.args.net.now c.args.model.now c.loop-lit.lit-index (record { node = Const; neg = false }) c.deref_mut.result.now c.requires c.loop-lit-test.true
    (ap length (c.deref_mut.ensures.value ∙ c.loop-lit.invariant) ∙ length-input_from c.args.net.now (take c.loop-lit.lit-index c.args.model.now))

pub loop-lit-preserved : goal.loop-lit-preserved
loop-lit-preserved c =
    input_from-next c.args.net.now c.args.model.now c.loop-lit.lit-index (record { node = Const; neg = false }) c.loop-lit.input.items c.deref_mut.result.now c.mark.new.input
    c.loop-lit.input.len c.requires c.loop-lit-test.true c.loop-lit.invariant c.deref_mut.ensures.value c.loop-lit.input.ok.0 c.mark.ensures
