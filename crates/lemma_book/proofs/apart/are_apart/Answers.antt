use Rattle.std.proofs.Common.{◌∙◌, ap, length}
use Rattle.netlist.specs.Circuit.{Aig}
use Rattle.lemma_book.proofs.Telling.{tells-apart}
use Rattle.lemma_book.proofs.apart.are_apart.Goals as goal

pub returns : goal.returns
returns c =
    tells-apart c.args.net.now c.args.node c.args.lit c.args.input.now c.in_ok-value.value c.in_ok-target.target
    (c.if-input-inputs.false ∙ (ap length c.inputs.ensures.inputs ∙ ap (λ (a : Aig). length a.inputs) c.circuit.ensures.circuit))
    c.in_ok-value.ensures.value c.in_ok-target.ensures.value
