use Rattle.std.proofs.Common.{ap₂, ◌∙◌}
use Rattle.lits.specs.declared.node.Side.TheVariants.{A, B}
use Rattle.netlist.specs.Net.{differs}
use Rattle.netlist.proofs.Facts.{output_lit, output_of-below}
use Rattle.check_session.proofs.PatternLemmas.{first-told}
use Rattle.check_session.proofs.patterns.first_apart.Goals as goal

pub returns : goal.returns
returns c = λ patterns are admitted.
    let net = c.args.net.now in
    let j = c.args.output in
    let a = output_of-below net c.is_net.ensures A j c.requires.output in
    let b = output_of-below net c.is_net.ensures B j c.requires.output in
    first-told net c.is_net.ensures j c.requires.output patterns c.output_row-first_neg.result.0.now c.output_row-second_neg.result.0.now
    c.are_opposite.result c.args.admitted.now c.patterns.result c.first_bit_apart.result
    (c.output_row-first_neg.ensures.row patterns (output_lit net A j) are a) (c.output_row-second_neg.ensures.row patterns (output_lit net B j) are b)
    admitted (c.are_opposite.ensures
    ∙ ap₂ differs (c.output_row-first_neg.ensures.sign (output_lit net A j) a) (c.output_row-second_neg.ensures.sign (output_lit net B j) b))
    (c.patterns.ensures ∙ are.size) c.first_bit_apart.ensures
