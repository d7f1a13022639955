use Rattle.std.proofs.Common.{◌≡◌, Option, Some, arith, sym, subst, ℕ, ◌∙◌}
use Rattle.std.specs.Prelude.{IsSome}
use Rattle.netlist.specs.Net.{output_of, position_of}
use Rattle.check_session.proofs.PatternLemmas.{output-placed, output-row, position-below}
use Rattle.check_session.proofs.patterns.output_row.Goals as goal

pub unwrap-position-requires : goal.unwrap-position-requires
unwrap-position-requires c =
    let found : output_of c.args.net.now c.args.side c.args.output ≡ Some c.unwrap-lit.result =
    sym c.output.ensures ∙ cc c.unwrap-lit.ensures in
    subst (λ (o : Option ℕ). IsSome o) (sym c.position.ensures)
    (output-placed c.args.net.now c.is_net.ensures c.args.output c.requires.output c.args.side c.unwrap-lit.result found)

pub row-requires : goal.row-requires
row-requires c =
    let place : position_of c.args.net.now c.unwrap-lit.result.node ≡ Some c.unwrap-position.result =
    sym c.position.ensures ∙ cc c.unwrap-position.ensures in
    omega (arith, c.requires.rows, position-below c.args.net.now c.unwrap-lit.result.node c.unwrap-position.result place)

pub returns-clause-row : goal.returns-clause-row
returns-clause-row c = λ patterns lit are again.
    let found : output_of c.args.net.now c.args.side c.args.output ≡ Some c.unwrap-lit.result =
    sym c.output.ensures ∙ cc c.unwrap-lit.ensures in
    let place : position_of c.args.net.now c.unwrap-lit.result.node ≡ Some c.unwrap-position.result =
    sym c.position.ensures ∙ cc c.unwrap-position.ensures in
    output-row c.args.net.now c.args.side c.args.output c.unwrap-lit.result lit c.unwrap-position.result c.args.sigs.now c.row.result.now
    found place c.requires.rows c.row.ensures.row patterns are again
