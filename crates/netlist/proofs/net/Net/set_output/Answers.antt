use Rattle.std.proofs.Common.{◌≡◌, ◌∙◌, ◌<◌, ℕ, Option, Some, length, refl, sym, subst}
use Rattle.std.specs.Prelude.{IsSome}
use Rattle.lits.specs.declared.node.Node.TheVariants.{Xor}
use Rattle.netlist.specs.Net.{AigPair, circuit_of}
use Rattle.netlist.specs.Miter.{variable_of}
use Rattle.netlist.proofs.EditedNets.{some_variable, output_change}
use Rattle.netlist.proofs.net.Net.set_output.Goals as goal

pub unwrap-variable-requires : goal.unwrap-variable-requires
unwrap-variable-requires c =
    let below = subst (λ (n : AigPair). c.args.j < length (circuit_of n c.args.side).outputs) (sym c.self.view_is) c.requires.output in
    let there = some_variable c.self.inside.pair c.set_output.new.self c.args.side c.args.j c.args.lit c.set_output.ensures.net below c.set_output.ensures.output in
    subst (λ (o : Option ℕ). IsSome o) (sym (c.variable.ensures.variable ∙ there)) refl

pub change_xor-requires : goal.change_xor-requires
change_xor-requires c =
    let below = subst (λ (n : AigPair). c.args.j < length (circuit_of n c.args.side).outputs) (sym c.self.view_is) c.requires.output in
    let found : variable_of c.set_output.new.self (Xor c.args.j) ≡ Some c.unwrap-variable.result = cc (c.unwrap-variable.ensures, c.variable.ensures.variable) in
    output_change c.self.inside.pair c.set_output.new.self c.args.side c.args.j c.args.lit c.self.inside.tables c.unwrap-variable.result
    c.set_output.ensures.net below c.self.invariant c.set_output.ensures.output found
