use Rattle.std.proofs.Common.{◌≡◌, ◌∙◌, ℕ, Option, Some, refl, sym, subst}
use Rattle.std.specs.Prelude.{IsSome}
use Rattle.lits.specs.declared.node.Node.TheVariants.{Gate}
use Rattle.netlist.specs.Net.{AigPair, circuit_of, position_of}
use Rattle.netlist.specs.Edit.{CanSet}
use Rattle.netlist.proofs.EditedNets.{some_position, gate_change}
use Rattle.netlist.proofs.net.Net.set_gate.Goals as goal

pub unwrap-position-requires : goal.unwrap-position-requires
unwrap-position-requires c =
    let can = subst (λ (n : AigPair). CanSet (circuit_of n c.args.side) c.args.gate) (sym c.self.view_is) c.requires in
    let there = some_position c.self.inside.pair c.set_gate.new.self c.args.side c.args.gate can c.set_gate.ensures.gate in
    subst (λ (o : Option ℕ). IsSome o) (sym (c.position.ensures ∙ there.1)) refl

pub change_gate-requires : goal.change_gate-requires
change_gate-requires c =
    let can = subst (λ (n : AigPair). CanSet (circuit_of n c.args.side) c.args.gate) (sym c.self.view_is) c.requires in
    let found : position_of c.set_gate.new.self (Gate c.args.side c.args.gate.var) ≡ Some c.unwrap-position.result = cc (c.unwrap-position.ensures, c.position.ensures) in
    gate_change c.self.inside.pair c.set_gate.new.self c.args.side c.args.gate c.self.inside.tables c.unwrap-position.result
    c.set_gate.ensures.net can c.self.invariant c.set_gate.ensures.gate found
