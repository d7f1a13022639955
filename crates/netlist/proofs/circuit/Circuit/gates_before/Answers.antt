use Rattle.std.proofs.Common.{◌≡◌, ◌∙◌, ℕ, Option, Some, length, ap, sym, subst, arith}
use Rattle.std.specs.Prelude.{IfSome, ◌==◌, true}
use Rattle.netlist.specs.Place.{place_of}
use Rattle.netlist.specs.Edit.{has_gate, gates_before, gates_since}
use Rattle.netlist.proofs.VariableLemmas.{few_gates_of}
use Rattle.netlist.proofs.EditedTables.{gate_there, before_whole, since_whole}
use Rattle.netlist.proofs.circuit.Circuit.gates_before.Goals as goal

pub unwrap-requires : goal.unwrap-requires
unwrap-requires c =
    gate_there c.args.self.now c.in-Some.var c.gate.result c.gate.ensures.gate
    (subst (λ (o : Option ℕ). IfSome o (λ v. has_gate c.args.self.now v ≡ true)) c.in-Some.is c.requires)

pub overflow_cast-result : goal.overflow_cast-result
overflow_cast-result c = omega (arith, few_gates_of c.args.self.now c.gates.ensures.circuit, ap length c.gates.ensures.gates)

pub returns-in-Some-clause-before : goal.returns-in-Some-clause-before
returns-in-Some-clause-before c =
    let at : place_of (λ x. x.var == c.in-Some.var) c.args.self.now.gates ≡ Some c.unwrap.result = cc (c.unwrap.ensures, c.gate.ensures.gate) in
    before_whole c.args.self.now c.in-Some.var c.unwrap.result at ∙ ap (gates_before c.args.self.now) (sym c.in-Some.is)

pub returns-in-Some-clause-since : goal.returns-in-Some-clause-since
returns-in-Some-clause-since c =
    let at : place_of (λ x. x.var == c.in-Some.var) c.args.self.now.gates ≡ Some c.unwrap.result = cc (c.unwrap.ensures, c.gate.ensures.gate) in
    since_whole c.args.self.now c.in-Some.var c.unwrap.result at ∙ ap (gates_since c.args.self.now) (sym c.in-Some.is)
