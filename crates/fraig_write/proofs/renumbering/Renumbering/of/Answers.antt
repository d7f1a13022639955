-- The variables of the gates that stay differ, and there are few of them.
use Rattle.std.proofs.Common.{◌≡◌, ◌∙◌, ◌&&◌, List, [], ◌∷◌, length, sym, ap, subst, arith}
use Rattle.lits.specs.declared.node.Side.TheVariants.{A}
use Rattle.lits.specs.declared.node.Node.TheVariants.{Gate}
use Rattle.netlist.specs.declared.gate.And.{And}
use Rattle.netlist.specs.Circuit.{Aig, gate_vars}
use Rattle.netlist.specs.VariableTable.{AreVariables, IsTable}
use Rattle.netlist.proofs.Facts.{few_gates_of}
use Rattle.fraig_write.specs.Reduced.{is_own_root}
use Rattle.fraig_write.proofs.OrderLemmas.{staying-constant, staying-few, staying-variables}
use Rattle.fraig_write.proofs.renumbering.Renumbering.of.Goals as goal

pub of-requires : goal.of-requires
of-requires c =
    let s = c.in_ok-staying.ensures in
    subst (λ (gs : List And). AreVariables [] gs) (sym c.as_slice.ensures.value)
    (staying-variables c.args.net.now c.requires.net c.in_ok-staying.staying.items
    (λ (g : And). is_own_root c.args.book.now.entries g && s.reached (Gate A g.var)) s.gates)

pub overflow_cast-result : goal.overflow_cast-result
overflow_cast-result c =
    let inputs : length c.inputs.result.now ≡ length c.args.net.now.a.inputs =
    ap length (c.inputs.ensures.inputs ∙ ap (λ (x : Aig). x.inputs) c.circuit.ensures.circuit) in
    omega (arith, inputs, few_gates_of c.args.net.now.a c.requires.net.a)

pub invariant_of-result : goal.invariant_of-result
invariant_of-result c =
    let s = c.in_ok-staying.ensures in
    let staying = c.in_ok-staying.staying.items in
    let keep = λ (g : And). is_own_root c.args.book.now.entries g && s.reached (Gate A g.var) in
    let inputs : length c.inputs.result.now ≡ length c.args.net.now.a.inputs =
    ap length (c.inputs.ensures.inputs ∙ ap (λ (x : Aig). x.inputs) c.circuit.ensures.circuit) in
    record {
      table_is = subst (λ (gs : List And). IsTable c.in_ok-table.table (0 ∷ gate_vars gs)) c.as_slice.ensures.value c.in_ok-table.ensures;
      no_constant = staying-constant c.args.net.now c.requires.net staying keep s.gates;
      few = omega (arith, inputs, staying-few c.args.net.now c.requires.net staying keep s.gates);
    }
