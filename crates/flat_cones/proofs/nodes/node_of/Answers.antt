-- Behind the nodes with a position stand the XORs.
use Rattle.std.proofs.Common.{◌≡◌, ◌≤◌, ◌-◌, ◌∙◌, ℕ, Some, ap, sym, subst}
use Rattle.std.specs.Prelude.{slice_get}
use Rattle.netlist.specs.Miter.{variables_of}
use Rattle.lits.specs.declared.node.Node.TheVariants.{Xor}
use Rattle.flat_cones.proofs.VariableLemmas.{variable-xor}
use Rattle.flat_cones.proofs.ConeLemmas.{node-at}
use Rattle.flat_cones.proofs.nodes.node_of.Goals as goal

pub returns-else-place-positions-clause-at : goal.returns-else-place-positions-clause-at
returns-else-place-positions-clause-at c =
    variable-xor c.args.net.now c.args.variable c.requires
    (subst (λ (k : ℕ). k ≤ c.args.variable - 1) c.positions-positions.ensures c.if-place-positions.false)
    ∙ ap (λ (k : ℕ). Some (Xor (c.args.variable - 1 - k))) (sym c.positions-positions.ensures)

pub returns-else-place-positions-clause-node : goal.returns-else-place-positions-clause-node
returns-else-place-positions-clause-node c =
    let at : slice_get (variables_of c.args.net.now) (c.args.variable - 1) ≡ Some (Xor (c.args.variable - 1 - c.positions-positions.result)) =
    variable-xor c.args.net.now c.args.variable c.requires
    (subst (λ (k : ℕ). k ≤ c.args.variable - 1) c.positions-positions.ensures c.if-place-positions.false)
    ∙ ap (λ (k : ℕ). Some (Xor (c.args.variable - 1 - k))) (sym c.positions-positions.ensures) in
    sym (node-at c.args.net.now c.args.variable (Xor (c.args.variable - 1 - c.positions-positions.result)) at)
