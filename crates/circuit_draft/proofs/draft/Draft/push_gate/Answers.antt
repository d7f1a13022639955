use Rattle.std.proofs.Common.{◌≡◌, arith, subst, sym, ◌==◌, false}
use Rattle.lits.specs.Clause.{has}
use Rattle.netlist.specs.Circuit.{Aig, variables_in}
use Rattle.netlist.proofs.Facts.{few}
use Rattle.circuit_draft.proofs.VariableLemmas.{IsDraft-gate, vars-gate}
use Rattle.circuit_draft.proofs.draft.Draft.push_gate.Goals as goal

pub push-requires-clause-few : goal.push-requires-clause-few
push-requires-clause-few c = omega (arith, c.in_ok-make_room.ensures.count, c.self.invariant.table.count, few c.self.invariant.draft.variables)

pub invariant_of-self-in_err-push_gate : goal.invariant_of-self-in_err-push_gate
invariant_of-self-in_err-push_gate c =
    rw c.in_err-push_gate.ensures.err (record {
      draft = c.self.invariant.draft;
      table = c.in_ok-make_room.ensures.table (variables_in c.self.inside.parts) c.self.invariant.table;
    })

pub invariant_of-self-2 : goal.invariant_of-self-2
invariant_of-self-2 c =
    let new = subst (λ (a : Aig). has ◌==◌ (variables_in a) c.args.gate.var ≡ false) (sym c.self.view_is) c.requires.new in
    let d = c.self.inside.parts in
    let room = c.in_ok-make_room.ensures.table (variables_in d) c.self.invariant.table in
    rw c.in_ok-push_gate.ensures.ok (record {
      draft = IsDraft-gate d c.args.gate c.self.invariant.draft new c.requires.range;
      table = rw (vars-gate d.inputs d.gates c.args.gate) (c.push.ensures.table (variables_in d) room new);
    })
