use Rattle.std.proofs.Common.{arith}
use Rattle.circuit_draft.proofs.VariableLemmas.{few_gates}
use Rattle.circuit_draft.proofs.draft.Draft.with_gates.Goals as goal

pub without_names-parts-requires-clause-inputs : goal.without_names-parts-requires-clause-inputs
without_names-parts-requires-clause-inputs c =
    let d = c.self.inside.parts in
    let few = few_gates d.inputs d.gates c.self.invariant.draft.variables in rw c.with_gates.ensures (omega (arith, few))
