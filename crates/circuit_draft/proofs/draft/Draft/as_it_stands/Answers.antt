use Rattle.std.proofs.Common.{arith}
use Rattle.circuit_draft.proofs.VariableLemmas.{few_gates}
use Rattle.circuit_draft.proofs.draft.Draft.as_it_stands.Goals as goal

pub without_names-requires-clause-inputs : goal.without_names-requires-clause-inputs
without_names-requires-clause-inputs c =
    let d = c.self.inside.parts in
    let few = few_gates d.inputs d.gates c.self.invariant.draft.variables in omega (arith, few)
