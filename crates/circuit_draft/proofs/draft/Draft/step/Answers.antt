use Rattle.std.proofs.Common.{◌≡◌, ◌∙◌, ◌+◌, List, arith, ap, subst, sym, ℕ}
use Rattle.std.specs.List.{slice_index_or}
use Rattle.netlist.specs.declared.gate.And.{And}
use Rattle.netlist.specs.Circuit.{Aig}
use Rattle.netlist.specs.VariableTable.{AreVariables}
use Rattle.circuit_draft.specs.Steps.{IsStep, IsFanin}
use Rattle.circuit_draft.specs.declared.climb.Fanin.TheVariants as fanin
use Rattle.circuit_draft.specs.declared.climb.Step.TheVariants as step
use Rattle.circuit_draft.proofs.VariableLemmas.{few_gates}
use Rattle.circuit_draft.proofs.FaninLemmas.{made_step}
use Rattle.circuit_draft.proofs.draft.Draft.step.Goals as goal

pub overflow_add-result : goal.overflow_add-result
overflow_add-result c =
    let vars : AreVariables c.args.self.now.inputs c.args.self.now.gates = subst (λ (a : Aig). AreVariables a.inputs a.gates) c.self.view_is c.self.invariant.draft.variables in
    let counts = few_gates c.args.self.now.inputs c.args.self.now.gates vars in
    omega (arith, c.max.ensures, c.in-At-At.ensures.1, c.in-At-At.ensures'.1, counts)

pub returns-in-At-At : goal.returns-in-At-At
returns-in-At-At c =
    let same : c.gates.result.now ≡ c.args.self.now.gates = c.gates.ensures ∙ ap (λ (a : Aig). a.gates) c.self.view_is in
    let vars : AreVariables c.args.self.now.inputs c.args.self.now.gates = subst (λ (a : Aig). AreVariables a.inputs a.gates) c.self.view_is c.self.invariant.draft.variables in
    let left = subst (λ (gs : List And). IsFanin c.args.self.now c.args.levels.now (slice_index_or gs c.args.place (record { var = 0; left = 0; right = 0 })).left (fanin.At c.in-At-At.left)) same c.in-At-At.ensures in
    let right = subst (λ (gs : List And). IsFanin c.args.self.now c.args.levels.now (slice_index_or gs c.args.place (record { var = 0; left = 0; right = 0 })).right (fanin.At c.in-At-At.right)) same c.in-At-At.ensures' in
    subst (λ (n : ℕ). IsStep c.args.self.now c.args.levels.now c.args.place (step.At (n + 1))) (sym c.max.ensures)
    (made_step c.args.self.now c.args.levels.now c.args.place c.in-At-At.left c.in-At-At.right vars c.requires.open c.requires.levels left right)
