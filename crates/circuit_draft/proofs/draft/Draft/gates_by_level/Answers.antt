use Rattle.std.proofs.Common.{ap, subst, ◌∙◌}
use Rattle.netlist.specs.Circuit.{Aig}
use Rattle.circuit_draft.specs.Draft.{IsDraft}
use Rattle.circuit_draft.proofs.FinishLemmas.{AreDefined-uses}
use Rattle.circuit_draft.proofs.ByLevelLemmas.{IsFinished-levels}
use Rattle.circuit_draft.proofs.CycleLemmas.{AreWithin-levels}
use Rattle.circuit_draft.proofs.draft.Draft.gates_by_level.Goals as goal

pub levels-requires : goal.levels-requires
levels-requires c = AreDefined-uses c.args.self.now c.requires.defined

pub sorted_by-requires-clause-within : goal.sorted_by-requires-clause-within
sorted_by-requires-clause-within c =
    let draft : IsDraft c.args.self.now = subst (λ (a : Aig). IsDraft a) c.self.view_is c.self.invariant.draft in
    AreWithin-levels c.args.self.now c.in_ok-levels.levels.items draft.variables c.in_ok-levels.ensures.levels

pub returns-clause-ok : goal.returns-clause-ok
returns-clause-ok c =
    let draft : IsDraft c.args.self.now = subst (λ (a : Aig). IsDraft a) c.self.view_is c.self.invariant.draft in
    let gates = c.gates.ensures ∙ ap (λ (a : Aig). a.gates) c.self.view_is in
    IsFinished-levels c.args.self.now c.gates.result.now c.in_ok-sorted_by.field-0.items c.in_ok-levels.levels.items
    draft c.requires.defined c.requires.order gates c.in_ok-levels.ensures.levels c.in_ok-sorted_by.ensures
