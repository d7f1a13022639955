use Rattle.std.proofs.Common.{◌≡◌, ◌≢◌, ◌<◌, List, Bool, None, arith, subst, ap, ◌∙◌, length}
use Rattle.std.specs.Prelude.{slice_index, MatchBool}
use Rattle.std.specs.List.{slice_index_or}
use Rattle.netlist.specs.declared.gate.And.{And}
use Rattle.netlist.specs.Circuit.{Aig}
use Rattle.circuit_draft.specs.Levels.{level_of}
use Rattle.circuit_draft.specs.Steps.{gate_at}
use Rattle.circuit_draft.proofs.VariableLemmas.{few_gates, gate_within}
use Rattle.circuit_draft.proofs.CycleLemmas.{cycle_at, found_more}
use Rattle.circuit_draft.proofs.draft.Draft.climb_all.Goals as goal

pub overflow_cast-count : goal.overflow_cast-count
overflow_cast-count c = omega (arith, few_gates c.self.inside.parts.inputs c.self.inside.parts.gates c.self.invariant.draft.variables, ap length c.gates.ensures)

pub overflow_mul-result : goal.overflow_mul-result
overflow_mul-result c =
    let d : Aig = c.self.inside.parts in
    let here : c.loop-root.root < length d.gates = omega (arith, c.loop-root-test.true, ap length c.gates.ensures) in
    let var = c.from.ensures ∙ ap (λ (gs : List And). (slice_index_or gs c.loop-root.root (record { var = 0; left = 0; right = 0 })).var) c.gates-then-not-branch.ensures in
    omega (arith, var, gate_within d c.loop-root.root c.self.invariant.draft.variables here)

pub returns-then-not-branch-clause-cycle : goal.returns-then-not-branch-clause-cycle
returns-then-not-branch-clause-cycle c = λ cause.
    let d : Aig = c.self.inside.parts in
    let here : c.loop-root.root < length d.gates = omega (arith, c.loop-root-test.true, ap length c.gates.ensures) in
    let var = c.from.ensures ∙ ap (λ (gs : List And). (slice_index_or gs c.loop-root.root (record { var = 0; left = 0; right = 0 })).var) c.gates-then-not-branch.ensures in
    let there : c.loop-root.root < length c.args.self.now.gates = subst (λ (a : Aig). c.loop-root.root < length a.gates) c.self.view_is here in
    let is = subst (λ (a : Aig). c.from.result ≡ (gate_at a c.loop-root.root).var) c.self.view_is var in
    let none : level_of c.args.self.now (gate_at c.args.self.now c.loop-root.root).var ≡ None =
    subst (λ (b : Bool). MatchBool b (slice_index c.climb.new.levels c.loop-root.root ≢ 0) (level_of c.args.self.now (gate_at c.args.self.now c.loop-root.root).var ≡ None)) c.if-not-branch.true c.in_ok-climb.ensures.found in
    cycle_at c.args.self.now c.climb.new.levels c.loop-root.root c.from.result c.in_ok-climb.ensures.levels there
    (λ p lt. c.in_ok-climb.ensures.keeps p (c.loop-root.invariant.found p lt)) none is

pub loop-root-preserved : goal.loop-root-preserved
loop-root-preserved c =
    let here : slice_index c.climb.new.levels c.loop-root.root ≢ 0 =
    subst (λ (b : Bool). MatchBool b (slice_index c.climb.new.levels c.loop-root.root ≢ 0) (level_of c.args.self.now (gate_at c.args.self.now c.loop-root.root).var ≡ None)) c.if-not-branch.false c.in_ok-climb.ensures.found in
    record {
      levels = c.in_ok-climb.ensures.levels;
      found = found_more c.loop-root.levels c.climb.new.levels c.loop-root.root c.in_ok-climb.ensures.keeps c.loop-root.invariant.found here;
    }
