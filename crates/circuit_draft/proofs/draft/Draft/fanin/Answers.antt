use Rattle.std.proofs.Common.{◌≡◌, ◌-◌, ap, length, length-append, arith, subst, sym, true}
use Rattle.std.specs.Prelude.{slice_index}
use Rattle.netlist.specs.Circuit.{Aig, gate_vars, is_over, variables_in}
use Rattle.netlist.proofs.Facts.{few}
use Rattle.circuit_draft.specs.Steps.{AreLevels, IsFanin}
use Rattle.circuit_draft.specs.declared.climb.Fanin.TheVariants as fanin
use Rattle.circuit_draft.proofs.FaninLemmas.{gate_fanin, known_fanin, open_fanin, source_fanin, defined_fanin}
use Rattle.circuit_draft.proofs.draft.Draft.fanin.Goals as goal

pub overflow_cast-sources : goal.overflow_cast-sources
overflow_cast-sources c = omega (arith, few c.self.invariant.draft.variables, length-append c.self.inside.parts.inputs (gate_vars c.self.inside.parts.gates), ap length c.inputs.ensures)

pub bounds-levels-gate : goal.bounds-levels-gate
bounds-levels-gate c =
    let d : Aig = c.self.inside.parts in
    let are : AreLevels d c.args.levels.now = subst (λ (a : Aig). AreLevels a c.args.levels.now) (sym c.self.view_is) c.requires.levels in
    let found = gate_fanin d _ c.args.lit c.in-Some.place (length c.inputs.result.now) c.self.invariant (sym c.in-Some.ensures) (ap length c.inputs.ensures) c.if-place-sources.true in
    omega (arith, found.0, are.count)

pub returns-then-level-eq0 : goal.returns-then-level-eq0
returns-then-level-eq0 c =
    let d : Aig = c.self.inside.parts in
    let found = gate_fanin d _ c.args.lit c.in-Some.place (length c.inputs.result.now) c.self.invariant (sym c.in-Some.ensures) (ap length c.inputs.ensures) c.if-place-sources.true in
    subst (λ (a : Aig). IsFanin a c.args.levels.now c.args.lit (fanin.Gate (c.in-Some.place - (length c.inputs.result.now) - 1))) c.self.view_is
    (open_fanin d c.args.levels.now c.args.lit (c.in-Some.place - (length c.inputs.result.now) - 1) found.0 found.1 c.if-level-eq0.true)

pub returns-else-level-eq0 : goal.returns-else-level-eq0
returns-else-level-eq0 c =
    let d : Aig = c.self.inside.parts in
    let are : AreLevels d c.args.levels.now = subst (λ (a : Aig). AreLevels a c.args.levels.now) (sym c.self.view_is) c.requires.levels in
    let found = gate_fanin d _ c.args.lit c.in-Some.place (length c.inputs.result.now) c.self.invariant (sym c.in-Some.ensures) (ap length c.inputs.ensures) c.if-place-sources.true in
    let q = c.in-Some.place - (length c.inputs.result.now) - 1 in
    subst (λ (a : Aig). IsFanin a c.args.levels.now c.args.lit (fanin.At (slice_index c.args.levels.now q))) c.self.view_is
    (known_fanin d c.args.levels.now c.args.lit q are found.0 found.1 c.if-level-eq0.false)

pub returns-in_default : goal.returns-in_default
returns-in_default c =
    let d : Aig = c.self.inside.parts in
    let are : AreLevels d c.args.levels.now = subst (λ (a : Aig). AreLevels a c.args.levels.now) (sym c.self.view_is) c.requires.levels in
    subst (λ (a : Aig). IsFanin a c.args.levels.now c.args.lit (fanin.At 0)) c.self.view_is
    (source_fanin d _ c.args.levels.now c.args.lit c.in-Some.place c.self.invariant are (sym c.in-Some.ensures) (omega (arith, ap length c.inputs.ensures)))

pub returns-in_default-2 : goal.returns-in_default-2
returns-in_default-2 c =
    let d : Aig = c.self.inside.parts in
    let over : is_over (variables_in d) c.args.lit ≡ true = subst (λ (a : Aig). is_over (variables_in a) c.args.lit ≡ true) (sym c.self.view_is) c.requires.defined in
    defined_fanin d _ c.args.lit c.self.invariant (sym c.in_default.ensures) over
