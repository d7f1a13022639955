use Rattle.std.proofs.Common.{◌≡◌, ◌∙◌, ℕ, length, Some, None, ap, sym, subst, arith}
use Rattle.netlist.specs.Circuit.{Aig}
use Rattle.netlist.specs.Source.{source_of, source_at}
use Rattle.netlist.proofs.SourceLemmas.{source_found, source_missing, within_found}
use Rattle.netlist.proofs.VariableLemmas.{few_inputs_of}
use Rattle.netlist.proofs.circuit.Circuit.source.Goals as goal

pub overflow_cast-inputs : goal.overflow_cast-inputs
overflow_cast-inputs c = omega (arith, few_inputs_of _ c.self.invariant.circuit, ap length c.inputs.ensures)

pub returns-in-Some-clause-source : goal.returns-in-Some-clause-source
returns-in-Some-clause-source c =
    let found = source_found c.self.inside.parts c.self.inside.table c.args.var c.in-Some.place c.self.invariant.table (sym c.place.ensures ∙ c.in-Some.is) in
    ap Some (c.source_at.ensures ∙ ap (λ (n : ℕ). source_at n c.in-Some.place) (ap length c.inputs.ensures))
    ∙ subst (λ (g : Aig). Some (source_at (length c.self.inside.parts.inputs) c.in-Some.place) ≡ source_of g c.args.var) c.self.view_is found

pub returns-in-Some-clause-within : goal.returns-in-Some-clause-within
returns-in-Some-clause-within c =
    within_found c.args.self.now c.args.var c.source_at.result (returns-in-Some-clause-source c)

pub returns-in-None-clause-source : goal.returns-in-None-clause-source
returns-in-None-clause-source c =
    subst (λ (g : Aig). None ≡ source_of g c.args.var) c.self.view_is
    (source_missing c.self.inside.parts c.self.inside.table c.args.var c.self.invariant.table (sym c.place.ensures ∙ c.in-None.is))
