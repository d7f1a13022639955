use Rattle.std.proofs.Common.{◌≡◌, ◌∙◌, ap, subst, ◌==◌}
use Rattle.std.specs.Option.{is_some}
use Rattle.lits.specs.Clause.{has}
use Rattle.netlist.specs.Circuit.{Aig, variables_in}
use Rattle.netlist.proofs.Facts.{is_some-place}
use Rattle.circuit_draft.proofs.draft.Draft.has.Goals as goal

pub returns : goal.returns
returns c =
    let d : Aig = c.self.inside.parts in
    subst (λ (a : Aig). c.is_some.result ≡ has ◌==◌ (variables_in a) c.args.var) c.self.view_is
    (c.is_some.ensures ∙ ap is_some (c.place.ensures ∙ c.self.invariant.table.finds c.args.var) ∙ is_some-place (λ x. x == c.args.var) (variables_in d))
