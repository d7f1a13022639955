use Rattle.std.proofs.Common.{◌≡◌, ◌∙◌, ap, subst, Option, ℕ, take, false}
use Rattle.std.specs.Prelude.{nat_lt}
use Rattle.std.specs.Option.{option_map_or}
use Rattle.netlist.specs.Circuit.{Aig, is_over, var_of, variables_in}
use Rattle.circuit_draft.proofs.OrderLemmas.{has-take}
use Rattle.circuit_draft.proofs.draft.Draft.is_among.Goals as goal

pub returns-in-Some : goal.returns-in-Some
returns-in-Some c =
    let d : Aig = c.self.inside.parts in
    subst (λ (a : Aig). nat_lt c.in-Some.place c.args.count ≡ is_over (take c.args.count (variables_in a)) c.args.lit) c.self.view_is
    (ap (λ (o : Option ℕ). option_map_or (λ k. nat_lt k c.args.count) o false) (c.in-Some.ensures ∙ c.self.invariant.table.finds (var_of c.args.lit))
    ∙ has-take (variables_in d) c.args.count (var_of c.args.lit))

pub returns-in-None : goal.returns-in-None
returns-in-None c =
    let d : Aig = c.self.inside.parts in
    subst (λ (a : Aig). false ≡ is_over (take c.args.count (variables_in a)) c.args.lit) c.self.view_is
    (ap (λ (o : Option ℕ). option_map_or (λ k. nat_lt k c.args.count) o false) (c.in-None.ensures ∙ c.self.invariant.table.finds (var_of c.args.lit))
    ∙ has-take (variables_in d) c.args.count (var_of c.args.lit))
