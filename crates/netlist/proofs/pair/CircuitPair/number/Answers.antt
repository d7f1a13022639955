use Rattle.std.proofs.Common.{◌∙◌, ℕ, Option, refl, sym, subst}
use Rattle.std.specs.Prelude.{IsSome}
use Rattle.netlist.proofs.NumberedClauses.{variable-some}
use Rattle.netlist.proofs.pair.CircuitPair.number.Goals as goal

pub unwrap-requires : goal.unwrap-requires
unwrap-requires c =
    let found = variable-some c.args.self.now c.args.lit.node c.requires in
    subst (λ (o : Option ℕ). IsSome o) (sym (c.variable.ensures.variable ∙ found.1)) refl
