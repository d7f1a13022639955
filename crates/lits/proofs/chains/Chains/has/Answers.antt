use Rattle.std.proofs.Common.{◌∙◌}
use Rattle.lits.proofs.IndexLemmas.{has-place_of}
use Rattle.lits.proofs.chains.Chains.has.Goals as goal

pub returns : goal.returns
returns g c =
    c.is_some.ensures
    ∙ has-place_of g.met.L.Literal.exact g.met.L.Eq.laws.refl c.args.lits.now c.args.lit c.place.result c.place.ensures.some c.place.ensures.none
