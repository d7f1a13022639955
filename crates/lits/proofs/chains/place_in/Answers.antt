use Rattle.std.proofs.Common.{◌∙◌, Some, refl, sym, ap}
use Rattle.std.proofs.lemmas.Option.{slice_get_read}
use Rattle.lits.proofs.chains.place_in.Goals as goal

pub returns-then-eq-clause-some : goal.returns-then-eq-clause-some
returns-then-eq-clause-some g c =
    slice_get_read c.args.lits.now _ c.loop-place.place c.index-lits-place.result refl c.loop-place-test.true c.index-lits-place.is
    ∙ ap Some (g.met.L.Literal.exact c.index-lits-place.result c.args.lit (sym c.if-eq.ensures))
