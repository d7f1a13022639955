use Rattle.std.proofs.Common.{◌≡◌, ◌∙◌, ◌-◌, ◌<◌, Some, false, length, refl, sym, ap, arith}
use Rattle.std.proofs.lemmas.Option.{slice_get_read}
use Rattle.lits.proofs.IndexLemmas.{leads-behind, not-had, read-else}
use Rattle.lits.proofs.chains.Chains.find.Goals as goal

pub returns-clause-none : goal.returns-clause-none
returns-clause-none g c =
    not-had g.met.L.Literal.exact c.args.self.now.links.items c.args.lits.now c.args.lit c.loop-next.next (omega arith) c.loop-next.invariant.ahead

pub returns-then-eq-clause-some : goal.returns-then-eq-clause-some
returns-then-eq-clause-some g c =
    slice_get_read c.args.lits.now _ (c.loop-next.next - 1) c.index-lits-place.result refl (omega (arith, c.loop-next-test.true, c.loop-next.invariant.within)) c.index-lits-place.is
    ∙ ap Some (g.met.L.Literal.exact c.index-lits-place.result c.args.lit (sym c.if-eq.ensures))

pub loop-next-preserved : goal.loop-next-preserved
loop-next-preserved g c =
    let links = c.args.self.now.links.items in
    let i = c.loop-next.next - 1 in
    let below : i < length links = omega (arith, c.loop-next-test.true, c.loop-next.invariant.within, c.requires.each) in
    let other : g.L.PartialEq.eq c.index-lits-place.result c.args.lit ≡ false = sym {b = g.L.PartialEq.eq c.index-lits-place.result c.args.lit} c.if-eq.ensures in
    record {
      within = omega (arith, c.requires.back i, read-else links i c.index-next.result.now 0 below c.index-next.ensures, c.loop-next.invariant.within);
      ahead = leads-behind g.L.PartialEq.eq g.met.L.Eq.laws.refl links c.args.lits.now c.args.lit c.index-lits-place.result c.loop-next.next i c.index-next.result.now
          (omega (arith, c.loop-next-test.true)) below c.index-lits-place.is other c.index-next.ensures c.loop-next.invariant.ahead;
    }
