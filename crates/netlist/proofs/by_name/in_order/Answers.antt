use Rattle.std.proofs.Common.{◌≡◌, ◌<◌, ◌++◌, ◌∷◌, [], length, None, Some, get_or, sym, ap, ◌∙◌, arith}
use Rattle.std.proofs.lemmas.Result.{err_from_is_err_and}
use Rattle.symbol_names.specs.NameList.{name_at}
use Rattle.netlist.specs.ByName.{same_name, place_named, is_missing, least, missing}
use Rattle.netlist.proofs.LeastLemmas.{least-here, least-next}
use Rattle.netlist.proofs.SourceLemmas.{place_within}
use Rattle.netlist.proofs.UnlikeLemmas.{names-sides, names-missing, names-none, missing-none, missing-some, ordered-next, ordered-all}
use Rattle.netlist.proofs.by_name.in_order.Goals as goal

pub returns-in_err-index : goal.returns-in_err-index
returns-in_err-index c =
    let p = err_from_is_err_and c.from_residual.result c.from_residual.ensures.1 in
    rw (p.1, p.2) (names-sides c.args.port c.args.a.now c.args.b.now c.in_err-index.field-0.0 c.in_err-index.ensures)

pub bounds-of_b-place : goal.bounds-of_b-place
bounds-of_b-place c =
    let at : place_named c.args.b.now (name_at c.args.a.now c.loop-k.k) ≡ Some c.in-Some.place = sym (c.same_place.ensures c.args.b.now c.in_ok-index.ensures.1) ∙ c.in-Some.is in
    omega (arith, place_within (same_name (name_at c.args.a.now c.loop-k.k)) c.args.b.now c.in-Some.place at, c.requires.b)

pub returns-in-None : goal.returns-in-None
returns-in-None c =
    let a = c.args.a.now in
    let at : place_named c.args.b.now (name_at a c.loop-k.k) ≡ None = sym (c.same_place.ensures c.args.b.now c.in_ok-index.ensures.1) ∙ c.in-None.is in
    let below : c.loop-k.k < length a = omega (arith, c.requires.a, c.loop-k-test.true) in
    let none = missing-none c.args.b.now (name_at a c.loop-k.k) at in
    names-missing c.args.port a c.args.b.now c.loop-k.k c.in_ok-index.ensures.0 (least-here (is_missing c.args.b.now a) c.loop-k.k (length a) below c.loop-k.invariant.1 none)

pub loop-k-preserved : goal.loop-k-preserved
loop-k-preserved c =
    let a = c.args.a.now in
    let b = c.args.b.now in
    let xs = c.args.of_b.now in
    let at : place_named b (name_at a c.loop-k.k) ≡ Some c.in-Some.place = sym (c.same_place.ensures b c.in_ok-index.ensures.1) ∙ c.in-Some.is in
    let pushed : c.push.new.self.items ≡ c.loop-k.ordered.items ++ get_or xs c.in-Some.place 0 ∷ [] = c.in_ok-push-in-Some.ensures.items in (
      ordered-next a b xs c.loop-k.ordered.items c.push.new.self.items c.loop-k.k c.in-Some.place at c.loop-k.invariant.0 pushed,
      least-next (is_missing b a) c.loop-k.k c.loop-k.invariant.1 (missing-some b (name_at a c.loop-k.k) c.in-Some.place at),
    )

pub returns : goal.returns
returns c =
    let a = c.args.a.now in
    let b = c.args.b.now in
    let count : length a ≡ c.loop-k.k = omega (arith, c.requires.a, c.loop-k-test.false, c.loop-k.auto.k-end) in
    let there : missing b a ≡ None = ap (least (is_missing b a)) count ∙ c.loop-k.invariant.1 in (
      names-none c.args.port a b c.in_ok-index.ensures.0 there,
      ordered-all a b c.args.of_b.now c.loop-k.ordered.items c.loop-k.k count c.loop-k.invariant.0,
    )
