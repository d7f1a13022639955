use Rattle.std.proofs.Common.{◌∙◌, refl, sym, subst, take, arith}
use Rattle.std.proofs.lemmas.Option.{slice_get_read, slice_get_within, same_Some}
use Rattle.unit_prop.specs.Log.{IsStepAfter}
use Rattle.lemma_book.specs.Good.{IsStepAt}
use Rattle.lemma_book.proofs.steps.first_bad.Goals as goal
use borrow.Author.Count.{below_more}

pub returns-in-Some : goal.returns-in-Some
returns-in-Some g c = (
  c.loop-k.invariant,
  record {
    step = c.index-steps-k.result;
    place = slice_get_read c.args.steps.now _ c.loop-k.k c.index-steps-k.result refl c.loop-k-test.true c.index-steps-k.is;
    fails = sym c.in_ok-bad.ensures ∙ c.in-Some.is;
  },
)

pub loop-k-preserved : goal.loop-k-preserved
loop-k-preserved g c =
    let find = g.S.Sources.find c.args.sources.now in
    let there = slice_get_read c.args.steps.now _ c.loop-k.k c.index-steps-k.result refl c.loop-k-test.true c.index-steps-k.is in
    below_more (IsStepAt find c.args.steps.now) c.loop-k.k c.loop-k.invariant (λ s e.
    subst (IsStepAfter find (take c.loop-k.k c.args.steps.now)) (same_Some _ s (sym there ∙ e)) (sym c.in_ok-bad.ensures ∙ c.in_default.is))

pub returns : goal.returns
returns g c k s e =
    c.loop-k.invariant k (omega (arith, slice_get_within c.args.steps.now k s e, c.loop-k-test.false)) s e
