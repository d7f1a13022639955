use Rattle.std.proofs.Common.{ℕ, ◌<◌, length, get_or, arith}
use Rattle.std.proofs.lemmas.List.{get_or_default}
use Rattle.lemma_book.proofs.ConeValueLemmas.{listed-rest, none-known}
use Rattle.lemma_book.proofs.values.forget_all.Goals as goal

pub loop-position-preserved : goal.loop-position-preserved
loop-position-preserved c =
    let i : ℕ = c.loop-position.position-index in
    let x : ℕ = get_or c.args.listed.now i 0 in
    let below : i < length c.args.listed.now = omega (arith, c.loop-position-test.true) in
    listed-rest c.loop-position.values.items c.forget_at.new.values.items c.args.listed.now i x below (get_or_default c.args.listed.now i 0 x below)
    c.forget_at.ensures.at c.forget_at.ensures.others c.loop-position.invariant

pub returns : goal.returns
returns c =
    none-known c.loop-position.values.items c.args.listed.now c.loop-position.position-index (omega (arith, c.loop-position-test.false)) c.loop-position.invariant
