use Rattle.std.proofs.Common.{◌≡◌, ℕ, ◌<◌, length, subst, sym, ap, ◌∙◌, arith, nat_eq, true, false, get_or}
use Rattle.std.proofs.lemmas.List.{get_or_read}
use Rattle.lits.specs.Clause.{has}
use Rattle.watch_lists.proofs.VisitLemmas.{mark-true, mark-false}
use Rattle.watch_lists.proofs.TrailLemmas.{flips}
use Rattle.watch_lists.proofs.HeightLemmas.{height-end, height-placed}
use Rattle.watch_lists.proofs.engine.Engine.height.Goals as goal

pub returns-then-index : goal.returns-then-index
returns-then-index c =
    let e = c.args.self.now in
    let is = c.requires.engine.trail in
    let in_truth : c.flip-negation.result < length e.truth.items = subst (λ (n : ℕ). n < length e.truth.items) (sym c.flip-negation.ensures) (flips is c.args.lit c.requires.within) in
    let in_places : c.flip-negation.result < length e.places.items = omega (arith, in_truth, is.places_all) in
    let h = subst (λ (n : ℕ). has nat_eq e.trail.items n ≡ true) c.flip-negation.ensures (mark-true is c.flip-negation.result c.index.result.now in_truth c.index.ensures c.if-index.true) in
    get_or_read e.places.items c.flip-negation.result c.index-then-index.result.now in_places c.index-then-index.ensures 0
    ∙ (ap (λ (n : ℕ). get_or e.places.items n 0) c.flip-negation.ensures ∙ height-placed is c.args.lit h)

pub returns-else-index : goal.returns-else-index
returns-else-index c =
    let e = c.args.self.now in
    let is = c.requires.engine.trail in
    let h = subst (λ (n : ℕ). has nat_eq e.trail.items n ≡ false) c.flip-negation.ensures (mark-false is c.flip-negation.result c.index.result.now c.index.ensures c.if-index.false) in
    c.len.ensures ∙ (e.trail.ok.0 ∙ sym (height-end e.trail.items c.args.lit h))

pub index-requires : goal.index-requires
index-requires c = let e = c.args.self.now in omega (arith, c.flip-negation.ensures, flips c.requires.engine.trail c.args.lit c.requires.within, e.truth.ok.0)

pub index-requires-then-index : goal.index-requires-then-index
index-requires-then-index c =
    let e = c.args.self.now in
    omega (arith, c.flip-negation.ensures, flips c.requires.engine.trail c.args.lit c.requires.within, c.requires.engine.trail.places_all, e.places.ok.0)
