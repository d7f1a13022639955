-- The two that lead are of the clause; where they aren't false, no other literal isn't for longer.
use Rattle.std.proofs.Common.{◌≡◌, ℕ, ◌<◌, ◌+◌, ◌∙◌, true, false, List, [], ◌∷◌, length, refl, sym, subst, arith, get_or, take, nat_eq, ◌==◌}
use Rattle.std.proofs.lemmas.List.{take_more, take_all}
use Rattle.std.proofs.lemmas.Bool.{or_right}
use Rattle.lits.specs.Clause.{has}
use Rattle.unit_prop.proofs.Facts.{contrary}
use Rattle.watch_lists.specs.State.{IsBest, IsLed}
use Rattle.watch_lists.specs.declared.engine.Pair.{Pair}
use Rattle.watch_lists.proofs.HeightLemmas.{inside-whole, best-highest, best-all}
use Rattle.watch_lists.proofs.engine.Engine.best.Goals as goal
use Rattle.watch_lists.proofs.Facts.{has-at}

filled : (xs : List ℕ) → (length xs == 0) ≡ false → 0 < length xs
filled [] h = contrary _ refl h
filled (x ∷ xs) h = omega arith

pub alone-lead-requires-clause-within : goal.alone-lead-requires-clause-within
alone-lead-requires-clause-within c =
    c.requires.within _ (has-at c.args.clause.now 0 (filled c.args.clause.now (sym c.is_empty.ensures ∙ c.if-is_empty.false)))

pub better-requires-clause-within : goal.better-requires-clause-within
better-requires-clause-within c = c.requires.within _ (has-at c.args.clause.now c.loop-lit.lit-index (omega arith))

pub loop-lit-init : goal.loop-lit-init
loop-lit-init c = c.alone-lead.ensures

pub loop-lit-preserved : goal.loop-lit-preserved
loop-lit-preserved c =
    rw (take_more c.args.clause.now c.loop-lit.lit-index 0 (omega arith))
    (c.better.ensures (get_or c.args.clause.now 0 0 ∷ take c.loop-lit.lit-index c.args.clause.now) c.loop-lit.invariant)

pub returns-then-is_highest-clause-some : goal.returns-then-is_highest-clause-some
returns-then-is_highest-clause-some c =
    let xs = c.args.clause.now in
    let i = c.loop-lit.lit-index in
    let led : IsLed c.args.self.now.trail.items (get_or xs 0 0 ∷ take (i + 1) xs) c.better.new.lead = rw (take_more xs i 0 c.loop-lit-test.true) (c.better.ensures (get_or xs 0 0 ∷ take i xs) c.loop-lit.invariant) in
    let highest = c.is_highest.ensures c.if-is_highest.true in
    subst (λ (p : Pair). IsBest c.args.self.now.trail.items xs p) (sym c.pair_of.ensures)
    (best-highest c.args.self.now.trail.items xs (get_or xs 0 0 ∷ take (i + 1) xs) c.better.new.lead
    (λ m h. inside-whole xs (i + 1) m (omega (arith, c.loop-lit-test.true)) h) led highest.0 highest.1)

pub returns-clause-some : goal.returns-clause-some
returns-clause-some c =
    let xs = c.args.clause.now in
    let i = c.loop-lit.lit-index in
    subst (λ (p : Pair). IsBest c.args.self.now.trail.items xs p) (sym c.pair_of-2.ensures)
    (best-all c.args.self.now.trail.items xs (get_or xs 0 0 ∷ take i xs) c.loop-lit.lead
    (λ m h. inside-whole xs i m (filled xs (sym c.is_empty.ensures ∙ c.if-is_empty.false)) h)
    (λ m h. or_right (nat_eq (get_or xs 0 0) m) (has nat_eq (take i xs) m)
    (subst (λ (z : List ℕ). has nat_eq z m ≡ true) (sym (take_all i xs c.loop-lit-test.false)) h))
    c.loop-lit.invariant)
