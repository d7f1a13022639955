use Rattle.std.proofs.Common.{ℕ, List, Bool, ◌≡◌, ◌<◌, inl, inr, sym, subst, arith, length, take, nat_eq, true, false, get_or}
use Rattle.std.proofs.lemmas.List.{take_all}
use Rattle.lits.specs.Clause.{has}
use Rattle.unit_prop.specs.Closure.{forces}
use Rattle.watch_lists.specs.Codes.{flip}
use Rattle.watch_lists.specs.State.{codes_at, IsEngine, IsBest, Guards}
use Rattle.watch_lists.specs.declared.engine.Engine.{Engine}
use Rattle.watch_lists.specs.declared.engine.Pair.{Pair}
use Rattle.std.specs.List.{All}
use Rattle.std.proofs.lemmas.Bool.{cases_Bool}
use Rattle.watch_lists.proofs.VisitLemmas.{mark-true, mark-false}
use Rattle.watch_lists.proofs.HeightLemmas.{height-below}
use Rattle.watch_lists.proofs.TrailLemmas.{has-take, flips, starts-most}
use Rattle.unit_prop.proofs.Facts.{contrary}
use Rattle.watch_lists.proofs.AttachLemmas.{best-bounds, guards-met, guards-free, first-negates, second-forces, alone-forces}
use Rattle.watch_lists.proofs.TurnLemmas.{holds_refl}
use Rattle.watch_lists.proofs.engine.Engine.attach_pair.Goals as goal

flip-true : (e : Engine) → IsEngine e → (l neg : ℕ) (b : Bool) → l < length e.truth.items → neg ≡ flip l → b ≡ get_or e.truth.items neg b → b ≡ true → has nat_eq e.trail.items (flip l) ≡ true
flip-true e engine l neg b within is read t = subst (λ (n : ℕ). has nat_eq e.trail.items n ≡ true) is
    (mark-true engine.trail neg b (subst (λ (n : ℕ). n < length e.truth.items) (sym is) (flips engine.trail l within)) read t)

flip-false : (e : Engine) → IsEngine e → (l neg : ℕ) (b : Bool) → neg ≡ flip l → b ≡ get_or e.truth.items neg b → b ≡ false → has nat_eq e.trail.items (flip l) ≡ false
flip-false e engine l neg b is read f = subst (λ (n : ℕ). has nat_eq e.trail.items n ≡ false) is (mark-false engine.trail neg b read f)

lacks-take : (n : ℕ) (xs : List ℕ) (q : ℕ) → has nat_eq xs q ≡ false → has nat_eq (take n xs) q ≡ false
lacks-take n xs q f = elim (cases_Bool (has nat_eq (take n xs) q)) [ inl h ↦ contrary _ (has-take n xs q h) f | inr g ↦ g ]

bounds-of : (e : Engine) (at : ℕ) (pair : Pair) → IsEngine e → at < length e.clauses → IsBest e.trail.items (codes_at e.clauses at) pair
    → All (λ v. Guards (take v.head e.trail.items) (take v.start e.trail.items) (codes_at e.clauses at) pair) e.levels.items
bounds-of e at pair engine room best k d h =
    best-bounds best (get_or e.levels.items k d).head (get_or e.levels.items k d).start (engine.trail.levels_are.heads k d h) (starts-most engine.trail k d h) (engine.settled at room k d h)

pub returns-then-index-clause-conflict : goal.returns-then-index-clause-conflict
returns-then-index-clause-conflict c = λ _. first-negates c.requires.best
    (flip-true c.args.self.now c.requires.engine c.args.pair.first c.flip.result c.index.result.now (c.requires.engine.trail.within c.args.at c.args.pair.first c.requires.best.first_in) c.flip.ensures c.index.ensures c.if-index.true)

pub watch-requires-clause-guards : goal.watch-requires-clause-guards
watch-requires-clause-guards c =
    let e = c.args.self.now in
    let b = c.requires.best in
    guards-met _ e.trail.items (codes_at e.clauses c.args.at) c.args.pair b.first_in b.second_in
    (mark-true c.requires.engine.trail c.args.pair.first c.index-2.result.now (c.requires.engine.trail.within c.args.at c.args.pair.first b.first_in) c.index-2.ensures c.if-index-2.true)

pub watch-requires-clause-bounds : goal.watch-requires-clause-bounds
watch-requires-clause-bounds c = bounds-of c.args.self.now c.args.at c.args.pair c.requires.engine c.requires.at.1 c.requires.best

pub watch-requires-2-clause-bounds : goal.watch-requires-2-clause-bounds
watch-requires-2-clause-bounds c = bounds-of c.args.self.now c.args.at c.args.pair c.requires.engine c.requires.at.1 c.requires.best

pub force_first-requires-clause-forces : goal.force_first-requires-clause-forces
force_first-requires-clause-forces c = alone-forces c.requires.best c.args.self.now.trail.items c.if-pair.true

pub force_first-requires-then-index-3-clause-forces : goal.force_first-requires-then-index-3-clause-forces
force_first-requires-then-index-3-clause-forces c =
    let e = c.args.self.now in
    let b = c.requires.best in
    let n = length e.trail.items in
    let all : take n e.trail.items ≡ e.trail.items = take_all n e.trail.items (omega arith) in
    let h = flip-true e c.requires.engine c.args.pair.second c.flip-2.result c.index-3.result.now (c.requires.engine.trail.within c.args.at c.args.pair.second b.second_in) c.flip-2.ensures c.index-3.ensures c.if-index-3.true in
    let below = height-below e.trail.items c.args.pair.second n (subst (λ (z : List ℕ). has nat_eq z (flip c.args.pair.second) ≡ true) (sym all) h) in
    subst (λ (z : List ℕ). forces nat_eq flip (has nat_eq z) (codes_at e.clauses c.args.at) c.args.pair.first ≡ true) all (second-forces b n (omega arith) below)

pub watch-requires-2-clause-guards : goal.watch-requires-2-clause-guards
watch-requires-2-clause-guards c =
    let e = c.args.self.now in
    let b = c.requires.best in
    let engine = c.requires.engine in
    guards-free (take e.head e.trail.items) e.trail.items (codes_at e.clauses c.args.at) c.args.pair b.first_in b.second_in
    (lacks-take e.head e.trail.items _ (flip-false e engine c.args.pair.first c.flip.result c.index.result.now c.flip.ensures c.index.ensures c.if-index.false))
    (lacks-take e.head e.trail.items _ (flip-false e engine c.args.pair.second c.flip-2.result c.index-3.result.now c.flip-2.ensures c.index-3.ensures c.if-index-3.false))
    c.if-pair.false

pub index-requires : goal.index-requires
index-requires c =
    let e = c.args.self.now in
    let is = c.requires.engine.trail in
    omega (arith, c.flip.ensures, flips is c.args.pair.first (is.within c.args.at c.args.pair.first c.requires.best.first_in), e.truth.ok.0)

pub index-requires-3 : goal.index-requires-3
index-requires-3 c =
    let e = c.args.self.now in
    let is = c.requires.engine.trail in
    omega (arith, c.flip-2.ensures, flips is c.args.pair.second (is.within c.args.at c.args.pair.second c.requires.best.second_in), e.truth.ok.0)

pub force_first-requires-clause-free : goal.force_first-requires-clause-free
force_first-requires-clause-free c = (
  mark-false c.requires.engine.trail c.args.pair.first c.index-2.result.now c.index-2.ensures c.if-index-2.false,
  flip-false c.args.self.now c.requires.engine c.args.pair.first c.flip.result c.index.result.now c.flip.ensures c.index.ensures c.if-index.false,
)

pub force_first-requires-then-index-3-clause-free : goal.force_first-requires-then-index-3-clause-free
force_first-requires-then-index-3-clause-free c = (
  mark-false c.requires.engine.trail c.args.pair.first c.index-2.result.now c.index-2.ensures c.if-index-2.false,
  flip-false c.args.self.now c.requires.engine c.args.pair.first c.flip.result c.index.result.now c.flip.ensures c.index.ensures c.if-index.false,
)

pub returns-then-index-clause-keeps : goal.returns-then-index-clause-keeps
returns-then-index-clause-keeps c = holds_refl _

pub index-requires-2 : goal.index-requires-2
index-requires-2 c =
    let e = c.args.self.now in
    omega (arith, c.requires.engine.trail.within c.args.at c.args.pair.first c.requires.best.first_in, e.truth.ok.0)
