use Rattle.std.proofs.Common.{◌≡◌, ℕ, ◌+◌, ◌<◌, Bool, List, refl, true, false, sym, subst, ap, ◌∙◌, length, nat_eq, slice_index_or, arith}
use Rattle.watch_lists.specs.Codes.{flip}
use Rattle.lits.specs.Clause.{has}
use Rattle.watch_lists.proofs.TrailLemmas.{flips}
use Rattle.watch_lists.specs.State.{codes_at}
use Rattle.watch_lists.proofs.VisitLemmas.{turn-next, turn-clause, turn-other, others-false, met-alone, met-by, other-in, mark-true, mark-false}
use Rattle.watch_lists.proofs.TurnLemmas.{holds_refl, holds-like}
use Rattle.watch_lists.proofs.BlockLemmas.{turn-block}
use Rattle.watch_lists.proofs.engine.Engine.visit_pair.Goals as goal

pub returns-then-other-lit-clause-ok : goal.returns-then-other-lit-clause-ok
returns-then-other-lit-clause-ok c =
    let turn = c.requires.turn in
    let j_in = turn-clause turn c.args.clause c.requires.at c.requires.clause in (
      turn-next turn c.args.clause c.requires.clause
          (met-alone turn.engine.watched c.args.clause c.args.lit c.args.other j_in c.requires.other c.if-other-lit.true),
      refl,
    )

pub returns-then-index-clause-ok : goal.returns-then-index-clause-ok
returns-then-index-clause-ok c =
    let e = c.args.self.now in
    let turn = c.requires.turn in
    let j_in = turn-clause turn c.args.clause c.requires.at c.requires.clause in
    let inside = other-in turn.engine.watched c.args.clause c.args.lit c.args.other j_in c.requires.other in
    let holds = mark-true turn.engine.trail c.args.other c.index.result.now (turn-other turn c.args.clause c.args.other j_in c.requires.other) c.index.ensures c.if-index.true in
    turn-block e _ c.args.lit c.args.at (c.args.at + 1) c.args.other
    (turn-next turn c.args.clause c.requires.clause (met-by e.trail.items (codes_at e.clauses c.args.clause) c.args.other inside holds))
    (record { clauses = refl; levels = refl; head = refl; trail = refl; reasons = refl; truth = refl; places = refl }) refl c.block.ensures c.requires.at
    (subst (λ (k : ℕ). has nat_eq (codes_at e.clauses k) c.args.other ≡ true) (sym c.requires.clause) inside)

pub returns-then-index-clause-keeps : goal.returns-then-index-clause-keeps
returns-then-index-clause-keeps c =
    holds-like c.args.self.now _ (record { clauses = refl; levels = refl; head = refl; trail = refl; reasons = refl; truth = refl; places = refl }) (omega arith)

pub block-requires-clause-lit : goal.block-requires-clause-lit
block-requires-clause-lit c = subst (λ (n : ℕ). c.args.lit < n) (sym c.requires.turn.engine.lists) c.requires.turn.lit_in

pub replacement-requires : goal.replacement-requires
replacement-requires c = λ l h.
    let e = c.args.self.now in
    let turn = c.requires.turn in
    let inside : has nat_eq (codes_at e.clauses c.args.clause) l ≡ true = ap (λ (z : List ℕ). has nat_eq z l) (sym c.get.ensures) ∙ h in
    omega (arith, flips turn.engine.trail l (turn.engine.trail.within c.args.clause l inside), ap length c.as_slice.ensures.value)

pub returns-then-other-lit-clause-keeps : goal.returns-then-other-lit-clause-keeps
returns-then-other-lit-clause-keeps c = holds_refl _

pub get-requires : goal.get-requires
get-requires c =
    let turn = c.requires.turn in
    omega (arith, turn-clause turn c.args.clause c.requires.at c.requires.clause, turn.engine.watched.most)

pub force-requires-clause-missing : goal.force-requires-clause-missing
force-requires-clause-missing c =
    let trail = c.requires.turn.engine.trail in
    trail.marks c.args.other ∙ mark-false trail c.args.other c.index.result.now c.index.ensures c.if-index.false

-- the literals are false but for the other one
abbrev NoneStands : List Bool → List ℕ → ℕ → Type 0
NoneStands truth codes other = (l : ℕ) → has nat_eq codes l ≡ true → nat_eq other l ≡ false → slice_index_or truth (flip l) false ≡ true

pub force-requires-clause-negated : goal.force-requires-clause-negated
force-requires-clause-negated c =
    let e = c.args.self.now in
    others-false c.requires.turn.engine (codes_at e.clauses c.args.clause) c.args.other
    (subst (λ (codes : List ℕ). NoneStands e.truth.items codes c.args.other) c.get.ensures
    (subst (λ (truth : List Bool). NoneStands truth c.get.result.now c.args.other) c.as_slice.ensures.value c.in-None.ensures.none))

pub force-requires-clause-inside : goal.force-requires-clause-inside
force-requires-clause-inside c =
    let turn = c.requires.turn in
    other-in turn.engine.watched c.args.clause c.args.lit c.args.other (turn-clause turn c.args.clause c.requires.at c.requires.clause) c.requires.other

-- the literal is one of the clause, isn't false and isn't the other one
abbrev Stands : List Bool → List ℕ → ℕ → ℕ → Type 0
Stands truth codes other l = (has nat_eq codes l ≡ true) × (slice_index_or truth (flip l) false ≡ false) × (nat_eq other l ≡ false)

stands : (truth read : List Bool) (codes got : List ℕ) (other l : ℕ) → got ≡ codes → read ≡ truth → Stands read got other l → Stands truth codes other l
stands truth read codes got other l e f s = subst (λ (cs : List ℕ). Stands truth cs other l) e (subst (λ (t : List Bool). Stands t got other l) f s)

pub move_watch-requires-clause-inside : goal.move_watch-requires-clause-inside
move_watch-requires-clause-inside c = (stands _ _ _ _ c.args.other c.in-Some.new c.get.ensures c.as_slice.ensures.value c.in-Some.ensures.some).0

pub move_watch-requires-clause-free : goal.move_watch-requires-clause-free
move_watch-requires-clause-free c = (stands _ _ _ _ c.args.other c.in-Some.new c.get.ensures c.as_slice.ensures.value c.in-Some.ensures.some).1

pub move_watch-requires-clause-fresh : goal.move_watch-requires-clause-fresh
move_watch-requires-clause-fresh c = (stands _ _ _ _ c.args.other c.in-Some.new c.get.ensures c.as_slice.ensures.value c.in-Some.ensures.some).2
