use Rattle.std.proofs.Common.{◌≡◌, ℕ, refl, sym, ◌∙◌, subst, nat_eq, true, false, ◌<◌, length, arith, Some}
use Rattle.lits.specs.Clause.{has}
use Rattle.watch_lists.specs.Codes.{flip}
use Rattle.watch_lists.specs.State.{is_met, codes_at}
use Rattle.watch_lists.specs.Step.{IsPut}
use Rattle.watch_lists.proofs.VisitLemmas.{turn-clause, turn-next, mark-true, mark-false, all-negated, all-forces, met-by}
use Rattle.watch_lists.proofs.TrailLemmas.{has-last, flips}
use Rattle.watch_lists.proofs.TurnLemmas.{turn-put, put-holds, engine-same, holds-same, holds_refl}
use Rattle.watch_lists.proofs.ListsLemmas.{on_err}
use Rattle.watch_lists.proofs.engine.Engine.force.Goals as goal

pub returns-then-index-clause-ok : goal.returns-then-index-clause-ok
returns-then-index-clause-ok c =
    let e = c.args.self.now in
    let turn = c.requires.turn in
    let j_in = turn-clause turn c.args.clause c.requires.at c.requires.clause in
    let other_in = turn.engine.trail.within c.args.clause c.args.other c.requires.inside in
    let flip_in : c.flip.result < length e.truth.items = subst (λ (n : ℕ). n < length e.truth.items) (sym c.flip.ensures) (flips turn.engine.trail c.args.other other_in) in
    let negation : has nat_eq e.trail.items (flip c.args.other) ≡ true = subst (λ (n : ℕ). has nat_eq e.trail.items n ≡ true) c.flip.ensures (mark-true turn.engine.trail c.flip.result c.index.result.now flip_in c.index.ensures c.if-index.true) in
    let most = turn.engine.watched.most in (
      turn.engine,
      omega arith,
      all-negated e.trail.items (codes_at e.clauses c.args.clause) c.args.other negation
          c.requires.negated,
    )

pub returns-clause-ok : goal.returns-clause-ok
returns-clause-ok c =
    let e = c.args.self.now in
    let turn = c.requires.turn in
    let j_in = turn-clause turn c.args.clause c.requires.at c.requires.clause in
    let other_in = turn.engine.trail.within c.args.clause c.args.other c.requires.inside in
    let most = turn.engine.watched.most in
    let negation : has nat_eq e.trail.items (flip c.args.other) ≡ false = subst (λ (n : ℕ). has nat_eq e.trail.items n ≡ false) c.flip.ensures (mark-false turn.engine.trail c.flip.result c.index.result.now c.index.ensures c.if-index.false) in
    let inside = c.requires.inside in
    let put : IsPut e c.args.other (Some c.args.clause) c.put.new.self = c.in_ok-put.ensures.ok in
    let after = turn-put e c.put.new.self c.args.other c.args.clause c.args.lit c.args.at turn put other_in (sym (turn.engine.trail.marks c.args.other) ∙ c.requires.missing) negation
    (omega arith, inside, all-forces e.trail.items (codes_at e.clauses c.args.clause) c.args.other c.requires.negated) in
    let met : is_met c.put.new.self.trail.items (codes_at c.put.new.self.clauses c.args.clause) ≡ true = rw (put.trail, put.clauses)
    (met-by _ _ c.args.other inside (has-last e.trail.items c.args.other)) in
    (turn-next after c.args.clause (rw put.lists c.requires.clause) met, rw put.lists refl)

pub returns-in_err-put-clause-err : goal.returns-in_err-put-clause-err
returns-in_err-put-clause-err c = on_err _ (engine-same c.args.self.now c.put.new.self c.requires.turn.engine c.in_err-put.ensures.err)

pub returns-clause-keeps : goal.returns-clause-keeps
returns-clause-keeps c = put-holds c.args.self.now c.put.new.self c.args.other c.args.clause c.in_ok-put.ensures.ok

pub index-requires : goal.index-requires
index-requires c =
    let e = c.args.self.now in
    let turn = c.requires.turn in
    omega (arith, c.flip.ensures, flips turn.engine.trail c.args.other (turn.engine.trail.within c.args.clause c.args.other c.requires.inside), e.truth.ok.0)

pub put-requires-clause-within : goal.put-requires-clause-within
put-requires-clause-within c = c.requires.turn.engine.trail.within c.args.clause c.args.other c.requires.inside

pub put-requires-clause-places : goal.put-requires-clause-places
put-requires-clause-places c = c.requires.turn.engine.trail.places_all

pub returns-in_err-put-clause-keeps : goal.returns-in_err-put-clause-keeps
returns-in_err-put-clause-keeps c = holds-same c.args.self.now c.put.new.self c.in_err-put.ensures.err

pub returns-then-index-clause-keeps : goal.returns-then-index-clause-keeps
returns-then-index-clause-keeps c = holds_refl _

pub overflow_cast-flip : goal.overflow_cast-flip
overflow_cast-flip c = omega (arith, c.flip.type_inv)
