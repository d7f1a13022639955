use Rattle.std.proofs.Common.{refl, sym, ap, ◌∙◌, arith, length}
use Rattle.std.proofs.lemmas.List.{length-set}
use Rattle.watch_lists.specs.Codes.{flip}
use Rattle.watch_lists.proofs.TurnLemmas.{turn-move, engine-same, holds-like}
use Rattle.watch_lists.proofs.ListsLemmas.{on_err}
use Rattle.watch_lists.proofs.VisitLemmas.{turn-clause}
use Rattle.watch_lists.proofs.engine.Engine.move_watch.Goals as goal

pub push-requires : goal.push-requires
push-requires c =
    let turn = c.requires.turn in
    rw turn.engine.lists (turn.engine.trail.within c.args.clause c.args.new c.requires.inside)

pub index_mut-requires : goal.index_mut-requires
index_mut-requires c = omega (arith, turn-clause c.requires.turn c.args.clause c.requires.at c.requires.clause, c.args.self.now.pairs.ok.0)

pub returns-clause-ok : goal.returns-clause-ok
returns-clause-ok c =
    let e = c.args.self.now in
    let turn = c.requires.turn in
    turn-move e _ c.args.lit c.args.at c.args.clause c.args.other c.args.new _ c.push.new.self turn
    (record { clauses = refl; levels = refl; head = refl; trail = refl; reasons = refl; truth = refl; places = refl }) refl
    c.in_ok-push.ensures.ok c.drop_at.ensures c.requires.at c.requires.clause
    (turn.engine.trail.within c.args.clause c.args.new c.requires.inside) c.requires.other c.requires.apart c.requires.inside
    (sym (turn.engine.trail.marks (flip c.args.new)) ∙ c.requires.free) c.requires.fresh

pub returns-clause-keeps : goal.returns-clause-keeps
returns-clause-keeps c =
    holds-like c.args.self.now _ (record { clauses = refl; levels = refl; head = refl; trail = refl; reasons = refl; truth = refl; places = refl })
    (omega (arith, length-set c.args.self.now.pairs.items c.args.clause (record { first = c.args.other; second = c.args.new })))

pub returns-in_err-push-clause-keeps : goal.returns-in_err-push-clause-keeps
returns-in_err-push-clause-keeps c =
    holds-like c.args.self.now _ (record { clauses = refl; levels = refl; head = refl; trail = refl; reasons = refl; truth = refl; places = refl }) (omega arith)

pub returns-in_err-push-clause-err : goal.returns-in_err-push-clause-err
returns-in_err-push-clause-err c =
    on_err _ (engine-same c.args.self.now _ c.requires.turn.engine
    (record { clauses = refl; pairs = refl; lists = c.in_err-push.ensures.err; truth = refl; places = refl; trail = refl; reasons = refl; levels = refl; head = refl }))

pub drop_at-requires-clause-lit : goal.drop_at-requires-clause-lit
drop_at-requires-clause-lit c =
    let turn = c.requires.turn in
    omega (arith, ap length c.in_ok-push.ensures.ok ∙ length-set c.args.self.now.lists _ _, turn.engine.lists, turn.lit_in)
