use Rattle.std.proofs.Common.{◌≢◌, ℕ, refl, sym, subst, arith}
use Rattle.std.proofs.lemmas.List.{get_or_read}
use Rattle.watch_lists.specs.State.{no_pair, pair_at, IsOther}
use Rattle.watch_lists.specs.declared.engine.Pair.{Pair}
use Rattle.watch_lists.proofs.VisitLemmas.{turn-clause}
use Rattle.watch_lists.proofs.TurnLemmas.{turn-drop, holds-like}
use Rattle.watch_lists.proofs.engine.Engine.visit_clause.Goals as goal

pub index-requires : goal.index-requires
index-requires c = omega (arith, turn-clause c.requires.turn c.args.clause c.requires.at c.requires.clause, c.args.self.now.pairs.ok.0)

pub returns-in-None-clause-ok : goal.returns-in-None-clause-ok
returns-in-None-clause-ok c =
    let e = c.args.self.now in
    let turn = c.requires.turn in
    let j_in = turn-clause turn c.args.clause c.requires.at c.requires.clause in
    let read = get_or_read e.pairs.items c.args.clause c.index.result.now j_in c.index.ensures no_pair in
    turn-drop e _ c.args.lit c.args.at _ turn (record { clauses = refl; levels = refl; head = refl; trail = refl; reasons = refl; truth = refl; places = refl }) refl c.drop_at.ensures c.requires.at
    (subst (λ (j : ℕ). ((pair_at e.pairs.items j).first ≢ c.args.lit) × ((pair_at e.pairs.items j).second ≢ c.args.lit)) (sym c.requires.clause)
    (subst (λ (p : Pair). (p.first ≢ c.args.lit) × (p.second ≢ c.args.lit)) read c.in-None.ensures.none))

pub returns-in-None-clause-keeps : goal.returns-in-None-clause-keeps
returns-in-None-clause-keeps c =
    holds-like c.args.self.now _ (record { clauses = refl; levels = refl; head = refl; trail = refl; reasons = refl; truth = refl; places = refl }) (omega arith)

pub visit_pair-requires-clause-other : goal.visit_pair-requires-clause-other
visit_pair-requires-clause-other c =
    let e = c.args.self.now in
    let j_in = turn-clause c.requires.turn c.args.clause c.requires.at c.requires.clause in
    subst (λ (p : Pair). IsOther p c.args.lit c.in-Some.other) (get_or_read e.pairs.items c.args.clause c.index.result.now j_in c.index.ensures no_pair) c.in-Some.ensures.some
