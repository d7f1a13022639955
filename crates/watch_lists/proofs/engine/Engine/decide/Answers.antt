use Rattle.std.proofs.Common.{refl, ◌∙◌, None}
use Rattle.watch_lists.specs.Step.{IsPut}
use Rattle.watch_lists.proofs.BackLemmas.{engine-decided}
use Rattle.watch_lists.proofs.TurnLemmas.{engine-same}
use Rattle.watch_lists.proofs.engine.Engine.decide.Goals as goal

pub returns-clause-engine : goal.returns-clause-engine
returns-clause-engine c =
    let e = c.args.self.now in
    let p = c.in_ok-put.ensures.ok in
    let put : IsPut e c.args.lit None c.put.new.self = record {
      clauses = p.clauses;
      pairs = p.pairs;
      lists = p.lists;
      truth = p.truth;
      places = p.places;
      trail = p.trail;
      reasons = p.reasons;
      levels = p.levels ∙ c.reserve.ensures.items;
      head = p.head;
    } in
    engine-decided e c.put.new.self _ c.args.lit c.len.result c.requires.engine put (c.len.ensures ∙ e.trail.ok.0)
    (record { clauses = refl; pairs = refl; lists = refl; truth = refl; places = refl; trail = refl; reasons = refl; head = refl; levels = c.push_reserved.ensures.items })
    c.requires.within c.requires.free.0 c.requires.free.1 c.requires.settled

pub returns-in_err-reserve-clause-engine : goal.returns-in_err-reserve-clause-engine
returns-in_err-reserve-clause-engine c =
    engine-same c.args.self.now _ c.requires.engine (record { clauses = refl; pairs = refl; lists = refl; truth = refl; places = refl; trail = refl; reasons = refl; levels = c.reserve.ensures.items; head = refl })

pub returns-in_err-put-clause-engine : goal.returns-in_err-put-clause-engine
returns-in_err-put-clause-engine c =
    let s = c.in_err-put.ensures.err in
    engine-same c.args.self.now c.put.new.self c.requires.engine
    (record { clauses = s.clauses; pairs = s.pairs; lists = s.lists; truth = s.truth; places = s.places; trail = s.trail; reasons = s.reasons; levels = s.levels ∙ c.reserve.ensures.items; head = s.head })
