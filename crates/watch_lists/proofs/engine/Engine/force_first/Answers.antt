use Rattle.std.proofs.Common.{◌<◌, ◌++◌, ◌∷◌, [], ap, arith, length, get_or}
use Rattle.std.proofs.lemmas.List.{take-append-le}
use Rattle.watch_lists.specs.State.{codes_at}
use Rattle.watch_lists.proofs.TrailLemmas.{has-last, starts-most, heads-most}
use Rattle.watch_lists.proofs.TurnLemmas.{engine-put, engine-same, holds-trans, put-holds, holds-same}
use Rattle.watch_lists.proofs.AttachLemmas.{best-bounds, guards-met}
use Rattle.watch_lists.proofs.engine.Engine.force_first.Goals as goal

pub returns-in_err-put-clause-engine : goal.returns-in_err-put-clause-engine
returns-in_err-put-clause-engine c = engine-same c.args.self.now c.put.new.self c.requires.engine c.in_err-put.ensures.err

pub returns-in_err-put-clause-keeps : goal.returns-in_err-put-clause-keeps
returns-in_err-put-clause-keeps c = holds-same c.args.self.now c.put.new.self c.in_err-put.ensures.err

pub watch-requires-clause-engine : goal.watch-requires-clause-engine
watch-requires-clause-engine c =
    engine-put c.args.self.now c.put.new.self c.args.pair.first c.args.at c.requires.engine c.in_ok-put.ensures.ok
    (c.requires.engine.trail.within c.args.at c.args.pair.first c.requires.best.first_in) c.requires.free.0 c.requires.free.1 (c.requires.at.1, c.requires.best.first_in, c.requires.forces)

pub watch-requires-clause-guards : goal.watch-requires-clause-guards
watch-requires-clause-guards c =
    let e = c.args.self.now in
    let put = c.in_ok-put.ensures.ok in
    rw (put.clauses, put.trail)
    (guards-met _ (e.trail.items ++ c.args.pair.first ∷ []) (codes_at e.clauses c.args.at) c.args.pair c.requires.best.first_in c.requires.best.second_in (has-last e.trail.items c.args.pair.first))

pub watch-requires-clause-bounds : goal.watch-requires-clause-bounds
watch-requires-clause-bounds c = λ k d h.
    let e = c.args.self.now in
    let put = c.in_ok-put.ensures.ok in
    let k_in : k < length e.levels.items = omega (arith, h, ap length put.levels) in
    let starts = starts-most c.requires.engine.trail k d k_in in
    let heads = heads-most c.requires.engine.trail k d k_in in
    let below = c.requires.engine.trail.levels_are.heads k d k_in in
    let short = take-append-le (get_or e.levels.items k d).start e.trail.items (c.args.pair.first ∷ []) starts in
    let short_head = take-append-le (get_or e.levels.items k d).head e.trail.items (c.args.pair.first ∷ []) heads in
    rw (put.clauses, put.trail, put.levels, short, short_head)
    (best-bounds c.requires.best (get_or e.levels.items k d).head (get_or e.levels.items k d).start below starts (c.requires.engine.settled c.args.at c.requires.at.1 k d k_in))

pub returns-clause-keeps : goal.returns-clause-keeps
returns-clause-keeps c =
    holds-trans c.args.self.now c.put.new.self _ (put-holds c.args.self.now c.put.new.self c.args.pair.first c.args.at c.in_ok-put.ensures.ok) c.watch.ensures.keeps
