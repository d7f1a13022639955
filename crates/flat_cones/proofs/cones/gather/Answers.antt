-- What is found in the end, in order, is the cone.
use Rattle.std.proofs.Common.{◌∙◌, ap, sym, subst}
use Rattle.lemma_book.specs.Cone.{next_of, IsReach}
use Rattle.flat_cones.specs.Spots.{Table, number_at}
use Rattle.flat_cones.specs.Walk.{is_found}
use Rattle.flat_cones.proofs.ConeLemmas.{arranged-there, made-cone}
use Rattle.flat_cones.proofs.cones.gather.Goals as goal

pub arrange-requires-clause-once : goal.arrange-requires-clause-once
arrange-requires-clause-once c = c.in_ok-go_on.ensures.walk.once

pub arrange-requires-clause-marked : goal.arrange-requires-clause-marked
arrange-requires-clause-marked c = c.in_ok-go_on.ensures.walk.marked

pub fill-requires-clause-there : goal.fill-requires-clause-there
fill-requires-clause-there c =
    arranged-there c.args.net.now c.go_on.new.self c.arrange.new.self c.in_ok-go_on.ensures.walk c.in_ok-arrange.ensures.spots c.in_ok-arrange.ensures.marked

pub fill-requires-clause-unnumbered : goal.fill-requires-clause-unnumbered
fill-requires-clause-unnumbered c v = ap (λ (t : Table). number_at t v) c.in_ok-arrange.ensures.spots ∙ c.in_ok-go_on.ensures.walk.unnumbered v

pub returns-clause-numbered : goal.returns-clause-numbered
returns-clause-numbered c = c.in_ok-fill.ensures.numbered

pub returns-clause-cone : goal.returns-clause-cone
returns-clause-cone c seeds begins =
    made-cone c.args.net.now c.requires.net c.args.book.now.entries seeds c.arrange.new.self.spots c.arrange.new.self.found.items _
    c.in_ok-arrange.ensures.order c.in_ok-arrange.ensures.marked
    (arranged-there c.args.net.now c.go_on.new.self c.arrange.new.self c.in_ok-go_on.ensures.walk c.in_ok-arrange.ensures.spots c.in_ok-arrange.ensures.marked)
    (subst (λ (t : Table). IsReach (next_of c.args.net.now c.args.book.now.entries) seeds (is_found c.args.net.now t)) (sym c.in_ok-arrange.ensures.spots)
    (c.in_ok-go_on.ensures.reach seeds begins))
    c.in_ok-fill.ensures.clauses
