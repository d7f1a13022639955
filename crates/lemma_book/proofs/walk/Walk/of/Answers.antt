-- The walk begins with the seeds, and each round visits one node that is still to be visited.
use Rattle.std.proofs.Common.{refl, sym, ◌∙◌, take}
use Rattle.std.proofs.lemmas.List.{nil_from_length}
use Rattle.lemma_book.specs.Cone.{nodes_in, next_of}
use Rattle.lemma_book.proofs.ReachLemmas.{underway-start, underway-there, visit-smaller, underway-visit, underway-done}
use Rattle.lemma_book.proofs.walk.Walk.of.Goals as goal

pub loop-node-init : goal.loop-node-init
loop-node-init c =
    underway-start c.args.net.now (next_of c.args.net.now (take c.args.seen c.args.book.now.entries)) (nodes_in c.args.lits.now) c.in_ok-walk.walk c.in_ok-walk.ensures

pub visit-requires-clause-there : goal.visit-requires-clause-there
visit-requires-clause-there c =
    underway-there c.args.net.now (next_of c.args.net.now (take c.args.seen c.args.book.now.entries)) (nodes_in c.args.lits.now) c.loop-node.walk (record { found = c.loop-node.walk.found; pending = c.pop.new.self }) c.loop-node.walk c.in-Some.node
    c.loop-node.invariant c.in-Some.ensures.items

pub loop-node-smaller : goal.loop-node-smaller
loop-node-smaller c =
    visit-smaller c.args.net.now (next_of c.args.net.now (take c.args.seen c.args.book.now.entries)) (nodes_in c.args.lits.now) c.loop-node.walk (record { found = c.loop-node.walk.found; pending = c.pop.new.self }) c.visit.new.self c.in-Some.node
    c.loop-node.invariant c.in-Some.ensures.items refl (next_of c.args.net.now (take c.args.seen c.args.book.now.entries) c.in-Some.node) c.in_ok-visit.ensures

pub loop-node-preserved : goal.loop-node-preserved
loop-node-preserved c =
    underway-visit c.args.net.now (next_of c.args.net.now (take c.args.seen c.args.book.now.entries)) (nodes_in c.args.lits.now) c.loop-node.walk (record { found = c.loop-node.walk.found; pending = c.pop.new.self }) c.visit.new.self c.in-Some.node
    c.loop-node.invariant c.in-Some.ensures.items refl c.in_ok-visit.ensures

pub returns-clause-reach : goal.returns-clause-reach
returns-clause-reach c =
    underway-done c.args.net.now (next_of c.args.net.now (take c.args.seen c.args.book.now.entries)) (nodes_in c.args.lits.now) c.loop-node.walk c.loop-node.invariant
    (nil_from_length c.loop-node.walk.pending.items (sym c.loop-node.walk.pending.ok.0 ∙ c.in_default.ensures.cases.0))
