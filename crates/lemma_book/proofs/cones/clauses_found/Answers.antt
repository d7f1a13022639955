-- The walk's nodes, in the order of their CNF variables, are those in the order of the miter.
use Rattle.std.proofs.Common.{◌≡◌, map, flat_map, ap, ◌∙◌, rules, take}
use Rattle.std.specs.Map.Iter.{deref}
use Rattle.std.specs.BTreeMap.{values}
use Rattle.std.proofs.lemmas.Map.Iter.{iter_end}
use Rattle.lemma_book.specs.Cone.{named_clauses}
use Rattle.lemma_book.proofs.RisingLemmas.{values-filter}
use Rattle.lemma_book.proofs.cones.clauses_found.Goals as goal

pub returns : goal.returns
returns c =
    let all : map deref c.loop-node.yielded ≡ values c.args.walk.now.found = search (rules, iter_end) in
    c.loop-node.invariant ∙ ap (flat_map (named_clauses c.args.net.now (take c.args.seen c.args.book.now.entries)))
    (all ∙ values-filter c.args.net.now c.requires.net c.args.walk.now.found.entries c.requires.walk.ordered c.requires.walk.numbered)
