-- The walk has found the literals' nodes.
use Rattle.std.proofs.Common.{◌∙◌, ap, take}
use Rattle.std.specs.List.{flat_map}
use Rattle.lits.specs.Clause.{has}
use Rattle.lits.specs.Same.{same_node}
use Rattle.netlist.specs.Miter.{variables_of}
use Rattle.lemma_book.specs.Cone.{nodes_in, named_clauses}
use Rattle.lemma_book.specs.Walk.{is_found}
use Rattle.lemma_book.proofs.RepeatLemmas.{filter-same}
use Rattle.lemma_book.proofs.cones.clauses_on.Goals as goal

pub returns : goal.returns
returns c =
    c.in_ok-clauses.ensures
    ∙ ap (flat_map (named_clauses c.args.net.now (take c.args.seen c.args.book.now.entries)))
    (filter-same (is_found c.in_ok-walk.walk) (has same_node (nodes_in c.args.lits.now)) c.in_ok-walk.ensures.found (variables_of c.args.net.now))
