-- The walk has found what the literals' nodes reach.
use Rattle.lemma_book.specs.Walk.{is_found}
use Rattle.lemma_book.proofs.cones.cone_over.Goals as goal

pub returns : goal.returns
returns c = record {
  reached = is_found c.in_ok-walk.walk;
  reach = c.in_ok-walk.ensures.reach;
  clauses = c.in_ok-cone.ensures;
}
