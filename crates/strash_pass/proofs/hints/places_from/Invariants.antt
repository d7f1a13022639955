-- The places so far lead on from the marks.
use Rattle.strash_pass.proofs.ShapeLemmas.{IsStraightTo}
use Rattle.strash_pass.proofs.hints.places_from.Given as goal

abbrev pub invariant-loop : goal.invariant-loop
invariant-loop l = IsStraightTo l.words l.fn.marks l.marks l.places.items
