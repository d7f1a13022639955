-- The words of the clauses so far.
use Rattle.std.proofs.Common.{◌≡◌, take}
use Rattle.strash_pass.specs.Shapes.{words_in}
use Rattle.strash_pass.proofs.shape.words_in.Given as goal

abbrev pub invariant-loop-clause : goal.invariant-loop-clause
invariant-loop-clause l = l.words.items ≡ words_in (take l.clause-index l.coded)
