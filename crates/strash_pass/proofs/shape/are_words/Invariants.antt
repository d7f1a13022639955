-- The words so far are the clauses'.
use Rattle.std.proofs.Common.{◌≡◌, take}
use Rattle.strash_pass.specs.Shapes.{words_in}
use Rattle.strash_pass.proofs.shape.are_words.Given as goal

abbrev pub invariant-loop-k : goal.invariant-loop-k
invariant-loop-k l = words_in (take l.k l.coded) ≡ take l.k l.words
