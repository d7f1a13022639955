-- The inputs of the first entries are handed out.
use Rattle.std.proofs.Common.{◌≡◌, take}
use Rattle.keep_lemmas.specs.Kept.{handed_out}
use Rattle.keep_lemmas.proofs.inputs.handed_out.Given as goal

abbrev pub invariant-loop-place : goal.invariant-loop-place
invariant-loop-place l = l.inputs.items ≡ handed_out (take l.place l.book.entries)
