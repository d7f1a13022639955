use Rattle.std.proofs.Common.{◌≡◌, ◌+◌, drop, map}
use Rattle.proof_stitch.specs.Written.{written_steps}
use Rattle.proof_stitch.proofs.BookLemmas.{total}
use Rattle.proof_stitch.proofs.shown.written_count.Given as goal

abbrev pub invariant-loop-place : goal.invariant-loop-place
invariant-loop-place l = l.count + total (map written_steps (drop l.place l.book.entries)) ≡ total (map written_steps l.book.entries)
