use Rattle.std.proofs.Common.{◌+◌, drop, length}
use Rattle.netlist.specs.Miter.{miter_of}
use Rattle.proof_stitch.proofs.WriterLemmas.{IsAtShown}
use Rattle.proof_stitch.proofs.shown.shown_ids.Given as goal

abbrev pub invariant-loop-place : goal.invariant-loop-place
invariant-loop-place l = IsAtShown l.net (length (miter_of l.net) + 1) l.book.entries (drop l.place l.book.entries) l.shown.items l.next
