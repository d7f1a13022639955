use Rattle.std.proofs.Common.{◌≡◌, ℕ, ◌+◌, ◌≤◌, Bool, List, ◌++◌, drop, length, map}
use Rattle.netlist.specs.Miter.{miter_of}
use Rattle.lrat_text.specs.declared.step.LratStep.{LratStep}
use Rattle.proof_stitch.specs.Steps.{additions}
use Rattle.proof_stitch.specs.Table.{HasMarks, KeepsShape}
use Rattle.proof_stitch.specs.Trimmed.{reached}
use Rattle.proof_stitch.specs.Written.{written_steps}
use Rattle.proof_stitch.proofs.BookLemmas.{total}
use Rattle.proof_stitch.proofs.reach.reach.Given as goal

-- the entries from that place on are done
abbrev pub invariant-loop-place : goal.invariant-loop-place
invariant-loop-place l = record {
  within : l.place ≤ length l.book.entries;
  first_is : l.first + total (map written_steps (drop l.place l.book.entries)) ≡ length (miter_of l.net) + 1 + total (map written_steps l.book.entries);
  shape : KeepsShape l.initial.marks l.marks;
  marks : (asked : ℕ → Bool) (behind : List LratStep) → HasMarks asked (reached asked behind) l.initial.marks
      → HasMarks asked (reached asked (additions l.net l.shown l.first (map written_steps (drop l.place l.book.entries)) ++ behind)) l.marks;
}

abbrev pub decreases-loop-place : goal.decreases-loop-place
decreases-loop-place l = l.place
