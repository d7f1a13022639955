use Rattle.std.proofs.Common.{◌≡◌, ℕ, ◌+◌, ◌<◌, Bool, List, ◌++◌, drop, length, map}
use Rattle.netlist.specs.Miter.{miter_of}
use Rattle.lrat_text.specs.declared.step.LratStep.{LratStep}
use Rattle.proof_stitch.specs.Progress.{GoesOn}
use Rattle.proof_stitch.specs.Steps.{additions}
use Rattle.proof_stitch.specs.Table.{HasMarks, KeepsShape}
use Rattle.proof_stitch.specs.Trimmed.{reached}
use Rattle.proof_stitch.specs.Written.{written_steps}
use Rattle.proof_stitch.proofs.BookLemmas.{total}
use Rattle.proof_stitch.proofs.entries.push_entries.Given as goal

-- what holds before the entries that are left
abbrev pub invariant-loop-place : goal.invariant-loop-place
invariant-loop-place g l = record {
  first_is : l.first + total (map written_steps (drop l.place l.book.entries)) ≡ length (miter_of l.net) + 1 + total (map written_steps l.book.entries);
  above : length (miter_of l.net) < l.first;
  shape : KeepsShape l.initial.names l.names;
  behind : l.proof.last < l.first;
  started : (g.D.Desk.state l.desk).started ≡ (g.D.Desk.state l.initial.desk).started;
  text : (asked : ℕ → Bool) (all left : List LratStep) → HasMarks asked (reached asked all) l.marks
      → GoesOn (length (miter_of l.net)) asked all
      (additions l.net l.shown (length (miter_of l.net) + 1) (map written_steps l.book.entries) ++ left)
      (additions l.net l.shown l.first (map written_steps (drop l.place l.book.entries)) ++ left) (length (miter_of l.net) + 1) l.first
      l.initial.names l.names l.initial.proof l.proof
      (g.D.Desk.state l.initial.desk) (g.D.Desk.state l.desk) (g.D.Desk.sizes l.initial.desk) (g.D.Desk.sizes l.desk);
}
