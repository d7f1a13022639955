use Rattle.std.proofs.Common.{◌≢◌, ℕ, ◌<◌}
use Rattle.std.specs.Prelude.{slice_index}
use Rattle.circuit_draft.specs.Steps.{AreLevels}
use Rattle.circuit_draft.proofs.draft.Draft.climb_all.Given as goal

abbrev pub invariant-loop-root : goal.invariant-loop-root
invariant-loop-root l = record {
  levels : AreLevels l.self l.levels;
  found : (p : ℕ) → p < l.root → slice_index l.levels p ≢ 0;
}
