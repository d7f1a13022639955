use Rattle.std.proofs.Common.{◌+◌, ◌-◌, ◌*◌, ◌≤◌, length}
use Rattle.circuit_draft.specs.Steps.{AreLevels, Keeps, open_in}
use Rattle.circuit_draft.proofs.PathLemmas.{Walks}
use Rattle.circuit_draft.proofs.draft.Draft.climb.Given as goal

abbrev pub invariant-loop-gate : goal.invariant-loop-gate
invariant-loop-gate l = record {
  levels : AreLevels l.self l.levels;
  keeps : Keeps l.fn.levels l.levels;
  walk : Walks l.self l.levels l.root l.path.items;
  short : length l.path.items ≤ length l.levels;
}

abbrev pub decreases-loop-gate : goal.decreases-loop-gate
decreases-loop-gate l = 2 * open_in l.levels + (length l.levels + 1 - length l.path.items)
