use Rattle.std.proofs.Common.{◌≡◌, ◌++◌, drop}
use Rattle.sweep_workers.specs.Swept.{apart_inputs}
use Rattle.sweep_workers.proofs.inputs.join_inputs.Given as goal

-- what has joined, and what is to come, is what was to come at the start
abbrev pub invariant-loop-place : goal.invariant-loop-place
invariant-loop-place l = record {
  inputs : l.pool.inputs ≡ l.fn.pool.inputs;
  patterns : l.pool.patterns ++ apart_inputs (drop l.place l.book.entries) ≡ l.fn.pool.patterns ++ apart_inputs (drop l.fn.from l.book.entries);
}
