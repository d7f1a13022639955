-- The gates so far were visited.
use Rattle.std.proofs.Common.{◌≡◌, ◌+◌}
use Rattle.lemma_book.specs.Book.{IsLegal}
use Rattle.strash_pass.specs.Merged.{AreMergesOf}
use Rattle.strash_pass.specs.Strash.{AddsStructural}
use Rattle.strash_pass.specs.Pass.{gates_before, IsPass}
use Rattle.strash_pass.proofs.pass.visit_side.Given as goal

abbrev pub invariant-loop-gate : goal.invariant-loop-gate
invariant-loop-gate l = record {
  legal : IsLegal l.net l.book;
  grows : AddsStructural l.net (gates_before l.net l.side) l.pass.visited l.fn.book l.book;
  pass : IsPass l.net l.book.entries l.pass.twins l.pass.visited;
  merged : AreMergesOf l.net l.book.entries l.pass.merged;
  visited : l.pass.visited ≡ gates_before l.net l.side + l.gate-index;
}
