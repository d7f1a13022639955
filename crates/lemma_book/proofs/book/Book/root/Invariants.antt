-- What is left to be followed leads to the root.
use Rattle.std.proofs.Common.{◌≡◌, ◌-◌, length}
use Rattle.lemma_book.specs.Root.{follow, root_of}
use Rattle.lemma_book.proofs.book.Book.root.Given as goal

abbrev pub invariant-loop-step : goal.invariant-loop-step
invariant-loop-step l = follow (length l.self.entries - l._step) l.self.entries l.lit ≡ root_of l.self.entries l.fn.lit
