-- The places so far, and those that are left, are those to the root.
use Rattle.std.proofs.Common.{◌≡◌, ◌-◌, ◌++◌, length}
use Rattle.lemma_book.specs.Root.{followed, path_of}
use Rattle.lemma_book.proofs.book.Book.path.Given as goal

abbrev pub invariant-loop-step : goal.invariant-loop-step
invariant-loop-step l = l.path.items ++ followed (length l.self.entries - l._step) l.self.entries l.lit ≡ path_of l.self.entries l.fn.lit
