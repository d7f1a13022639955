-- What is left to be followed leads to the root, and the literals that were put last and those that are left are those
-- on the way.
use Rattle.std.proofs.Common.{◌≡◌, ◌-◌, ◌++◌, List, length}
use Rattle.lits.specs.declared.literal.Lit.{Lit}
use Rattle.lemma_book.specs.Root.{follow, passed, passed_by, root_of}
use Rattle.lemma_book.proofs.book.Book.root_by.Given as goal

abbrev pub invariant-loop-step : goal.invariant-loop-step
invariant-loop-step l = record {
  root : follow (length l.self.entries - l._step) l.self.entries l.lit ≡ root_of l.self.entries l.fn.lit;
  way : (some : List Lit) × (l.passed.items ≡ l.initial.passed.items ++ some)
      × (some ++ passed (length l.self.entries - l._step) l.self.entries l.lit ≡ passed_by l.self.entries l.fn.lit);
}
