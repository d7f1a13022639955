-- The book has the first so many entries.
use Rattle.std.proofs.Common.{◌≡◌, take}
use Rattle.lemma_book.proofs.book.Book.first.Given as goal

abbrev pub invariant-loop-i : goal.invariant-loop-i
invariant-loop-i l =
    l.book ≡ record { sweep_budget = l.self.sweep_budget; out_budget = l.self.out_budget; entries = take l.i l.self.entries }
