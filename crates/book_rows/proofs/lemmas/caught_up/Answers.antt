-- Each book starts with the empty one of its budgets.
use Rattle.std.proofs.Common.{◌≡◌, [], ℕ, refl, sym, subst}
use Rattle.lemma_book.specs.Entry.{Entries}
use Rattle.lemma_book.specs.Book.{StartsWith}
use Rattle.book_rows.proofs.lemmas.caught_up.Goals as goal

starts : (book first : Entries) (s o : ℕ)
    → first ≡ record { sweep_budget = s; out_budget = o; entries = [] }
    → s ≡ book.sweep_budget
    → o ≡ book.out_budget
    → StartsWith book first
starts book first s o is_empty sweep out =
    subst (λ (f : Entries). StartsWith book f) (sym is_empty)
    (record { rest = book.entries; entries = refl; sweep = sym sweep; out = sym out })

pub catch_up-requires : goal.catch_up-requires
catch_up-requires g c =
    starts c.args.book.now c.new-other.result c.sweep_budget.result c.out_budget.result c.new-other.ensures
    c.sweep_budget.ensures.budget c.out_budget.ensures.budget
