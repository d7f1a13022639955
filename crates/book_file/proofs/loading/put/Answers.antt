-- An entry that is good is settled by no other one.
use Rattle.std.proofs.Common.{ℕ, sym, subst, ◌∙◌}
use Rattle.lemma_book.specs.Entry.{first_entries}
use Rattle.lemma_book.specs.Good.{IsGood}
use Rattle.book_file.proofs.LoadLemmas.{good-all, after-good}
use Rattle.book_file.proofs.loading.put.Goals as goal

pub append-requires-clause-good : goal.append-requires-clause-good
append-requires-clause-good c =
    subst (λ (n : ℕ). IsGood c.args.net.now (first_entries n c.args.book.now) c.args.entry) (sym c.len-known.ensures)
    (good-all c.args.net.now c.args.book.now c.args.entry c.requires.good)

pub returns-in-Ok-clause-ok : goal.returns-in-Ok-clause-ok
returns-in-Ok-clause-ok c = c.in-Ok.ensures.after ∙ after-good c.args.net.now c.args.book.now c.args.entry c.requires.good
