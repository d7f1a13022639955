-- An entry that is good is settled by no other one.
use Rattle.std.proofs.Common.{◌≡◌, ℕ, Option, sym, subst, ◌∙◌, IfSome}
use Rattle.lemma_book.specs.declared.entry.Entry.{Entry}
use Rattle.lemma_book.specs.Entry.{first_entries}
use Rattle.lemma_book.specs.Book.{book_after}
use Rattle.lemma_book.specs.Good.{IsGood}
use Rattle.keep_lemmas.proofs.KeptBooks.{good-all, after-good, shared-after}
use Rattle.keep_lemmas.proofs.kept_book.share_last.Goals as goal

pub append_shared-requires-clause-good : goal.append_shared-requires-clause-good
append_shared-requires-clause-good c =
    subst (λ (o : Option Entry). IfSome o (λ e. IsGood c.args.net.now (first_entries c.len-known.result c.args.kept.now) e)) (sym c.requires.at)
    (subst (λ (n : ℕ). IsGood c.args.net.now (first_entries n c.args.kept.now) c.args.entry.now) (sym c.len-known.ensures)
    (good-all c.args.net.now c.args.kept.now c.args.entry.now c.requires.good))

pub returns-in-Ok-clause-ok : goal.returns-in-Ok-clause-ok
returns-in-Ok-clause-ok c =
    shared-after _ c.args.entry.now c.append_shared.result _ (λ e. c.append_shared.new.self ≡ book_after c.args.kept.now e) c.requires.at c.in-Ok.is
    c.append_shared.ensures.after
    ∙ after-good c.args.net.now c.args.kept.now c.args.entry.now c.requires.good
