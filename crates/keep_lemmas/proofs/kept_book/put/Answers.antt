-- Where the hints have their new numbers, renewing changes nothing.
use Rattle.std.proofs.Common.{◌≡◌, sym, subst, ◌∙◌, OnOk}
use Rattle.lemma_book.specs.declared.entry.Entry.{Entry}
use Rattle.lemma_book.specs.Entry.{with_last}
use Rattle.lemma_book.specs.Good.{IsGood}
use Rattle.keep_lemmas.proofs.KeptBooks.{current-entry}
use Rattle.keep_lemmas.proofs.kept_book.put.Goals as goal

pub share_last-requires-clause-good : goal.share_last-requires-clause-good
share_last-requires-clause-good c =
    subst (λ (e : Entry). IsGood c.args.net.now c.args.kept.now e)
    (current-entry c.args.numbers.now c.args.entry.now (sym c.is_current.ensures ∙ c.if-is_current.true)) c.requires.good

pub returns-then-is_current-clause-ok : goal.returns-then-is_current-clause-ok
returns-then-is_current-clause-ok c =
    subst (λ (e : Entry). OnOk c.share_last.result (c.share_last.new.kept ≡ with_last c.args.kept.now e))
    (sym (current-entry c.args.numbers.now c.args.entry.now (sym c.is_current.ensures ∙ c.if-is_current.true))) c.share_last.ensures.ok
