-- The entry at the place stays, and is renewed, or goes.
use Rattle.std.proofs.Common.{Option, sym, subst, ◌∙◌, IfSome}
use Rattle.lemma_book.specs.declared.entry.Entry.{Entry}
use Rattle.lemma_book.specs.Good.{IsGood}
use Rattle.netlist_edits.specs.Edited.{touched_by}
use Rattle.keep_lemmas.proofs.KeptBooks.{at-stays}
use Rattle.keep_lemmas.proofs.kept_book.keep_entry.Goals as goal

pub put-requires-clause-good : goal.put-requires-clause-good
put-requires-clause-good c =
    subst (λ (o : Option Entry). IfSome o (λ e. IsGood c.args.new.now c.args.kept.now e))
    (at-stays c.args.old.now (touched_by c.args.touched.now) c.args.numbers.now c.args.book.now.entries c.args.place c.entry_at-entry.result.now
    c.entry_at-entry.ensures (sym c.entry_stays.ensures ∙ c.if-entry_stays.true)) c.requires.good
