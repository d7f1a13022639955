-- What is good over the opening book, which has no entry, is good over the first none of any that begins so.
use Rattle.std.proofs.Common.{◌≡◌, [], sym, subst}
use Rattle.lemma_book.specs.declared.entry.Entry.{Entry}
use Rattle.netlist.specs.Net.{AigPair}
use Rattle.lemma_book.specs.Entry.{Entries, first_entries}
use Rattle.lemma_book.specs.Good.{IsGood}
use Rattle.book_rows.proofs.machine.answers_to_both.Goals as goal

at-first : (net : AigPair) (book : Entries) (entry : Entry)
    → book ≡ record { sweep_budget = 1; out_budget = 1; entries = [] }
    → IsGood net book entry
    → IsGood net (first_entries 0 book) entry
at-first net book entry empty good =
    subst (λ (b : Entries). IsGood net (first_entries 0 b) entry) (sym empty)
    (subst (λ (b : Entries). IsGood net b entry) empty good)

pub appended-one-requires-clause-good : goal.appended-one-requires-clause-good
appended-one-requires-clause-good g c =
    at-first c.args.net.now c.args.book c.args.first c.requires.empty c.requires.first

pub appended-two-requires-clause-good : goal.appended-two-requires-clause-good
appended-two-requires-clause-good g c =
    subst (λ (b : Entries). IsGood c.args.net.now b c.args.again) (sym c.appended-one.ensures.first)
    (at-first c.args.net.now c.args.book c.args.again c.requires.empty c.requires.again)
