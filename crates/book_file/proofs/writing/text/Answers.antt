use Rattle.std.proofs.Common.{◌∙◌, ◌++◌, List, ℕ, Option, ap}
use Rattle.std.specs.Prelude.{codes}
use Rattle.std.specs.List.{flat_map}
use Rattle.book_file.specs.Writing.{lemmas_of, lines_of}
use Rattle.book_file.proofs.PlaceLemmas.{text-all}
use Rattle.book_file.proofs.TextLemmas.{text-spells}
use Rattle.book_file.proofs.WrittenLemmas.{lemmas-can}
use Rattle.book_file.proofs.writing.text.Goals as goal

pub returns-clause-text : goal.returns-clause-text
returns-clause-text c =
    let es = c.args.book.now.entries in
    text-all es c.in_ok-numbers.numbers.items c.push_entries.new.text.items c.in_ok-numbers.ensures.numbers
    (c.in_ok-push_entries.ensures.text
    ∙ ap (λ (t : List ℕ). t ++ flat_map (lines_of c.as_slice.result.now) es)
    (c.in_ok-extend_from_slice.ensures.items ∙ ap (λ (t : List ℕ). t ++ codes "lemmas 1\n") c.new-text.ensures.items)
    ∙ ap (λ (ns : List (Option ℕ)). codes "lemmas 1\n" ++ flat_map (lines_of ns) es) c.as_slice.ensures.value)

pub returns-clause-spells : goal.returns-clause-spells
returns-clause-spells c legal =
    text-spells (lemmas_of c.args.book.now.entries)
    (lemmas-can legal.net c.args.book.now legal.legal c.budgets_are_low.ensures.sweep c.budgets_are_low.ensures.out c.in_ok-numbers.ensures.few
    c.in_ok-push_entries.ensures.fit)
