use Rattle.std.proofs.Common.{◌≡◌, ◌∙◌, Some, ap, option_map, sym}
use Rattle.cec_top.specs.declared.kept.Kept.{Kept}
use Rattle.cec_top.specs.Check.{last_book}
use Rattle.cec_top.proofs.SavingLemmas.{last-got, saves-last}
use Rattle.cec_top.proofs.lemmas.save_lemmas.Goals as goal

pub returns-in-Some-last : goal.returns-in-Some-last
returns-in-Some-last g c =
    let kept = c.args.kept.now in
    let there : last_book kept ≡ Some c.in-Some-last.last.now.book =
    last-got kept ∙ ap (option_map (λ (k : Kept). k.book)) (sym c.in-Some-last.ensures.value) in
    rw c.in-Some.is
    (saves-last c.in-Some.name.now kept c.in-Some-last.last.now (g.D.Desk.state c.args.desk.now) (g.D.Desk.state c.save_book.new.desk)
    c.save_book.result there c.save_book.ensures)
