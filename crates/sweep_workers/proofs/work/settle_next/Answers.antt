use Rattle.std.proofs.Common.{Some, sym, ap, ◌∙◌, arith}
use Rattle.std.proofs.lemmas.List.{get_or_read, length-map}
use Rattle.sweep_workers.specs.declared.asked.Asked.{Asked}
use Rattle.sweep_workers.specs.declared.asked.Asked.TheVariants.{Output}
use Rattle.sweep_workers.specs.Asked.{question_in, questions}
use Rattle.sweep_workers.proofs.WorkLemmas.{drew-below, owes-drawn, works-ended, question-read}
use Rattle.sweep_workers.proofs.work.settle_next.Goals as goal

pub returns-in-None-clause-works : goal.returns-in-None-clause-works
returns-in-None-clause-works g c =
    (works-ended c.args.round.now.board (questions c.args.round.now.tasks.items) c.args.pass.now c.draw.new.self c.requires.works
    c.draw.ensures.spent.table c.in-None.ensures.drew (length-map c.args.round.now.tasks.items question_in ∙ c.requires.round.count)).0

pub returns-in-None-clause-end : goal.returns-in-None-clause-end
returns-in-None-clause-end g c = λ done.
    (works-ended c.args.round.now.board (questions c.args.round.now.tasks.items) c.args.pass.now c.draw.new.self c.requires.works
    c.draw.ensures.spent.table c.in-None.ensures.drew (length-map c.args.round.now.tasks.items question_in ∙ c.requires.round.count)).1

pub settle-requires-clause-owes : goal.settle-requires-clause-owes
settle-requires-clause-owes g c κs lives =
    let below = drew-below c.args.round.now.board.tasks c.args.pass.now c.draw.new.self c.in-Some.number c.in-Some.ensures.drew in
    let count = c.requires.round.count in
    owes-drawn c.args.round.now.board (questions c.args.round.now.tasks.items) c.args.pass.now c.draw.new.self c.requires.works
    c.draw.ensures.spent.table c.in-Some.number (question_in c.index-asked.result.now) c.in-Some.ensures.drew
    (question-read c.args.round.now.tasks.items c.in-Some.number (Output 0) (omega arith)
    ∙ ap (λ (a : Asked). Some (question_in a)) (sym (get_or_read c.args.round.now.tasks.items _ _ (omega arith) c.index-asked.ensures (Output 0))))
