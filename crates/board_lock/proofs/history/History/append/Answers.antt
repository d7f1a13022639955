use Rattle.std.proofs.Common.{ap, ◌∙◌}
use Rattle.lemma_book.specs.Book.{answer_to}
use Rattle.board_lock.specs.Story.{Story}
use Rattle.board_lock.proofs.BookLemmas.{answer-good}
use Rattle.board_lock.proofs.history.History.append.Goals as goal

pub returns-in-Ok-append-clause-machine : goal.returns-in-Ok-append-clause-machine
returns-in-Ok-append-clause-machine c =
    answer-good c.args.net.now c.args.self.now.book c.args.known c.args.entry c.in-Ok-append.offered c.requires.good
    (c.in-Ok-append.ensures.answer.0 ∙ ap (λ (h : Story). answer_to h.book c.args.entry) c.self.view_is)
