use Rattle.std.proofs.Common.{List, ℕ, ◌∙◌, subst}
use Rattle.std.proofs.lemmas.Result.{err_from_is_err_and}
use Rattle.desk_port.specs.Pieces.{WritesInPieces}
use Rattle.desk_port.proofs.Facts.{stops-none}
use Rattle.book_file.specs.Writing.{book_text}
use Rattle.book_file.proofs.writing.print.Goals as goal

pub returns-in_err-text-clause-answer : goal.returns-in_err-text-clause-answer
returns-in_err-text-clause-answer g c =
    let p = err_from_is_err_and c.from_residual.result c.from_residual.ensures.1 in
    rw (p.1, p.2) (stops-none (book_text c.args.book.now.entries) (g.D.Desk.state c.args.desk.now) (g.D.Desk.sizes c.args.desk.now))

pub returns-clause-answer : goal.returns-clause-answer
returns-clause-answer g c =
    subst (λ (l : List ℕ). WritesInPieces l (g.D.Desk.state c.args.desk.now) (g.D.Desk.state c.put_in_pieces.new.desk)
    (g.D.Desk.sizes c.args.desk.now) (g.D.Desk.sizes c.put_in_pieces.new.desk) c.put_in_pieces.result)
    (c.as_slice.ensures.value ∙ c.in_ok-text.ensures.text) c.put_in_pieces.ensures.answer
