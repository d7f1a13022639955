use Rattle.std.proofs.Common.{length, ap, ◌∙◌}
use Rattle.std.proofs.lemmas.Result.{err_from_is_err_and}
use Rattle.desk_port.specs.Desk.{Sizes, and_sizes}
use Rattle.desk_port.specs.Pieces.{piece_sizes}
use Rattle.endings.proofs.WritingLemmas.{between-close, between-put, closed, stops-close, stops-put}
use Rattle.endings.proofs.writing.write_file.Goals as goal

pub returns-in_err-told-clause-writes : goal.returns-in_err-told-clause-writes
returns-in_err-told-clause-writes g c =
    let p = err_from_is_err_and c.from_residual-in_err-told.result c.from_residual-in_err-told.ensures.1 in
    rw (p.1, p.2)
    (stops-put (record { name = c.args.name.now; bytes = g.C.Content.bytes c.args.content.now })
    (g.D.Desk.state c.args.desk.now) (g.D.Desk.state c.start.new.self) (g.D.Desk.state c.put.new.desk)
    c.in_ok-start.ensures.answer c.in_err-told.field-0.0 (g.D.Desk.sizes c.start.new.self) (g.D.Desk.sizes c.put.new.desk)
    c.in_err-told.ensures.puts)

pub returns-in_err-close-clause-writes : goal.returns-in_err-close-clause-writes
returns-in_err-close-clause-writes g c =
    let p = err_from_is_err_and c.from_residual-in_err-close.result c.from_residual-in_err-close.ensures.1 in
    rw (p.1, p.2)
    (stops-close (record { name = c.args.name.now; bytes = g.C.Content.bytes c.args.content.now })
    (g.D.Desk.state c.args.desk.now) (g.D.Desk.state c.start.new.self) (g.D.Desk.state c.put.new.desk)
    c.in_ok-start.ensures.answer (g.D.Desk.state c.close.new.self) c.in_err-close.field-0.0
    c.in_ok-told.ensures.puts.0 c.in_err-close.ensures.answer)

pub returns-clause-writes : goal.returns-clause-writes
returns-clause-writes g c =
    closed (record { name = c.args.name.now; bytes = g.C.Content.bytes c.args.content.now })
    (g.D.Desk.state c.args.desk.now) (g.D.Desk.state c.start.new.self) (g.D.Desk.state c.put.new.desk)
    c.in_ok-start.ensures.answer (g.D.Desk.state c.close.new.self) c.in_ok-told.ensures.puts.0 c.in_ok-close.ensures.answer

pub returns-clause-sizes : goal.returns-clause-sizes
returns-clause-sizes g c =
    c.close.ensures.sizes
    ∙ c.in_ok-told.ensures.puts.1
    ∙ ap (λ (z : Sizes). and_sizes z (piece_sizes (length (g.C.Content.bytes c.args.content.now)))) c.start.ensures.sizes

pub returns-in_err-told-clause-refused : goal.returns-in_err-told-clause-refused
returns-in_err-told-clause-refused g c =
    let p = err_from_is_err_and c.from_residual-in_err-told.result c.from_residual-in_err-told.ensures.1 in
    rw (p.1, p.2)
    (between-put (record { name = c.args.name.now; bytes = g.C.Content.bytes c.args.content.now })
    (g.D.Desk.state c.args.desk.now) (g.D.Desk.state c.start.new.self) (g.D.Desk.state c.put.new.desk)
    c.in_ok-start.ensures.answer c.in_err-told.field-0.0 (g.D.Desk.sizes c.args.desk.now) (g.D.Desk.sizes c.start.new.self)
    (g.D.Desk.sizes c.put.new.desk) c.start.ensures.sizes c.in_err-told.ensures.puts)

pub returns-in_err-close-clause-refused : goal.returns-in_err-close-clause-refused
returns-in_err-close-clause-refused g c =
    let p = err_from_is_err_and c.from_residual-in_err-close.result c.from_residual-in_err-close.ensures.1 in
    rw (p.1, p.2)
    (between-close (record { name = c.args.name.now; bytes = g.C.Content.bytes c.args.content.now })
    (g.D.Desk.state c.args.desk.now) (g.D.Desk.state c.start.new.self) (g.D.Desk.state c.put.new.desk)
    c.in_ok-start.ensures.answer (g.D.Desk.state c.close.new.self) c.in_err-close.field-0.0
    (g.D.Desk.sizes c.args.desk.now) (g.D.Desk.sizes c.start.new.self) (g.D.Desk.sizes c.put.new.desk)
    (g.D.Desk.sizes c.close.new.self) c.start.ensures.sizes c.in_ok-told.ensures.puts.0 c.in_ok-told.ensures.puts.1
    c.close.ensures.sizes c.in_err-close.ensures.answer)
