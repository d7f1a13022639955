use Rattle.std.proofs.Common.{◌++◌, List, ℕ, subst}
use Rattle.std.proofs.lemmas.Result.{err_from_is_err_and}
use Rattle.desk_port.specs.Pieces.{Moves, StopsInPieces}
use Rattle.desk_port.proofs.Facts.{stops-none, in_pieces}
use Rattle.check_session.specs.Files.{cnf_text_of}
use Rattle.check_session.proofs.write.MiterContent.put.Goals as goal

pub returns-in_err-text-clause-puts : goal.returns-in_err-text-clause-puts
returns-in_err-text-clause-puts g c =
    let p = err_from_is_err_and c.from_residual.result c.from_residual.ensures.1 in
    rw (p.1, p.2) (stops-none (cnf_text_of c.args.self.now.0.now) (g.D.Desk.state c.args.desk.now) (g.D.Desk.sizes c.args.desk.now))

pub returns-in_err-put_miter-clause-puts : goal.returns-in_err-put_miter-clause-puts
returns-in_err-put_miter-clause-puts g c =
    let p = err_from_is_err_and c.from_residual-in_err-put_miter.result c.from_residual-in_err-put_miter.ensures.1 in
    rw (p.1, p.2)
    (subst (λ (h : List ℕ). StopsInPieces (h ++ cnf_text_of c.args.self.now.0.now) c.in_err-put_miter.field-0.0 (g.D.Desk.state c.args.desk.now)
    (g.D.Desk.state c.put_miter.new.desk) (g.D.Desk.sizes c.args.desk.now) (g.D.Desk.sizes c.put_miter.new.desk))
    c.in_ok-text.ensures c.in_err-put_miter.ensures.takes)

pub returns-clause-puts : goal.returns-clause-puts
returns-clause-puts g c =
    in_pieces (cnf_text_of c.args.self.now.0.now) c.put_miter.new.text (g.D.Desk.state c.args.desk.now) (g.D.Desk.state c.put_miter.new.desk)
    (g.D.Desk.state c.finish.new.desk) (g.D.Desk.sizes c.args.desk.now) (g.D.Desk.sizes c.put_miter.new.desk) (g.D.Desk.sizes c.finish.new.desk)
    c.finish.ensures.less
    (subst (λ (h : List ℕ). Moves (cnf_text_of c.args.self.now.0.now) h c.put_miter.new.text (g.D.Desk.state c.args.desk.now)
    (g.D.Desk.state c.put_miter.new.desk) (g.D.Desk.sizes c.args.desk.now) (g.D.Desk.sizes c.put_miter.new.desk))
    c.in_ok-text.ensures c.in_ok-put_miter.ensures.takes)
    c.finish.result c.finish.ensures.ends
