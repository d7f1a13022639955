use Rattle.std.proofs.Common.{◌≡◌, ◌++◌, List, ℕ, [], Err, Ok, ap, ◌∙◌, subst}
use Rattle.std.proofs.lemmas.Result.{err_from_is_err_and}
use Rattle.desk_port.specs.Pieces.{Moves, StopsInPieces, WritesInPieces}
use Rattle.desk_port.proofs.PieceLemmas.{stops-none, in_pieces, in_pieces-counts}
use Rattle.desk_port.proofs.pieces.put_in_pieces.Goals as goal

pub returns-in_err-pieces-clause-answer : goal.returns-in_err-pieces-clause-answer
returns-in_err-pieces-clause-answer g c =
    let p = err_from_is_err_and c.from_residual.result c.from_residual.ensures.1 in
    rw (p.1, p.2)
    (stops-none c.args.text.now (g.D.Desk.state c.args.desk.now) (g.D.Desk.sizes c.args.desk.now))

pub returns-in_err-put-clause-answer : goal.returns-in_err-put-clause-answer
returns-in_err-put-clause-answer g c =
    let p = err_from_is_err_and c.from_residual-in_err-put.result c.from_residual-in_err-put.ensures.1 in
    rw (p.1, p.2)
    (subst (λ (h : List ℕ). StopsInPieces (h ++ c.args.text.now) c.in_err-put.field-0.0
    (g.D.Desk.state c.args.desk.now) (g.D.Desk.state c.put.new.desk) (g.D.Desk.sizes c.args.desk.now) (g.D.Desk.sizes c.put.new.desk))
    c.in_ok-pieces.ensures c.in_err-put.ensures.takes)

pub returns-in_err-put-clause-counts : goal.returns-in_err-put-clause-counts
returns-in_err-put-clause-counts g c =
    in_pieces-counts {A = Unit {0}} c.args.text.now (g.D.Desk.state c.args.desk.now) (g.D.Desk.state c.put.new.desk)
    (g.D.Desk.sizes c.args.desk.now) (g.D.Desk.sizes c.put.new.desk) (Err c.in_err-put.field-0.0)
    (subst (λ (h : List ℕ). StopsInPieces (h ++ c.args.text.now) c.in_err-put.field-0.0
    (g.D.Desk.state c.args.desk.now) (g.D.Desk.state c.put.new.desk) (g.D.Desk.sizes c.args.desk.now) (g.D.Desk.sizes c.put.new.desk))
    c.in_ok-pieces.ensures c.in_err-put.ensures.takes)

pub returns-clause-answer : goal.returns-clause-answer
returns-clause-answer g c =
    in_pieces c.args.text.now c.put.new.self (g.D.Desk.state c.args.desk.now) (g.D.Desk.state c.put.new.desk) (g.D.Desk.state c.finish.new.desk)
    (g.D.Desk.sizes c.args.desk.now) (g.D.Desk.sizes c.put.new.desk) (g.D.Desk.sizes c.finish.new.desk)
    c.finish.ensures.less
    (subst (λ (h : List ℕ). Moves c.args.text.now h c.put.new.self (g.D.Desk.state c.args.desk.now) (g.D.Desk.state c.put.new.desk)
    (g.D.Desk.sizes c.args.desk.now) (g.D.Desk.sizes c.put.new.desk)) c.in_ok-pieces.ensures c.in_ok-put.ensures.takes)
    c.finish.result c.finish.ensures.ends

pub returns-clause-counts : goal.returns-clause-counts
returns-clause-counts g c =
    in_pieces-counts c.args.text.now (g.D.Desk.state c.args.desk.now) (g.D.Desk.state c.finish.new.desk)
    (g.D.Desk.sizes c.args.desk.now) (g.D.Desk.sizes c.finish.new.desk) c.finish.result
    (in_pieces c.args.text.now c.put.new.self (g.D.Desk.state c.args.desk.now) (g.D.Desk.state c.put.new.desk) (g.D.Desk.state c.finish.new.desk)
    (g.D.Desk.sizes c.args.desk.now) (g.D.Desk.sizes c.put.new.desk) (g.D.Desk.sizes c.finish.new.desk)
    c.finish.ensures.less
    (subst (λ (h : List ℕ). Moves c.args.text.now h c.put.new.self (g.D.Desk.state c.args.desk.now) (g.D.Desk.state c.put.new.desk)
    (g.D.Desk.sizes c.args.desk.now) (g.D.Desk.sizes c.put.new.desk)) c.in_ok-pieces.ensures c.in_ok-put.ensures.takes)
    c.finish.result c.finish.ensures.ends)
