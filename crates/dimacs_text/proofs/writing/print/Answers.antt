use Rattle.std.proofs.Common.{◌≡◌, ◌++◌, List, ℕ, [], Err, Ok, ap, ◌∙◌, subst}
use Rattle.std.proofs.lemmas.Result.{err_from_is_err_and}
use Rattle.desk_port.specs.Pieces.{Moves, StopsInPieces, WritesInPieces}
use Rattle.desk_port.proofs.Facts.{stops-none, in_pieces, in_pieces-counts}
use Rattle.dimacs_text.specs.CnfText.{cnf_text}
use Rattle.dimacs_text.proofs.writing.print.Goals as goal

pub returns-in_err-text-clause-answer : goal.returns-in_err-text-clause-answer
returns-in_err-text-clause-answer g c =
    let p = err_from_is_err_and c.from_residual.result c.from_residual.ensures.1 in
    rw (p.1, p.2)
    (stops-none (cnf_text c.args.variables c.args.clauses.now) (g.D.Desk.state c.args.desk.now) (g.D.Desk.sizes c.args.desk.now))

pub returns-in_err-put_all-clause-answer : goal.returns-in_err-put_all-clause-answer
returns-in_err-put_all-clause-answer g c =
    let p = err_from_is_err_and c.from_residual-in_err-put_all.result c.from_residual-in_err-put_all.ensures.1 in
    rw (p.1, p.2)
    (subst (λ (h : List ℕ). StopsInPieces (h ++ cnf_text c.args.variables c.args.clauses.now) c.in_err-put_all.field-0.0
    (g.D.Desk.state c.args.desk.now) (g.D.Desk.state c.put_all.new.desk) (g.D.Desk.sizes c.args.desk.now) (g.D.Desk.sizes c.put_all.new.desk))
    c.in_ok-text.ensures c.in_err-put_all.ensures.takes)

pub returns-in_err-put_all-clause-counts : goal.returns-in_err-put_all-clause-counts
returns-in_err-put_all-clause-counts g c =
    in_pieces-counts {A = Unit {0}} (cnf_text c.args.variables c.args.clauses.now) (g.D.Desk.state c.args.desk.now) (g.D.Desk.state c.put_all.new.desk)
    (g.D.Desk.sizes c.args.desk.now) (g.D.Desk.sizes c.put_all.new.desk) (Err c.in_err-put_all.field-0.0)
    (subst (λ (h : List ℕ). StopsInPieces (h ++ cnf_text c.args.variables c.args.clauses.now) c.in_err-put_all.field-0.0
    (g.D.Desk.state c.args.desk.now) (g.D.Desk.state c.put_all.new.desk) (g.D.Desk.sizes c.args.desk.now) (g.D.Desk.sizes c.put_all.new.desk))
    c.in_ok-text.ensures c.in_err-put_all.ensures.takes)

pub returns-clause-answer : goal.returns-clause-answer
returns-clause-answer g c =
    in_pieces (cnf_text c.args.variables c.args.clauses.now) c.put_all.new.text (g.D.Desk.state c.args.desk.now) (g.D.Desk.state c.put_all.new.desk) (g.D.Desk.state c.finish.new.desk)
    (g.D.Desk.sizes c.args.desk.now) (g.D.Desk.sizes c.put_all.new.desk) (g.D.Desk.sizes c.finish.new.desk)
    c.finish.ensures.less
    (subst (λ (h : List ℕ). Moves (cnf_text c.args.variables c.args.clauses.now) h c.put_all.new.text (g.D.Desk.state c.args.desk.now) (g.D.Desk.state c.put_all.new.desk)
    (g.D.Desk.sizes c.args.desk.now) (g.D.Desk.sizes c.put_all.new.desk)) c.in_ok-text.ensures c.in_ok-put_all.ensures.takes)
    c.finish.result c.finish.ensures.ends

pub returns-clause-counts : goal.returns-clause-counts
returns-clause-counts g c =
    in_pieces-counts (cnf_text c.args.variables c.args.clauses.now) (g.D.Desk.state c.args.desk.now) (g.D.Desk.state c.finish.new.desk)
    (g.D.Desk.sizes c.args.desk.now) (g.D.Desk.sizes c.finish.new.desk) c.finish.result
    (in_pieces (cnf_text c.args.variables c.args.clauses.now) c.put_all.new.text (g.D.Desk.state c.args.desk.now) (g.D.Desk.state c.put_all.new.desk) (g.D.Desk.state c.finish.new.desk)
    (g.D.Desk.sizes c.args.desk.now) (g.D.Desk.sizes c.put_all.new.desk) (g.D.Desk.sizes c.finish.new.desk)
    c.finish.ensures.less
    (subst (λ (h : List ℕ). Moves (cnf_text c.args.variables c.args.clauses.now) h c.put_all.new.text (g.D.Desk.state c.args.desk.now) (g.D.Desk.state c.put_all.new.desk)
    (g.D.Desk.sizes c.args.desk.now) (g.D.Desk.sizes c.put_all.new.desk)) c.in_ok-text.ensures c.in_ok-put_all.ensures.takes)
    c.finish.result c.finish.ensures.ends)
