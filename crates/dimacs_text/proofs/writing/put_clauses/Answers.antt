use Rattle.std.proofs.Common.{◌≡◌, ◌++◌, List, ℕ, ap, ◌∙◌, subst, arith}
use Rattle.std.proofs.lemmas.Result.{err_from_is_err_and}
use Rattle.lits.specs.Dimacs.{DimacsLiteral}
use Rattle.desk_port.specs.Pieces.{Moves, StopsInPieces}
use Rattle.desk_port.proofs.Facts.{taken-none, taken-more, taken-all, taken-stops}
use Rattle.dimacs_text.specs.CnfText.{clause_text}
use Rattle.dimacs_text.proofs.writing.put_clauses.Goals as goal

pub loop-clause-init : goal.loop-clause-init
loop-clause-init g c = taken-none c.args.text.now (g.D.Desk.state c.args.desk.now) (g.D.Desk.sizes c.args.desk.now)

pub loop-clause-preserved : goal.loop-clause-preserved
loop-clause-preserved g c =
    taken-more clause_text c.args.clauses.now c.loop-clause.clause-index c.args.text.now c.loop-clause.text
    (g.D.Desk.state c.args.desk.now) (g.D.Desk.state c.loop-clause.desk) (g.D.Desk.sizes c.args.desk.now) (g.D.Desk.sizes c.loop-clause.desk)
    c.loop-clause.invariant
    c.clause-item.result c.clause.new.self (g.D.Desk.state c.clause.new.desk) (g.D.Desk.sizes c.clause.new.desk)
    c.loop-clause-test.true c.clause-item.is
    (subst (λ (l : List DimacsLiteral). Moves (clause_text l) c.loop-clause.text c.clause.new.self (g.D.Desk.state c.loop-clause.desk) (g.D.Desk.state c.clause.new.desk)
    (g.D.Desk.sizes c.loop-clause.desk) (g.D.Desk.sizes c.clause.new.desk))
    c.lits.ensures.lits c.in_ok-clause.ensures.takes) c.in_ok-clause.ensures.started

pub returns-in_err-clause-clause-takes : goal.returns-in_err-clause-clause-takes
returns-in_err-clause-clause-takes g c =
    let p = err_from_is_err_and c.from_residual.result c.from_residual.ensures.1 in
    rw (p.1, p.2)
    (taken-stops clause_text c.args.clauses.now c.loop-clause.clause-index c.args.text.now c.loop-clause.text
    (g.D.Desk.state c.args.desk.now) (g.D.Desk.state c.loop-clause.desk) (g.D.Desk.sizes c.args.desk.now) (g.D.Desk.sizes c.loop-clause.desk)
    c.loop-clause.invariant
    c.clause-item.result c.clause.new.self (g.D.Desk.state c.clause.new.desk) (g.D.Desk.sizes c.clause.new.desk)
    c.loop-clause-test.true c.clause-item.is c.in_err-clause.field-0.0 (subst (λ (l : List DimacsLiteral). StopsInPieces (c.loop-clause.text ++ clause_text l) c.in_err-clause.field-0.0
    (g.D.Desk.state c.loop-clause.desk) (g.D.Desk.state c.clause.new.desk)
    (g.D.Desk.sizes c.loop-clause.desk) (g.D.Desk.sizes c.clause.new.desk)) c.lits.ensures.lits c.in_err-clause.ensures.takes))

pub returns-clause-takes : goal.returns-clause-takes
returns-clause-takes g c =
    taken-all clause_text c.args.clauses.now c.loop-clause.clause-index c.args.text.now c.loop-clause.text
    (g.D.Desk.state c.args.desk.now) (g.D.Desk.state c.loop-clause.desk) (g.D.Desk.sizes c.args.desk.now) (g.D.Desk.sizes c.loop-clause.desk)
    c.loop-clause.invariant
    c.loop-clause-test.false
