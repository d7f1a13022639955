use Rattle.std.proofs.Common.{◌++◌, List, ℕ, sym, subst}
use Rattle.std.proofs.lemmas.Result.{err_from_is_err_and}
use Rattle.std.specs.Prelude.{codes}
use Rattle.std.specs.List.{flat_map}
use Rattle.check_session.specs.MiterText.{word_of}
use Rattle.check_session.proofs.MiterTextLemmas.{line-words}
use Rattle.desk_port.specs.Pieces.{StopsInPieces, Takes}
use Rattle.desk_port.proofs.Facts.{stops-first, takes-then}
use Rattle.check_session.proofs.miter_text.put_clause.Goals as goal

pub returns-in_err-put_words-clause-takes : goal.returns-in_err-put_words-clause-takes
returns-in_err-put_words-clause-takes g c =
    let p = err_from_is_err_and c.from_residual.result c.from_residual.ensures.1 in
    rw (p.1, p.2)
    (subst (λ (l : List ℕ). StopsInPieces (c.args.text.now ++ l) c.in_err-put_words.field-0.0 (g.D.Desk.state c.args.desk.now) (g.D.Desk.state c.put_words.new.desk) (g.D.Desk.sizes c.args.desk.now) (g.D.Desk.sizes c.put_words.new.desk))
    (sym (line-words c.args.net.now c.args.lits.now))
    (stops-first (flat_map (word_of c.args.net.now) c.args.lits.now) (codes "0\n") c.args.text.now c.in_err-put_words.field-0.0 (g.D.Desk.state c.args.desk.now) (g.D.Desk.state c.put_words.new.desk) (g.D.Desk.sizes c.args.desk.now) (g.D.Desk.sizes c.put_words.new.desk)
    c.in_err-put_words.ensures.takes))

pub returns-clause-takes : goal.returns-clause-takes
returns-clause-takes g c =
    subst (λ (l : List ℕ). Takes l c.args.text.now c.end_clause.new.self (g.D.Desk.state c.args.desk.now) (g.D.Desk.state c.end_clause.new.desk) (g.D.Desk.sizes c.args.desk.now) (g.D.Desk.sizes c.end_clause.new.desk) c.end_clause.result)
    (sym (line-words c.args.net.now c.args.lits.now))
    (takes-then (flat_map (word_of c.args.net.now) c.args.lits.now) (codes "0\n") c.args.text.now c.put_words.new.text c.end_clause.new.self (g.D.Desk.state c.args.desk.now) (g.D.Desk.state c.put_words.new.desk) (g.D.Desk.state c.end_clause.new.desk)
    (g.D.Desk.sizes c.args.desk.now) (g.D.Desk.sizes c.put_words.new.desk) (g.D.Desk.sizes c.end_clause.new.desk)
    c.end_clause.result c.in_ok-put_words.ensures.takes c.end_clause.ensures.takes)
