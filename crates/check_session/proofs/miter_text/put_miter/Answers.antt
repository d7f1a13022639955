use Rattle.std.proofs.Common.{◌++◌, List, ℕ, length, sym, subst}
use Rattle.std.proofs.lemmas.Result.{err_from_is_err_and}
use Rattle.lits.specs.declared.node.Side.TheVariants.{A, B}
use Rattle.netlist.specs.Miter.{miter_of, variables_of}
use Rattle.dimacs_text.specs.CnfText.{header_text}
use Rattle.check_session.specs.MiterText.{defining_lines, unit_lines, xor_line}
use Rattle.desk_port.specs.Pieces.{StopsInPieces, Takes}
use Rattle.check_session.proofs.MiterTextLemmas.{miter-lines, first-stops, second-stops, third-takes}
use Rattle.check_session.proofs.miter_text.put_miter.Goals as goal

pub returns-in_err-put_header-clause-takes : goal.returns-in_err-put_header-clause-takes
returns-in_err-put_header-clause-takes g c =
    let p = err_from_is_err_and c.from_residual.result c.from_residual.ensures.1 in
    rw (p.1, p.2)
    (subst (λ (l : List ℕ). StopsInPieces (c.args.text.now ++ l) c.in_err-put_header.field-0.0 (g.D.Desk.state c.args.desk.now) (g.D.Desk.state c.put_header.new.desk) (g.D.Desk.sizes c.args.desk.now) (g.D.Desk.sizes c.put_header.new.desk))
    (sym (miter-lines c.args.net.now))
    (first-stops (header_text (length (variables_of c.args.net.now)) (length (miter_of c.args.net.now))) (defining_lines c.args.net.now) ((unit_lines c.args.net.now A ++ unit_lines c.args.net.now B) ++ xor_line c.args.net.now) c.args.text.now c.in_err-put_header.field-0.0 (g.D.Desk.state c.args.desk.now) (g.D.Desk.state c.put_header.new.desk) (g.D.Desk.sizes c.args.desk.now) (g.D.Desk.sizes c.put_header.new.desk)
    c.in_err-put_header.ensures.takes))

pub returns-in_err-put_defining-clause-takes : goal.returns-in_err-put_defining-clause-takes
returns-in_err-put_defining-clause-takes g c =
    let p = err_from_is_err_and c.from_residual-in_err-put_defining.result c.from_residual-in_err-put_defining.ensures.1 in
    rw (p.1, p.2)
    (subst (λ (l : List ℕ). StopsInPieces (c.args.text.now ++ l) c.in_err-put_defining.field-0.0 (g.D.Desk.state c.args.desk.now) (g.D.Desk.state c.put_defining.new.desk) (g.D.Desk.sizes c.args.desk.now) (g.D.Desk.sizes c.put_defining.new.desk))
    (sym (miter-lines c.args.net.now))
    (second-stops (header_text (length (variables_of c.args.net.now)) (length (miter_of c.args.net.now))) (defining_lines c.args.net.now) ((unit_lines c.args.net.now A ++ unit_lines c.args.net.now B) ++ xor_line c.args.net.now) c.args.text.now c.put_header.new.text c.in_err-put_defining.field-0.0 (g.D.Desk.state c.args.desk.now) (g.D.Desk.state c.put_header.new.desk) (g.D.Desk.state c.put_defining.new.desk)
    (g.D.Desk.sizes c.args.desk.now) (g.D.Desk.sizes c.put_header.new.desk) (g.D.Desk.sizes c.put_defining.new.desk) c.in_ok-put_header.ensures.takes c.in_err-put_defining.ensures.takes))

pub returns-clause-takes : goal.returns-clause-takes
returns-clause-takes g c =
    subst (λ (l : List ℕ). Takes l c.args.text.now c.put_others.new.text (g.D.Desk.state c.args.desk.now) (g.D.Desk.state c.put_others.new.desk) (g.D.Desk.sizes c.args.desk.now) (g.D.Desk.sizes c.put_others.new.desk) c.put_others.result)
    (sym (miter-lines c.args.net.now))
    (third-takes (header_text (length (variables_of c.args.net.now)) (length (miter_of c.args.net.now))) (defining_lines c.args.net.now) ((unit_lines c.args.net.now A ++ unit_lines c.args.net.now B) ++ xor_line c.args.net.now) c.args.text.now c.put_header.new.text c.put_defining.new.text c.put_others.new.text (g.D.Desk.state c.args.desk.now) (g.D.Desk.state c.put_header.new.desk) (g.D.Desk.state c.put_defining.new.desk) (g.D.Desk.state c.put_others.new.desk)
    (g.D.Desk.sizes c.args.desk.now) (g.D.Desk.sizes c.put_header.new.desk) (g.D.Desk.sizes c.put_defining.new.desk) (g.D.Desk.sizes c.put_others.new.desk) c.put_others.result
    c.in_ok-put_header.ensures.takes c.in_ok-put_defining.ensures.takes c.put_others.ensures.takes)
