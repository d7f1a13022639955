use Rattle.std.proofs.Common.{◌≡◌, ◌<◌, ◌≤◌, ◌++◌, ◌∷◌, [], List, ℕ, length, get_or, ap, sym, ◌∙◌, subst, arith}
use Rattle.std.proofs.lemmas.Result.{err_from_is_err_and}
use Rattle.std.proofs.lemmas.Option.{slice_get-get_or}
use Rattle.std.specs.Prelude.{Some, true}
use Rattle.lits.specs.declared.literal.Lit.{Lit}
use Rattle.lits.proofs.Facts.{all-slice_get}
use Rattle.netlist.specs.Miter.{axioms_of}
use Rattle.netlist.specs.Numbered.{AreThere}
use Rattle.netlist.proofs.Facts.{over-variables}
use Rattle.check_session.specs.MiterText.{line_of}
use Rattle.desk_port.specs.Pieces.{Moves, StopsInPieces}
use Rattle.desk_port.proofs.Facts.{taken-none, taken-more, taken-all, taken-stops}
use Rattle.check_session.proofs.miter_text.put_axioms.Goals as goal

pub loop-axiom-init : goal.loop-axiom-init
loop-axiom-init g c = taken-none c.args.text.now (g.D.Desk.state c.args.desk.now) (g.D.Desk.sizes c.args.desk.now)

pub put_clause-requires-clause-there : goal.put_clause-requires-clause-there
put_clause-requires-clause-there g c =
    let clauses = axioms_of c.args.net.now c.args.node in
    let whole = c.as_slice-axiom-items.ensures.clauses ∙ c.axioms-axioms.ensures in
    let within : c.loop-axiom.axiom-index < length clauses =
    subst (λ (l : List (List Lit)). c.loop-axiom.axiom-index < length l) whole c.loop-axiom-test.true in
    let is : c.axiom-item.result ≡ get_or clauses c.loop-axiom.axiom-index c.axiom-item.result =
    subst (λ (l : List (List Lit)). c.axiom-item.result ≡ get_or l c.loop-axiom.axiom-index c.axiom-item.result) whole c.axiom-item.is in
    subst (λ (l : List Lit). AreThere c.args.net.now l) (sym c.lits.ensures.lits)
    (all-slice_get (λ (l : List Lit). AreThere c.args.net.now l) clauses c.loop-axiom.axiom-index c.axiom-item.result
    (over-variables c.args.net.now c.requires.net c.args.node c.requires.there)
    (slice_get-get_or clauses c.loop-axiom.axiom-index c.axiom-item.result within ∙ ap (λ (l : List Lit). Some l) (sym is)))

pub loop-axiom-preserved : goal.loop-axiom-preserved
loop-axiom-preserved g c =
    let within : c.loop-axiom.axiom-index < length (axioms_of c.args.net.now c.args.node) = subst (λ (l : List (List Lit)). c.loop-axiom.axiom-index < length l) (c.as_slice-axiom-items.ensures.clauses ∙ c.axioms-axioms.ensures) c.loop-axiom-test.true in
    let is : c.axiom-item.result ≡ get_or (axioms_of c.args.net.now c.args.node) c.loop-axiom.axiom-index (c.axiom-item.result) = subst (λ (l : List (List Lit)). c.axiom-item.result ≡ get_or l c.loop-axiom.axiom-index c.axiom-item.result) (c.as_slice-axiom-items.ensures.clauses ∙ c.axioms-axioms.ensures) c.axiom-item.is in
    taken-more (line_of c.args.net.now) (axioms_of c.args.net.now c.args.node) c.loop-axiom.axiom-index c.args.text.now c.loop-axiom.text
    (g.D.Desk.state c.args.desk.now) (g.D.Desk.state c.loop-axiom.desk) (g.D.Desk.sizes c.args.desk.now) (g.D.Desk.sizes c.loop-axiom.desk)
    c.loop-axiom.invariant
    (c.axiom-item.result) c.put_clause.new.text (g.D.Desk.state c.put_clause.new.desk) (g.D.Desk.sizes c.put_clause.new.desk)
    within is
    (subst (λ (l : List Lit). Moves (line_of c.args.net.now l) c.loop-axiom.text c.put_clause.new.text (g.D.Desk.state c.loop-axiom.desk)
    (g.D.Desk.state c.put_clause.new.desk) (g.D.Desk.sizes c.loop-axiom.desk) (g.D.Desk.sizes c.put_clause.new.desk)) c.lits.ensures.lits c.in_ok-put_clause.ensures.takes) c.in_ok-put_clause.ensures.started

pub returns-in_err-put_clause-clause-takes : goal.returns-in_err-put_clause-clause-takes
returns-in_err-put_clause-clause-takes g c =
    let p = err_from_is_err_and c.from_residual.result c.from_residual.ensures.1 in
    let within : c.loop-axiom.axiom-index < length (axioms_of c.args.net.now c.args.node) = subst (λ (l : List (List Lit)). c.loop-axiom.axiom-index < length l) (c.as_slice-axiom-items.ensures.clauses ∙ c.axioms-axioms.ensures) c.loop-axiom-test.true in
    let is : c.axiom-item.result ≡ get_or (axioms_of c.args.net.now c.args.node) c.loop-axiom.axiom-index (c.axiom-item.result) = subst (λ (l : List (List Lit)). c.axiom-item.result ≡ get_or l c.loop-axiom.axiom-index c.axiom-item.result) (c.as_slice-axiom-items.ensures.clauses ∙ c.axioms-axioms.ensures) c.axiom-item.is in
    rw (p.1, p.2)
    (taken-stops (line_of c.args.net.now) (axioms_of c.args.net.now c.args.node) c.loop-axiom.axiom-index c.args.text.now c.loop-axiom.text
    (g.D.Desk.state c.args.desk.now) (g.D.Desk.state c.loop-axiom.desk) (g.D.Desk.sizes c.args.desk.now) (g.D.Desk.sizes c.loop-axiom.desk)
    c.loop-axiom.invariant
    (c.axiom-item.result) c.put_clause.new.text (g.D.Desk.state c.put_clause.new.desk) (g.D.Desk.sizes c.put_clause.new.desk)
    within is c.in_err-put_clause.field-0.0
    (subst (λ (l : List Lit). StopsInPieces (c.loop-axiom.text ++ line_of c.args.net.now l) c.in_err-put_clause.field-0.0 (g.D.Desk.state c.loop-axiom.desk)
    (g.D.Desk.state c.put_clause.new.desk) (g.D.Desk.sizes c.loop-axiom.desk) (g.D.Desk.sizes c.put_clause.new.desk)) c.lits.ensures.lits c.in_err-put_clause.ensures.takes))

pub returns-clause-takes : goal.returns-clause-takes
returns-clause-takes g c =
    taken-all (line_of c.args.net.now) (axioms_of c.args.net.now c.args.node) c.loop-axiom.axiom-index c.args.text.now c.loop-axiom.text
    (g.D.Desk.state c.args.desk.now) (g.D.Desk.state c.loop-axiom.desk) (g.D.Desk.sizes c.args.desk.now) (g.D.Desk.sizes c.loop-axiom.desk)
    c.loop-axiom.invariant
    (subst (λ (l : List (List Lit)). length l ≤ c.loop-axiom.axiom-index) (c.as_slice-axiom-items.ensures.clauses ∙ c.axioms-axioms.ensures) c.loop-axiom-test.false)
